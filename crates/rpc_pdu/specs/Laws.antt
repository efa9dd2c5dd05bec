-- The laws of the grammar.
use Rattle.std.specs.Prelude.{◌≡◌, ℕ, ◌≤◌, ◌++◌, List, [], ◌∷◌, length, take, ◌↔◌}
use Rattle.rpc_pdu.specs.declared.pdus.Side.{Side}
use Rattle.rpc_pdu.specs.declared.pdus.Pdu.{Pdu}
use Rattle.rpc_pdu.specs.Bodies.{Front, Whole, Rest, Refused, front}
use Rattle.rpc_pdu.specs.Grammar.{IsPdu}
use Rattle.rpc_pdu.specs.Written.{written, reader_of, size_of, HasWholeIds, LacksObject}

-- what is decided, however the stream goes on
abbrev pub Stays : Front → Side → List ℕ → List ℕ → Type 0
Stays (Whole pdu size) side bytes more = (front side (bytes ++ more) ≡ Whole pdu size) × (16 ≤ size)
    × (size ≤ length bytes)
Stays (Refused place cause ptype id) side bytes more = (front side (bytes ++ more) ≡ Refused place cause ptype id)
    × (place ≤ length bytes)
Stays Rest side bytes more = Unit {0}

-- what is whole or refused stays so
abbrev pub IsStable : Type 0
IsStable = (side : Side) (bytes more : List ℕ) → Stays (front side bytes) side bytes more

-- a whole PDU at the beginning is exactly a PDU of the grammar
abbrev pub IsExact : Type 0
IsExact = (side : Side) (pdu : Pdu) (size : ℕ) (bytes : List ℕ)
    → (front side bytes ≡ Whole pdu size) ↔ ((size ≤ length bytes) × IsPdu side pdu (take size bytes))

-- what is written is read back by the side that reads its type, using all its bytes, whatever follows
pub record IsReadBack (pdu : Pdu) : Type 0 where
  pub size : length (written pdu) ≡ size_of pdu
  pub back : LacksObject pdu → (more : List ℕ) → front (reader_of pdu) (written pdu ++ more) ≡ Whole pdu (size_of pdu)
  pub pdu_of : LacksObject pdu → IsPdu (reader_of pdu) pdu (written pdu)

abbrev pub AreReadBack : Type 0
AreReadBack = (pdu : Pdu) → HasWholeIds pdu → IsReadBack pdu

-- what no whole PDU stands at the beginning of
abbrev pub IsEnd : Front → Type 0
IsEnd (Whole pdu size) = ⊥
IsEnd Rest = Unit {0}
IsEnd (Refused place cause ptype id) = Unit {0}

-- bytes are these whole PDUs one after the other, each with its own bytes, and then an end that isn't whole
abbrev pub IsDivided : Side → List (Pdu × List ℕ) → List ℕ → List ℕ → Type 0
IsDivided side [] end bytes = (bytes ≡ end) × IsEnd (front side end)
IsDivided side (part ∷ parts) end bytes = (rest : List ℕ) × (bytes ≡ part.1 ++ rest) × IsPdu side part.0 part.1
    × IsDivided side parts end rest

-- bytes are divided in one way
pub record DivideOnce (side : Side) (bytes : List ℕ) : Type 0 where
  pub parts : List (Pdu × List ℕ)
  pub end : List ℕ
  pub divided : IsDivided side parts end bytes
  pub once : (others : List (Pdu × List ℕ)) (rest : List ℕ) → IsDivided side others rest bytes → (others ≡ parts)
      × (rest ≡ end)

abbrev pub AllDivideOnce : Type 0
AllDivideOnce = (side : Side) (bytes : List ℕ) → DivideOnce side bytes
