-- A stub that fits a fragment is brought by one request.
use Rattle.std.proofs.Common.{◌≡◌, ℕ, ◌+◌, ◌≤◌, Bool, true, leb, List, [], ◌∷◌, ◌++◌, length, min, refl, ap, ◌∙◌, arith}
use Rattle.std.proofs.Math.Nat.{min-eq_left}
use Rattle.std.proofs.lemmas.Bool.{le-leb}
use Rattle.rpc_pdu.specs.Headers.{u16_bytes, u32_bytes}
use Rattle.rpc_pdu.specs.Written.{header_bytes, written, body_bytes}
use Rattle.rpc_session.specs.Answers.{cut_in, cut_stub, first_flag, fragment, most_of}
use Rattle.acct_client.specs.Requests.{request_head, AreOnePdu}

one_fragment : (one : ℕ → ℕ → List ℕ → List ℕ) (most : ℕ) (first : Bool) (stub : List ℕ) → length stub ≤ most
    → cut_stub one most first stub ≡ one (first_flag first + 2) (length stub) stub
unfolding cut_in cut_stub
one_fragment one most first [] le = refl
one_fragment one most first (b ∷ stub) le =
    let t : leb (length (b ∷ stub)) most ≡ true = le-leb _ _ le in rw t refl

fits_32 : (n : ℕ) → n ≤ 0xFFFFFFFF → min n 0xFFFFFFFF ≡ n
fits_32 n le = min-eq_left le

pub one_pdu_is : AreOnePdu
unfolding fragment written body_bytes
one_pdu_is id context opnum size stub small fits =
    one_fragment (fragment (request_head id context opnum)) (most_of size) true stub fits
    ∙ ap (λ n. header_bytes 0 3 (24 + length stub) id ++ (u32_bytes n ++ u16_bytes context ++ u16_bytes opnum ++ stub))
    (fits_32 (length stub) (omega (arith, small, fits)))
