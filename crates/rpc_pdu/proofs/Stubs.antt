-- How long the stub of what is read can be.
use Rattle.std.proofs.Common.{◌≡◌, ℕ, ◌≤◌, ◌-◌, Bool, true, false, cond, List, length, drop, get_or, Option, Some, None}
use Rattle.std.proofs.Common.{refl, sym, ap, ◌∙◌, arith}
use Rattle.std.proofs.lemmas.List.{length-drop}
use Rattle.rpc_pdu.specs.declared.headers.Kind.{Kind}
use Rattle.rpc_pdu.specs.declared.headers.Kind.TheVariants as kind
use Rattle.rpc_pdu.specs.declared.pdus.Pdu.{Pdu}
use Rattle.rpc_pdu.specs.declared.pdus.Pdu.TheVariants.{Bind, Alter, BindAck, AlterResp}
use Rattle.rpc_pdu.specs.Headers.{has_object, element_at}
use Rattle.acct_base.specs.Reading.{◌>>=◌, many}
use Rattle.rpc_pdu.specs.Bodies.{bind_of, alter_of, outcomes_in, bind_ack_of, alter_resp_of, body_of}
use Rattle.rpc_pdu.specs.ReadPdu.{stub_length}

some_is : {A : Type 0} (x y : A) → Some x ≡ Some y → x ≡ y
some_is x y e = cc

-- a reading that is made of another
pub made : {A : Type 0} (read : Option A) (make : A → Pdu) (pdu : Pdu) → (read >>= λ x. Some (make x)) ≡ Some pdu
    → (x : A) × (read ≡ Some x) × (make x ≡ pdu)
made None make pdu e = absurd cc
made (Some x) make pdu e = (x, refl, some_is (make x) pdu e)

no_stub : {A : Type 0} (read : Option A) (make : A → Pdu) (pdu : Pdu) (n : ℕ) → ((x : A) → stub_length (make x) ≡ 0)
    → (read >>= λ x. Some (make x)) ≡ Some pdu → stub_length pdu ≤ n
no_stub read make pdu n none e =
    let m = made read make pdu e in
    let zero : stub_length pdu ≡ 0 = ap stub_length (sym m.2) ∙ none m.0 in
    omega (arith, zero)

stub_of : (b : Bool) (bytes : List ℕ) → length (drop (cond b 40 24) bytes) ≤ length bytes - 24
stub_of true bytes = let l = length-drop 40 bytes in omega (arith, l)
stub_of false bytes = let l = length-drop 24 bytes in omega (arith, l)

stub_is : (pdu other : Pdu) (n : ℕ) → Some other ≡ Some pdu → stub_length other ≤ n → stub_length pdu ≤ n
stub_is pdu other n e h = rw (some_is other pdu e) at h

pub stub_within : (k : Kind) (bytes : List ℕ) (pdu : Pdu) → body_of k bytes ≡ Some pdu
    → stub_length pdu ≤ length bytes - 24
unfolding body_of bind_of alter_of bind_ack_of alter_resp_of
stub_within kind.Request bytes pdu e = stub_is pdu _ _ e (stub_of (has_object (get_or bytes 3 0)) bytes)
stub_within kind.Response bytes pdu e = stub_is pdu _ _ e (stub_of false bytes)
stub_within kind.Fault bytes pdu e = stub_is pdu _ _ e (omega arith)
stub_within kind.Bind bytes pdu e =
    no_stub (many element_at (get_or bytes 24 0) (drop 28 bytes)) (λ x. Bind _ _ _ _ x.0) pdu _ (λ x. refl) e
stub_within kind.BindAck bytes pdu e = no_stub (outcomes_in bytes) (λ x. BindAck _ _ _ _ x) pdu _ (λ x. refl) e
stub_within kind.BindNak bytes pdu e = stub_is pdu _ _ e (omega arith)
stub_within kind.Alter bytes pdu e =
    no_stub (many element_at (get_or bytes 24 0) (drop 28 bytes)) (λ x. Alter _ _ _ _ x.0) pdu _ (λ x. refl) e
stub_within kind.AlterResp bytes pdu e = no_stub (outcomes_in bytes) (λ x. AlterResp _ _ _ _ x) pdu _ (λ x. refl) e
stub_within kind.Cancel bytes pdu e = stub_is pdu _ _ e (omega arith)
stub_within kind.Orphaned bytes pdu e = stub_is pdu _ _ e (omega arith)
