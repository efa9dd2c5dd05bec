-- Two digits make one byte, so no more bytes are decoded than the line has digits; digits that spell none give none.
use Rattle.std.proofs.Common.{◌≡◌, ◌*◌, ◌⊎◌, inl, inr, List, ℕ, Some, None, Result, Err}
use Rattle.std.proofs.Common.{length, ap, sym, ◌∙◌, arith}
use Rattle.std.proofs.lemmas.Result.{err_from_is_err_and}
use Rattle.hex.specs.Hex.{decode_of}
use Rattle.hex.specs.declared.FromHexError.{FromHexError}
use Rattle.hex.specs.declared.FromHexError.TheVariants.{OutOfMemory}
use Rattle.hex.proofs.HexLemmas.{decode_of-ok}
use Rattle.acct_server.specs.Events.{brings, undecoded}
use Rattle.acct_server.specs.declared.events.LineError.TheVariants.{Refused}
use Rattle.acct_server.proofs.events.data_of.Goals as goal

-- digits for which there was memory and that spell no bytes bring nothing
brings-none : (conn : ℕ) (decoded : Result (List ℕ) FromHexError) (e : FromHexError)
    → (e ≡ OutOfMemory) ⊎ (decoded ≡ Err e) → undecoded e ≡ Refused → brings (Some conn) decoded ≡ None
brings-none conn decoded e (inl out) refused = absurd (
    let never : undecoded OutOfMemory ≡ Refused = ap undecoded (sym out) ∙ refused in
    cc never)
brings-none conn decoded e (inr is) refused = ap (λ (d : Result (List ℕ) FromHexError). brings (Some conn) d) is

pub returns-in_err-bytes-clause-refused : goal.returns-in_err-bytes-clause-refused
returns-in_err-bytes-clause-refused c =
    let p = err_from_is_err_and c.from_residual.result c.from_residual.ensures.1 in
    λ refused. brings-none c.args.conn (decode_of c.args.digits.now) c.in_err-bytes.field-0.0 c.in_err-bytes.ensures.err
    (let same = sym p.1 ∙ refused in sym p.2 ∙ cc)

pub returns-clause-short : goal.returns-clause-short
returns-clause-short c =
    let twice : length c.args.digits.now ≡ 2 * length c.in_ok-bytes.bytes.items =
    (decode_of-ok c.args.digits.now c.in_ok-bytes.bytes.items c.in_ok-bytes.ensures.ok).2 in
    let same : length c.from_vec.result ≡ length c.in_ok-bytes.bytes.items =
    ap (λ (bs : List ℕ). length bs) c.from_vec.ensures in
    omega (arith, twice, same)
