-- So far the header and the sub-authorities up to here are written, and the bytes after are as they were.
use Rattle.std.proofs.Common.{◌≡◌, ℕ, List, ◌+◌, ◌++◌, ◌<◌, ◌≤◌, get_or, arith, ap, sym, ◌∙◌, length, take, drop}
use Rattle.std.proofs.Common.{append_assoc, refl, subst}
use Rattle.std.specs.Int.{w32, to_le_bytes}
use Rattle.dtyp_sid.specs.Sids.{header_of, sub_bytes}
use Rattle.dtyp_sid.proofs.SidBytes.{put_behind, sub_bytes-take_more, length-written}
use Rattle.dtyp_sid.proofs.sid.Sid.to_bytes.Goals as goal

pub loop-sub-init : goal.loop-sub-init
unfolding header_of sub_bytes
loop-sub-init c =
    let put = rw (c.to_be_bytes.ensures, c.authority.ensures.value, c.subs-subs.ensures.value) at c.put.ensures in
    (refl, put)

pub loop-sub-preserved : goal.loop-sub-preserved
loop-sub-preserved c =
    let sid = c.args.self.now in
    let index = c.loop-sub.sub-index in
    let subs : c.subs-subs.result.now ≡ sid.subs = c.subs-subs.ensures.value in
    let inside : index < length c.subs-subs.result.now = c.loop-sub-test.true in
    let number = get_or c.subs-subs.result.now index 0 in
    let bytes : c.to_le_bytes.result ≡ to_le_bytes w32 number = c.to_le_bytes.ensures in
    let place = c.loop-sub.place in
    let put : c.put-in-loop-sub.new.out ≡ take place c.loop-sub.out ++ to_le_bytes w32 number
    ++ drop (place + 4) c.loop-sub.out =
    subst (λ (four : List ℕ). c.put-in-loop-sub.new.out ≡ take place c.loop-sub.out ++ four
    ++ drop (place + length four) c.loop-sub.out) bytes c.put-in-loop-sub.ensures in
    let long : length (header_of sid ++ sub_bytes (take index c.subs-subs.result.now)) ≡ place =
    ap (λ (subs : List ℕ). length (header_of sid ++ sub_bytes (take index subs))) subs
    ∙ length-written sid index (subst (λ (subs : List ℕ). index ≤ length subs) subs (omega arith))
    ∙ sym c.loop-sub.invariant.0 in
    let written : c.put-in-loop-sub.new.out ≡ (header_of sid ++ sub_bytes (take index c.subs-subs.result.now))
    ++ to_le_bytes w32 number ++ drop (place + 4) c.args.out.now =
    put_behind (header_of sid ++ sub_bytes (take index c.subs-subs.result.now))
    (to_le_bytes w32 number) c.args.out.now c.loop-sub.out c.put-in-loop-sub.new.out place long
    c.loop-sub.invariant.1 put in (
      omega (arith, c.loop-sub.invariant.0),
      written
          ∙ ap (λ (front : List ℕ). front ++ drop (place + 4) c.args.out.now)
          (append_assoc (header_of sid) (sub_bytes (take index c.subs-subs.result.now)) (to_le_bytes w32 number)
          ∙ ap (λ (subs : List ℕ). header_of sid ++ subs)
          (sym (sub_bytes-take_more c.subs-subs.result.now index number inside refl))),
    )
