-- The text so far is `S-1-`, the authority and the first so many sub-authorities.
use Rattle.std.proofs.Common.{◌≡◌, ◌++◌, take, codes}
use Rattle.std.specs.String.{string_bytes}
use Rattle.dtyp_sid.specs.Text.{authority_text, subs_text}
use Rattle.dtyp_sid.proofs.sid.Sid.text.Given as goal

abbrev pub invariant-loop-sub : goal.invariant-loop-sub
invariant-loop-sub l =
    string_bytes l.text ≡ codes "S-1-" ++ authority_text l.self.authority ++ subs_text (take l.sub-index l.sub-items)
