-- The operations that connect and close are right, and change no row.
use Rattle.std.proofs.Common.{◌≡◌, ℕ, true, is_some, refl}
use Rattle.acct_calls.specs.declared.calls.Face.{Face}
use Rattle.acct_calls.specs.declared.replies.Outs.TheVariants as outs
use Rattle.acct_calls.specs.declared.replies.Reply.TheVariants.{Done}
use Rattle.acct_layouts.specs.ReplyShapes.{HasShape}
use Rattle.acct_layouts.specs.Table.{layout_of}
use Rattle.acct_tables.specs.declared.object.Object.{Object}
use Rattle.acct_rows.specs.Rows.{exists, Lists}
use Rattle.acct_rows.specs.Sound.{IsSoundRows}
use Rattle.acct_rules.specs.declared.profile.Kinds.{Kinds}
use Rattle.acct_calls.specs.Calls.{zero_handle}
use Rattle.acct_rules.specs.Planned.{opens, closes}
use Rattle.acct_rules.specs.Operations.{IsRight, Keeps, KeepsRows}
use Rattle.acct_rules.specs.Profiles.{undescribed}
use Rattle.acct_operations.specs.Openings.{connect, open_policy, close}
use Rattle.acct_operations.specs.Table.{opening, closing}

-- a reply with a handle alone has the shape
abbrev GivesHandle : Face → ℕ → Type 0
GivesHandle face opnum = HasShape face opnum (Done 0 (outs.Handle zero_handle))

pub connect-right : (face : Face) (opnum : ℕ) → is_some (layout_of face opnum) ≡ true → GivesHandle face opnum
    → IsRight (record { profile = opening face opnum; rule = undescribed connect })
connect-right face opnum laid shaped = record {
  laid_out = laid;
  refuses = λ r described object asked. refl;
  succeeds = λ r described object asked. refl;
  frugal = λ r described object asked. refl;
  modest = λ r described object asked. refl;
  shaped = λ r described object call few is none. shaped;
}

pub open_policy-right : (face : Face) (opnum : ℕ) → is_some (layout_of face opnum) ≡ true → GivesHandle face opnum
    → IsRight (record { profile = opening face opnum; rule = undescribed open_policy })
open_policy-right face opnum laid shaped = record {
  laid_out = laid;
  refuses = λ r described object asked. refl;
  succeeds = λ r described object asked. refl;
  frugal = λ r described object asked. refl;
  modest = λ r described object asked. refl;
  shaped = λ r described object call few is none. shaped;
}

pub close-right : (face : Face) (opnum : ℕ) (kinds : Kinds) → is_some (layout_of face opnum) ≡ true
    → GivesHandle face opnum
    → IsRight (record { profile = closing face opnum kinds; rule = undescribed close })
close-right face opnum kinds laid shaped = record {
  laid_out = laid;
  refuses = λ r described object asked. refl;
  succeeds = λ r described object asked. refl;
  frugal = λ r described object asked. refl;
  modest = λ r described object asked. refl;
  shaped = λ r described object call few is none. shaped;
}

-- an opening of an object that is there changes no row
opens-keeps : (r : Lists) (object : Object) (desired : ℕ) → IsSoundRows r → exists r object ≡ true
    → Keeps r (opens object desired)
opens-keeps r object desired sound there = record {
  sound = sound;
  stays = λ x was other. was;
  opens = λ opening is.
      let same : opening.object ≡ object = cc in
      let e : exists r opening.object ≡ exists r object = cc in
      cc;
}

closes-keeps : (r : Lists) → IsSoundRows r → Keeps r closes
closes-keeps r sound = record { sound = sound; stays = λ x was other. was; opens = λ opening is. cc }

pub connect-keeps : (face : Face) (opnum : ℕ)
    → KeepsRows (record { profile = opening face opnum; rule = undescribed connect })
connect-keeps face opnum r described object call is none = opens-keeps r _ _ is.rows refl

pub open_policy-keeps : (face : Face) (opnum : ℕ)
    → KeepsRows (record { profile = opening face opnum; rule = undescribed open_policy })
open_policy-keeps face opnum r described object call is none = opens-keeps r _ _ is.rows refl

pub close-keeps : (face : Face) (opnum : ℕ) (kinds : Kinds)
    → KeepsRows (record { profile = closing face opnum kinds; rule = undescribed close })
close-keeps face opnum kinds r described object call is none = closes-keeps r is.rows
