-- Which displayed accounts can be written, that what some stub spells can be, and that reading them goes onward.
use Rattle.std.proofs.Common.{List, [], Option, Some, None, refl, lit<, arith}
use Rattle.ndr_core.proofs.Complete.{IsComplete, chain_complete, given_complete, ignored_complete, padding_complete}
use Rattle.ndr_core.proofs.Complete.{such_complete, u16_complete, u32_complete}
use Rattle.ndr_core.specs.Cursor.{is_zero}
use Rattle.acct_calls.specs.declared.lists.DisplayRow.{DisplayRow}
use Rattle.acct_layouts.specs.Values.{IsDisplayedGroup, IsDisplayedUser, IsListed, display_arm}
use Rattle.acct_layouts.specs.ReplyShapes.{AreDisplayed}
use Rattle.acct_layouts.specs.declared.classes.DisplayArm.{DisplayArm}
use Rattle.acct_layouts.specs.declared.classes.DisplayArm.TheVariants as display
use Rattle.ndr_types.proofs.DisplayRows.{display_rows_onward, groups_complete, groups_values}
use Rattle.ndr_types.proofs.DisplayRows.{users_complete, users_values}
use Rattle.ndr_types.proofs.Onward.{Takes, short, such_long, takes_chain, takes_given, takes_ignored, takes_padding}
use Rattle.ndr_types.proofs.Parts.{all_as}
use Rattle.ndr_types.specs.Bounds.{HasShortTexts}
use Rattle.ndr_types.specs.Listed.{display_rows}
use Rattle.acct_stubs.specs.Infos.{displayed, rows_of}

-- ---- the entries of a class

pub rows_kind : (a : Option DisplayArm) (rows : List DisplayRow) → (rows_of a).Fits rows → AreDisplayed a rows
rows_kind None rows f = f.0.1.0.1
rows_kind (Some display.User) rows f = let k = (users_values rows).0 f in (k.1, k.2)
rows_kind (Some display.Group) rows f = let k = (groups_values rows).0 f in (k.1, k.2)

pub rows_fit : (a : Option DisplayArm) (rows : List DisplayRow) → AreDisplayed a rows → (rows_of a).Fits rows
rows_fit None rows is = (((lit< tt, refl), (((lit< tt, refl), is), refl)), refl)
rows_fit (Some display.User) rows is = (users_values rows).1 (omega (arith, is.0), is.0, is.1)
rows_fit (Some display.Group) rows is = (groups_values rows).1 (omega (arith, is.0), is.0, is.1)

rows_complete : (a : Option DisplayArm) → IsComplete (rows_of a)
rows_complete None =
    ignored_complete 0 (such_complete 4 is_zero u32_complete)
    (ignored_complete 0 (such_complete 4 is_zero u32_complete) (given_complete []) (lit< tt, refl)) (lit< tt, refl)
rows_complete (Some display.User) = users_complete
rows_complete (Some display.Group) = groups_complete

pub displayed_complete : IsComplete displayed
unfolding displayed
displayed_complete =
    chain_complete u16_complete
    (λ class f. ignored_complete tt padding_complete (rows_complete (display_arm class)) tt)

-- ---- what the writer asks for

pub rows_listed : (arm : DisplayArm) (rows : List DisplayRow) → (display_rows arm).Fits rows
    → IsListed HasShortTexts rows
rows_listed display.User rows f =
    let k = (users_values rows).0 f in
    (k.1, all_as {P = IsDisplayedUser} {Q = HasShortTexts} rows (λ r is. (is.3.0, is.4.0, is.5.0)) k.2)
rows_listed display.Group rows f =
    let k = (groups_values rows).0 f in
    (k.1, all_as {P = IsDisplayedGroup} {Q = HasShortTexts} rows (λ r is. (is.0.3.0, is.0.4.0, is.0.5.0)) k.2)

-- ---- onward

rows_onward : (a : Option DisplayArm) → Takes 0 (rows_of a)
rows_onward None = takes_ignored 0 0 (such_long is_zero) (takes_ignored 0 0 (such_long is_zero) (takes_given []))
rows_onward (Some arm) = display_rows_onward arm

pub displayed_onward : Takes 0 displayed
unfolding displayed
displayed_onward =
    takes_chain 0 short (λ class. takes_ignored 0 tt takes_padding (rows_onward (display_arm class)))
