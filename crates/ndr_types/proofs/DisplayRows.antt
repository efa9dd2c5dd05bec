-- Which displayed accounts can be written, that what some bytes spell can be, and that reading them goes onward.
use Rattle.std.proofs.Common.{◌≡◌, ℕ, List, [], refl, sym, subst, arith}
use Rattle.std.proofs.lemmas.List.Elements.{All-nil}
use Rattle.ndr_core.specs.Shapes.{u32}
use Rattle.ndr_core.specs.Parts.{join, flat}
use Rattle.ndr_core.proofs.Complete.{IsComplete, given_complete}
use Rattle.acct_layouts.specs.Values.{IsDisplayedGroup, IsDisplayedUser, IsText}
use Rattle.acct_layouts.specs.declared.classes.DisplayArm.{DisplayArm}
use Rattle.acct_layouts.specs.declared.classes.DisplayArm.TheVariants as display
use Rattle.ndr_types.specs.Listed.{any, display_row, display_rows, full_name_of, no_full_name, parts_of_row, row_of}
use Rattle.ndr_types.specs.Laws.{HasValues, IsListOf}
use Rattle.ndr_types.specs.Values.{text}
use Rattle.ndr_types.proofs.Onward.{Takes, TakesPart, list_onward, long, takes_flat, takes_given, takes_join}
use Rattle.ndr_types.proofs.Onward.{takes_part_of, takes_text}
use Rattle.ndr_types.proofs.Parts.{Has, join_has, part_of_has}
use Rattle.ndr_types.proofs.ShapeValues.{list_complete, list_values}
use Rattle.ndr_types.proofs.Sids.{long_has}
use Rattle.ndr_types.proofs.Texts.{text_has}

-- ---- full names

abbrev IsNothing : List ℕ → Type 0
IsNothing units = units ≡ []

no_full_name_has : Has no_full_name IsNothing
no_full_name_has = record {
  fits = λ units h. (refl, h);
  kind = λ units h. h.1;
  head = given_complete _;
  tail = λ s f. given_complete [];
  keeps = λ s units f h. (refl, h);
}

nothing_is_text : (units : List ℕ) → units ≡ [] → IsText units
nothing_is_text units e = subst (λ (us : List ℕ). IsText us) (sym e) (omega arith, All-nil _)

-- ---- users and groups

pub user_has : Has (display_row display.User) IsDisplayedUser
unfolding display_row
user_has =
    part_of_has {Q = IsDisplayedUser} row_of parts_of_row
    (join (flat u32) (join (flat u32) (join (flat u32) (join text (join text text)))))
    (join_has (flat u32) _ long_has
    (join_has (flat u32) _ long_has
    (join_has (flat u32) _ long_has (join_has text _ text_has (join_has text text text_has text_has)))))
    (λ b h. (h.0, (h.1, (h.2, (h.3, (h.4, h.5))))))
    (λ b h. (h.0, h.1.0, h.1.1.0, h.1.1.1.0, h.1.1.1.1.0, h.1.1.1.1.1)) (λ a. refl) (λ b. refl)

pub group_has : Has (display_row display.Group) IsDisplayedGroup
unfolding display_row
group_has =
    part_of_has {Q = IsDisplayedGroup} row_of parts_of_row
    (join (flat u32) (join (flat u32) (join (flat u32) (join text (join text no_full_name)))))
    (join_has (flat u32) _ long_has
    (join_has (flat u32) _ long_has
    (join_has (flat u32) _ long_has
    (join_has text _ text_has (join_has text no_full_name text_has no_full_name_has)))))
    (λ b h. (h.0.0, (h.0.1, (h.0.2, (h.0.3, (h.0.4, h.1))))))
    (λ b h.
    let e = h.1.1.1.1.1 in
    ((h.0, h.1.0, h.1.1.0, h.1.1.1.0, h.1.1.1.1.0, nothing_is_text b.full_name e), e))
    (λ a. refl) (λ b. refl)

pub users_values : HasValues (display_rows display.User) (IsListOf any IsDisplayedUser)
unfolding display_rows
users_values = list_values any (display_row display.User) user_has

pub users_complete : IsComplete (display_rows display.User)
unfolding display_rows
users_complete = list_complete any (display_row display.User) user_has

pub groups_values : HasValues (display_rows display.Group) (IsListOf any IsDisplayedGroup)
unfolding display_rows
groups_values = list_values any (display_row display.Group) group_has

pub groups_complete : IsComplete (display_rows display.Group)
unfolding display_rows
groups_complete = list_complete any (display_row display.Group) group_has

-- ---- onward

takes_full_name : (arm : DisplayArm) → TakesPart (full_name_of arm)
takes_full_name display.User = takes_text
takes_full_name display.Group = record { head = takes_given _; tail = λ s. takes_given [] }

takes_display_row : (arm : DisplayArm) → TakesPart (display_row arm)
unfolding display_row
takes_display_row arm =
    let number = takes_flat u32 long in
    takes_part_of row_of parts_of_row _
    (takes_join (flat u32) _ number
    (takes_join (flat u32) _ number
    (takes_join (flat u32) _ number
    (takes_join text _ takes_text (takes_join text (full_name_of arm) takes_text (takes_full_name arm))))))

pub display_rows_onward : (arm : DisplayArm) → Takes 0 (display_rows arm)
unfolding display_rows
display_rows_onward arm = list_onward any (display_row arm) (takes_display_row arm)
