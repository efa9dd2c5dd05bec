-- Which values each shape has, and that what some bytes spell can be written.
use Rattle.std.proofs.Common.{ℕ}
use Rattle.ndr_core.specs.Parts.{Part, whole, list, list_of, pointer_to}
use Rattle.ndr_core.proofs.Complete.{IsComplete}
use Rattle.dtyp_sid.specs.Sids.{IsSid}
use Rattle.ndr_types.specs.Listed.{any, rid_name, rid_names}
use Rattle.acct_layouts.specs.Values.{IfThere, IsText, IsPrivilegeSet, IsAccount, IsDomain}
use Rattle.ndr_types.specs.Translations.{places, referenced}
use Rattle.ndr_types.specs.Values.{privilege_set, sid, text}
use Rattle.ndr_types.specs.Laws.{HasValues, IsListOf}
use Rattle.ndr_types.proofs.Parts.{Has, list_has, whole_fits, whole_kind, whole_complete}
use Rattle.ndr_types.proofs.Texts.{text_has}
use Rattle.ndr_types.proofs.Sids.{sid_fits, sid_kind}
use Rattle.ndr_types.proofs.Records.{privilege_set_fits, privilege_set_kind, rid_names_has, referenced_has}

pub whole_values : {S A : Type 0} {P : A → Type 0} (p : Part S A) → Has p P → HasValues (whole p) P
whole_values p q x = (whole_kind p q x, whole_fits p q x)

pub list_values : {S A : Type 0} {P : A → Type 0} (most : ℕ) (p : Part S A) → Has p P
    → HasValues (list_of most p) (IsListOf most P)
unfolding list_of
list_values most p q = whole_values (list most p) (list_has most p q)

pub list_complete : {S A : Type 0} {P : A → Type 0} (most : ℕ) (p : Part S A) → Has p P → IsComplete (list_of most p)
unfolding list_of
list_complete most p q = whole_complete (list most p) (list_has most p q)

pub text_values : HasValues (whole text) IsText
text_values = whole_values text text_has

pub text_complete : IsComplete (whole text)
text_complete = whole_complete text text_has

pub sid_values : HasValues sid IsSid
sid_values s = (sid_kind s, sid_fits s)

pub privilege_set_values : HasValues privilege_set IsPrivilegeSet
privilege_set_values ps = (privilege_set_kind ps, privilege_set_fits ps)

pub rid_names_values : HasValues rid_names (IfThere (IsListOf any IsAccount))
unfolding rid_names list_of
rid_names_values = whole_values (pointer_to (whole (list any rid_name))) rid_names_has

pub rid_names_complete : IsComplete rid_names
unfolding rid_names list_of
rid_names_complete = whole_complete (pointer_to (whole (list any rid_name))) rid_names_has

pub referenced_values : HasValues referenced (IfThere (IsListOf any IsDomain))
unfolding referenced
referenced_values = whole_values (pointer_to (whole places)) referenced_has

pub referenced_complete : IsComplete referenced
unfolding referenced
referenced_complete = whole_complete (pointer_to (whole places)) referenced_has
