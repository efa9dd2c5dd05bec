-- Each operation has its layout, its statuses, and the outputs of its layout.
use Rattle.std.proofs.Common.{◌≡◌, Bool, true, false, List, [], map, Option, refl}
use Rattle.acct_calls.specs.declared.calls.Face.TheVariants.{Lsa}
use Rattle.acct_codes.specs.Opnums.{lsar_lookup_names, lsar_lookup_names2, lsar_lookup_names3, lsar_lookup_sids}
use Rattle.acct_codes.specs.Opnums.{lsar_lookup_sids2}
use Rattle.acct_layouts.specs.Values.{IsDomain, IsListed, IsLong}
use Rattle.acct_layouts.specs.Refusals.{is_refusal}
use Rattle.acct_layouts.specs.ReplyShapes.{HasShape}
use Rattle.acct_layouts.specs.Table.{samr_layout, lsa_layout}
use Rattle.acct_rows.specs.Laws.{EachIsGood}
use Rattle.acct_rows.specs.Rows.{Lists}
use Rattle.acct_rows.specs.Sound.{IsSoundRows}
use Rattle.acct_rules.specs.Planned.{mapped_status}
use Rattle.acct_rules.specs.Operations.{IsRight}
use Rattle.lsat_translate.specs.Translations.{referenced, place_of, mapped_count, asked_names, asked_sids}
use Rattle.lsat_translate.specs.Matches.{use_in}
use Rattle.lsat_translate.specs.Lookups.{match_of_name, match_of_sid}
use Rattle.lsat_translate.specs.Table.{lookup_names, lookup_names2, lookup_names3, lookup_sids, lookup_sids2}
use Rattle.lsat_translate.specs.declared.matches.Match.{Match}
use Rattle.lsat_translate.proofs.Asking.{arguments, few-names, few-sids}
use Rattle.lsat_translate.proofs.Shaping.{mapped-full, mapped-long, count-long, places-shaped, sids-shaped}
use Rattle.lsat_translate.proofs.Shaping.{refs-shaped, names-shaped}
use Rattle.lsat_translate.proofs.laws.operations_are_right.Goals as goal

-- a status that is no refusal isn't one
never : {A : Type 0} (b : Bool) → b ≡ false → b ≡ true → A
never true full refused = cc
never false full refused = cc

-- what is answered where the entries have their shape
answered : {A : Type 0} → EachIsGood → (r : Lists) (found : List (Option Match)) → IsSoundRows r → A
    → IsLong (mapped_status (map use_in found))
    × (IsListed IsDomain (map (place_of r) (referenced found)) × A × IsLong (mapped_count found))
    × (is_refusal (mapped_status (map use_in found)) ≡ true → map (place_of r) (referenced found) ≡ [])
answered each r found sound entries = (
  mapped-long (map use_in found),
  (places-shaped each r found sound, entries, count-long found),
  λ refused. never (is_refusal (mapped_status (map use_in found))) (mapped-full (map use_in found)) refused,
)

look_names : EachIsGood → IsRight lookup_names
unfolding HasShape samr_layout lsa_layout
look_names each = record {
  laid_out = refl;
  refuses = λ r described object asked. refl;
  succeeds = λ r described object asked. mapped-full (map use_in (map (match_of_name r) (asked_names asked)));
  frugal = λ r described object asked. refl;
  modest = λ r described object asked. refl;
  shaped = λ r described object call few is none.
      let names = asked_names call.args in
      let most = few-names call.args (arguments call Lsa lsar_lookup_names is.face is.opnum is.spelled).1 in
      answered each r (map (match_of_name r) names) is.rows (sids-shaped each r names is.rows most);
}

look_names2 : EachIsGood → IsRight lookup_names2
unfolding HasShape samr_layout lsa_layout
look_names2 each = record {
  laid_out = refl;
  refuses = λ r described object asked. refl;
  succeeds = λ r described object asked. mapped-full (map use_in (map (match_of_name r) (asked_names asked)));
  frugal = λ r described object asked. refl;
  modest = λ r described object asked. refl;
  shaped = λ r described object call few is none.
      let names = asked_names call.args in
      let most = few-names call.args (arguments call Lsa lsar_lookup_names2 is.face is.opnum is.spelled).1 in
      answered each r (map (match_of_name r) names) is.rows (sids-shaped each r names is.rows most);
}

look_names3 : EachIsGood → IsRight lookup_names3
unfolding HasShape samr_layout lsa_layout
look_names3 each = record {
  laid_out = refl;
  refuses = λ r described object asked. refl;
  succeeds = λ r described object asked. mapped-full (map use_in (map (match_of_name r) (asked_names asked)));
  frugal = λ r described object asked. refl;
  modest = λ r described object asked. refl;
  shaped = λ r described object call few is none.
      let names = asked_names call.args in
      let most = few-names call.args (arguments call Lsa lsar_lookup_names3 is.face is.opnum is.spelled).1 in
      answered each r (map (match_of_name r) names) is.rows (refs-shaped each r names is.rows most);
}

look_sids : EachIsGood → IsRight lookup_sids
unfolding HasShape samr_layout lsa_layout
look_sids each = record {
  laid_out = refl;
  refuses = λ r described object asked. refl;
  succeeds = λ r described object asked. mapped-full (map use_in (map (match_of_sid r) (asked_sids asked)));
  frugal = λ r described object asked. refl;
  modest = λ r described object asked. refl;
  shaped = λ r described object call few is none.
      let sids = asked_sids call.args in
      let most = few-sids call.args (arguments call Lsa lsar_lookup_sids is.face is.opnum is.spelled).1 in
      answered each r (map (match_of_sid r) sids) is.rows (names-shaped each r sids is.rows most.0 most.1);
}

look_sids2 : EachIsGood → IsRight lookup_sids2
unfolding HasShape samr_layout lsa_layout
look_sids2 each = record {
  laid_out = refl;
  refuses = λ r described object asked. refl;
  succeeds = λ r described object asked. mapped-full (map use_in (map (match_of_sid r) (asked_sids asked)));
  frugal = λ r described object asked. refl;
  modest = λ r described object asked. refl;
  shaped = λ r described object call few is none.
      let sids = asked_sids call.args in
      let most = few-sids call.args (arguments call Lsa lsar_lookup_sids2 is.face is.opnum is.spelled).1 in
      answered each r (map (match_of_sid r) sids) is.rows (names-shaped each r sids is.rows most.0 most.1);
}

pub returns : goal.returns
returns c = record {
  look_names = look_names c.each_is_good.ensures;
  look_names2 = look_names2 c.each_is_good.ensures;
  look_names3 = look_names3 c.each_is_good.ensures;
  look_sids = look_sids c.each_is_good.ensures;
  look_sids2 = look_sids2 c.each_is_good.ensures;
}
