-- A membership is listed on both of its sides, or on neither.
use Rattle.std.proofs.Common.{◌≡◌, ℕ, ◌==◌, Bool, true, false, ◌&&◌, ◌||◌, cond, List, [], ◌∷◌, map, refl, sym, ap}
use Rattle.std.proofs.Common.{◌∙◌, arith}
use Rattle.std.specs.List.{filter, list_any}
use Rattle.std.proofs.lemmas.Bool.Decides.{nat_tests}
use Rattle.acct_tables.specs.Selected.{is_in_group, is_of_user, is_in_alias, has_one, each_once_after, each_once}
use Rattle.acct_tables.specs.declared.row.AliasRow.{AliasRow}
use Rattle.acct_tables.specs.declared.row.MemberRow.{MemberRow}
use Rattle.dtyp_sid.specs.Sids.{sid_eq, SidValue}
use Rattle.samr_members.specs.Members.{member_of_row, member_shown, group_shown}
use Rattle.samr_members.specs.Laws.{is_pair, AllMembershipsAgree}

-- a row that is listed, or isn't, beside the others
beside : {X Y : Type 0} (p : Y → Bool) (f : X → Y) (c : Bool) (x : X) (xs : List X)
    → list_any p (map f (cond c (x ∷ xs) xs)) ≡ ((c && p (f x)) || list_any p (map f xs))
beside p f true x xs = refl
beside p f false x xs = refl

both : (a b c d : Bool) → a ≡ b → c ≡ d → (a || c) ≡ (b || d)
both a b c d same rest = ap (λ x. x || c) same ∙ ap (λ x. b || x) rest

-- ---- groups

swapped : (g u b : Bool) → (g && (u && b)) ≡ (u && (g && b))
swapped true true b = refl
swapped true false b = refl
swapped false true b = refl
swapped false false b = refl

groups-agree : (group user bits : ℕ) (xs : List MemberRow)
    → list_any (is_pair user bits) (map member_shown (filter (is_in_group group) xs))
    ≡ list_any (is_pair group bits) (map group_shown (filter (is_of_user user) xs))
groups-agree group user bits [] = refl
groups-agree group user bits (m ∷ xs) =
    beside (is_pair user bits) member_shown (m.group == group) m (filter (is_in_group group) xs)
    ∙ both _ _ _ _ (swapped (m.group == group) (m.user == user) (m.attributes == bits))
    (groups-agree group user bits xs)
    ∙ sym (beside (is_pair group bits) group_shown (m.user == user) m (filter (is_of_user user) xs))

-- ---- aliases

abbrev alias_of_row : AliasRow → ℕ
alias_of_row a = a.alias

moved : (d a s : Bool) → ((d && a) && s) ≡ ((d && (s || false)) && a)
moved true true true = refl
moved true true false = refl
moved true false true = refl
moved true false false = refl
moved false a s = refl

rows-agree : (domain alias : ℕ) (sid : SidValue) (xs : List AliasRow)
    → list_any (λ s. sid_eq s sid) (map member_of_row (filter (is_in_alias domain alias) xs))
    ≡ list_any (λ rid. rid == alias) (map alias_of_row (filter (has_one domain (sid ∷ [])) xs))
rows-agree domain alias sid [] = refl
rows-agree domain alias sid (a ∷ xs) =
    beside (λ s. sid_eq s sid) member_of_row (is_in_alias domain alias a) a (filter (is_in_alias domain alias) xs)
    ∙ both _ _ _ _ (moved (a.domain == domain) (a.alias == alias) (sid_eq a.member sid))
    (rows-agree domain alias sid xs)
    ∙ sym (beside (λ rid. rid == alias) alias_of_row (has_one domain (sid ∷ []) a) a
    (filter (has_one domain (sid ∷ [])) xs))

-- to give each number once keeps which there are
absorbed : (b c : Bool) → (b || c) ≡ (b || (b || c))
absorbed true c = refl
absorbed false c = refl

once-beside : (t : Bool) (n before alias : ℕ) (xs ys zs : List ℕ) → (n == before) ≡ t
    → ((before == alias) || list_any (λ rid. rid == alias) xs)
    ≡ ((before == alias) || list_any (λ rid. rid == alias) zs)
    → ((n == alias) || list_any (λ rid. rid == alias) ys) ≡ ((n == alias) || list_any (λ rid. rid == alias) zs)
    → ((before == alias) || list_any (λ rid. rid == alias) (cond t xs (n ∷ ys)))
    ≡ ((before == alias) || ((n == alias) || list_any (λ rid. rid == alias) zs))
once-beside true n before alias xs ys zs is this next =
    let same : n ≡ before = grind (arith, nat_tests) in
    this ∙ absorbed (before == alias) (list_any (λ rid. rid == alias) zs)
    ∙ ap (λ k. (before == alias) || ((k == alias) || list_any (λ rid. rid == alias) zs)) (sym same)
once-beside false n before alias xs ys zs is this next = ap (λ b. (before == alias) || b) next

once-after : (alias before : ℕ) (ns : List ℕ)
    → ((before == alias) || list_any (λ rid. rid == alias) (each_once_after before ns))
    ≡ ((before == alias) || list_any (λ rid. rid == alias) ns)
once-after alias before [] = refl
once-after alias before (n ∷ ns) =
    once-beside (n == before) n before alias (each_once_after before ns) (each_once_after n ns) ns refl
    (once-after alias before ns) (once-after alias n ns)

once : (alias : ℕ) (ns : List ℕ)
    → list_any (λ rid. rid == alias) (each_once ns) ≡ list_any (λ rid. rid == alias) ns
once alias [] = refl
once alias (n ∷ ns) = once-after alias n ns

pub agree : AllMembershipsAgree
agree r = record {
  groups = λ group user bits. groups-agree group user bits r.members;
  aliases = λ domain alias sid.
      rows-agree domain alias sid r.aliases
      ∙ sym (once alias (map alias_of_row (filter (has_one domain (sid ∷ [])) r.aliases)));
}
