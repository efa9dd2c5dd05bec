-- A document that breaks no rule spells a configuration that is right.
use Rattle.std.proofs.Common.{◌≡◌, ℕ, zero, suc, codes, ℤ, pos, negsuc, ◌&&◌, Bool, true, false, List, [], ◌∷◌, map}
use Rattle.std.proofs.Common.{length, drop, Option, Some, None, refl, ◌≤◌, arith, ap, ◌∙◌, nat_le, is_some, unwrap_or}
use Rattle.std.proofs.Common.{option_map, not, ◌==◌, subst}
use Rattle.std.specs.Prelude.{All, IfSome}
use Rattle.std.proofs.lemmas.List.Elements.{All-cons}
use Rattle.dtyp_access.specs.declared.ace.Ace.{Ace}
use Rattle.dtyp_access.specs.declared.descriptor.Descriptor.{Descriptor}
use Rattle.dtyp_access.specs.Parts.{HasFewAces, IsDescriptor}
use Rattle.std.proofs.lemmas.Bool.{and_parts, and_from}
use Rattle.std.proofs.lemmas.Bool.Decides.{nat_tests}
use Rattle.std.proofs.lemmas.List.{length-map}
use Rattle.std.proofs.lemmas.Simd.{map-map}
use Rattle.std.specs.List.{list_all, slice_get, filter_map, cons_option}
use Rattle.std.specs.Option.{option_map_or}
use Rattle.toml.specs.Data.{Data, get}
use Rattle.acct_codes.specs.declared.kind.Kind.{Kind}
use Rattle.dtyp_sid.specs.Sids.{SidValue}
use Rattle.acct_config.specs.declared.limits.Limit.{Limit}
use Rattle.acct_config.specs.declared.limits.Limit.TheVariants.{Calls, Bytes, Conns, Read, Periods}
use Rattle.acct_config.specs.Document.{elements, elements_of, each_limit, range_of, found}
use Rattle.acct_config.specs.Kinds.{kinds}
use Rattle.acct_config.specs.Spelled.{IsRightConfig, AreLimits, IsInRange, is_right_listener, is_right_list}
use Rattle.acct_config.specs.Spelled.{is_right_descriptor, IsRightHook, count_of, listener_of, ace_at, acl_of}
use Rattle.acct_config.specs.Spelled.{descriptor_of, limit_of, limits_of, hook_of, config_of}
use Rattle.acct_config.specs.Rules.{first_broken_from, kept, domain_sid, listeners, listener_name, have_names}
use Rattle.acct_config.specs.Rules.{has_address, sid_of, is_sid, token_texts, has_token, is_number_within, workers}
use Rattle.acct_config.specs.Rules.{links, has_counts, descriptor_table, is_ace, ace_texts, has_aces, aces_are_entries}
use Rattle.acct_config.specs.Rules.{limit_number, is_in_range, hook_table, program, tries, names_program}
use Rattle.acct_config.specs.Rules.{hook_is_right}
use Rattle.acct_calls.specs.Names.{is_domain_sid}
use Rattle.acct_config.specs.Values.{administrators, is_listener_name, are_distinct}
use Rattle.acct_base.specs.Words.{is_within}

-- where no rule is broken, each is kept
nth_kept : (number : ℕ) (rules : List Bool) (i : ℕ) (k : Bool) → first_broken_from number rules ≡ None →
    slice_get rules i ≡ Some k → k ≡ true
nth_kept number [] i k none at = absurd (cc)
nth_kept number (true ∷ rules) zero k none at = cc
nth_kept number (true ∷ rules) (suc i) k none at = nth_kept (suc number) rules i k none at
nth_kept number (false ∷ rules) i k none at = absurd (cc)

sid-kept : (sid : Option SidValue) → option_map_or is_domain_sid sid false ≡ true →
    is_domain_sid (unwrap_or sid administrators) ≡ true
sid-kept None may = absurd (cc)
sid-kept (Some sid) may = may

-- nothing is left out of a list of which each element gives one
length-cons_option : {X : Type 0} (x : Option X) (xs : List X) → is_some x ≡ true → length (cons_option x xs)
    ≡ suc (length xs)
length-cons_option None xs is = absurd (cc)
length-cons_option (Some x) xs is = refl

length-filter_map : {X Y : Type 0} (f : X → Option Y) (xs : List X) → list_all (λ x. is_some (f x)) xs ≡ true →
    length (filter_map f xs) ≡ length xs
length-filter_map f [] all = refl
length-filter_map f (x ∷ xs) all =
    let both = and_parts _ _ all in
    length-cons_option (f x) (filter_map f xs) both.0 ∙ ap suc (length-filter_map f xs both.1)

within-kept : (low high : ℕ) (number : ℤ) → is_number_within low high number ≡ true →
    is_within low high (count_of high number) ≡ true
within-kept low high (pos number) is =
    let both = and_parts (nat_le low number) (nat_le number high) is in
    rw both.1 is
within-kept low high (negsuc number) is = absurd (cc)

token-kept : (listener : Data) → has_token listener ≡ true → is_within 1 64 (length (listener_of listener).token) ≡ true
token-kept listener has =
    let both = and_parts (is_within 1 64 (length (token_texts listener)))
    (list_all is_sid (token_texts listener)) has in
    rw (length-filter_map sid_of (token_texts listener) both.1) both.0

listener-kept : (listener : Data) → is_listener_name (listener_name listener) ≡ true → has_address listener ≡ true →
    has_token listener ≡ true → has_counts listener ≡ true
    → is_right_listener (listener_of listener) ≡ true
listener-kept listener name address token counts =
    let both = and_parts (is_number_within 1 64 (workers listener))
    (is_number_within 0 4294967295 (links listener)) counts in
    and_from _ _ (and_from _ _ (and_from _ _ (and_from _ _ name address) (token-kept listener token))
    (within-kept 1 64 (workers listener) both.0))
    (within-kept 0 4294967295 (links listener) both.1)

listeners-kept : (tables : List Data) → list_all (λ listener. is_listener_name (listener_name listener)) tables ≡ true →
    list_all has_address tables ≡ true
    → list_all has_token tables ≡ true → list_all has_counts tables ≡ true →
    list_all is_right_listener (map listener_of tables) ≡ true
listeners-kept [] names addresses tokens counts = refl
listeners-kept (given ∷ tables) names addresses tokens counts =
    let name = and_parts _ _ names in
    let address = and_parts _ _ addresses in
    let token = and_parts _ _ tokens in
    let count = and_parts _ _ counts in
    and_from _ _ (listener-kept given name.0 address.0 token.0 count.0)
    (listeners-kept tables name.1 address.1 token.1 count.1)

-- a list of entries, which may be absent
list-kept : (aces : Option Data) → is_within 0 800 (length (elements_of aces)) ≡ true →
    list_all is_ace (elements_of aces) ≡ true
    → is_right_list (option_map acl_of aces) ≡ true
list-kept None few all = refl
list-kept (Some aces) few all = rw (length-filter_map ace_at (elements aces) all) few

descriptor-kept : (given : Option Data) → found true has_aces given ≡ true → is_right_descriptor (descriptor_of given)
    ≡ true
descriptor-kept None has = refl
descriptor-kept (Some given) has =
    let both = and_parts (is_within 0 800 (length (ace_texts given))) (list_all is_ace (ace_texts given)) has in
    list-kept (get (codes "aces") given) both.0 both.1

descriptors-kept : (d : Data) (ks : List Kind) → list_all (aces_are_entries d) ks ≡ true
    → list_all is_right_descriptor (map (λ kind. descriptor_of (descriptor_table d kind)) ks) ≡ true
unfolding aces_are_entries
descriptors-kept d [] all = refl
descriptors-kept d (kind ∷ ks) all =
    let both = and_parts _ _ all in
    and_from _ _ (descriptor-kept (descriptor_table d kind) both.0) (descriptors-kept d ks both.1)

le-kept : (m n : ℕ) → nat_le m n ≡ true → m ≤ n
le-kept m n le = grind (arith, nat_tests)

limit-kept : (d : Data) (limit : Limit) → is_in_range d limit ≡ true → IsInRange limit (limit_of d limit)
limit-kept d limit is =
    let within = within-kept (range_of limit).low (range_of limit).high (limit_number d limit) is in
    let both = and_parts (nat_le (range_of limit).low (limit_of d limit))
    (nat_le (limit_of d limit) (range_of limit).high) within in
    (le-kept (range_of limit).low (limit_of d limit) both.0, le-kept (limit_of d limit) (range_of limit).high both.1)

limits-kept : (d : Data) → list_all (is_in_range d) each_limit ≡ true → AreLimits (limits_of d)
limits-kept d all =
    let calls = and_parts (is_in_range d Calls) (list_all (is_in_range d) (drop 1 each_limit)) all in
    let bytes = and_parts (is_in_range d Bytes) (list_all (is_in_range d) (drop 2 each_limit)) calls.1 in
    let conns = and_parts (is_in_range d Conns) (list_all (is_in_range d) (drop 3 each_limit)) bytes.1 in
    let read = and_parts (is_in_range d Read) (list_all (is_in_range d) (drop 4 each_limit)) conns.1 in
    let periods = and_parts (is_in_range d Periods) (list_all (is_in_range d) (drop 5 each_limit)) read.1 in
    record {
      calls = limit-kept d Calls calls.0;
      bytes = limit-kept d Bytes bytes.0;
      conns = limit-kept d Conns conns.0;
      read = limit-kept d Read read.0;
      periods = limit-kept d Periods periods.0;
    }

-- the program that is told of changes
nonempty : (n : ℕ) → not (n == 0) ≡ true → 1 ≤ n
nonempty n not = grind (arith, nat_tests)

hook-kept : (hook : Option Data) → found true names_program hook ≡ true → IfSome (option_map hook_of hook) IsRightHook
hook-kept None may = tt
hook-kept (Some hook) may =
    let both = and_parts (not (length (program hook) == 0)) (is_number_within 1 100 (tries hook)) may in
    let within = within-kept 1 100 (tries hook) both.1 in
    let parts = and_parts (nat_le 1 (count_of 100 (tries hook))) (nat_le (count_of 100 (tries hook)) 100) within in
    record {
      named = nonempty (length (program hook)) both.0;
      tried = le-kept 1 (count_of 100 (tries hook)) parts.0;
      tries_most = le-kept (count_of 100 (tries hook)) 100 parts.1;
    }

-- each descriptor of a list has few entries
few-in : (acl : Option (List Ace)) (aces : List Ace) → is_right_list acl ≡ true → acl ≡ Some aces
    → nat_le (length aces) 800 ≡ true
few-in None aces right is = absurd cc
few-in (Some others) aces right is =
    let same : others ≡ aces = cc in
    (and_parts (nat_le 0 (length aces)) (nat_le (length aces) 800)
    (subst (λ (xs : List Ace). is_within 0 800 (length xs) ≡ true) same right)).1

few-of : (d : Descriptor) → is_right_descriptor d ≡ true → HasFewAces d.acl
few-of d right = λ aces is. le-kept (length aces) 800 (few-in d.acl aces right is)

pub few-aces : (ds : List Descriptor) → list_all is_right_descriptor ds ≡ true → All (λ d. HasFewAces d.acl) ds
few-aces [] all = λ k e lt. absurd (omega (arith, lt))
few-aces (d ∷ ds) all =
    let both = and_parts _ _ all in
    All-cons (λ e. HasFewAces e.acl) d ds (few-of d both.0) (few-aces ds both.1)

pub few-read : (d : Data) → first_broken_from 1 (kept d) ≡ None → All (λ e. HasFewAces e.acl) (config_of d).descriptors
unfolding kept
few-read d none =
    few-aces (config_of d).descriptors (descriptors-kept d kinds (nth_kept 1 (kept d) 8 _ none refl))

pub right-read : (d : Data) → first_broken_from 1 (kept d) ≡ None → All IsDescriptor (config_of d).descriptors
    → IsRightConfig (config_of d)
unfolding kept hook_is_right
right-read d none parts =
    let names : have_names (listeners d) ≡ true = nth_kept 1 (kept d) 3 _ none refl in
    let tested = and_parts (is_within 1 16 (length (listeners d))
    && list_all (λ listener. is_listener_name (listener_name listener)) (listeners d))
    (are_distinct (map listener_name (listeners d))) names in
    let counted = and_parts (is_within 1 16 (length (listeners d)))
    (list_all (λ listener. is_listener_name (listener_name listener)) (listeners d)) tested.0 in
    record {
      name = nth_kept 1 (kept d) 1 _ none refl;
      sid = sid-kept (domain_sid d) (nth_kept 1 (kept d) 2 _ none refl);
      listener_count = simp (length-map) counted.0;
      listeners = listeners-kept (listeners d) counted.1 (nth_kept 1 (kept d) 4 _ none refl)
          (nth_kept 1 (kept d) 5 _ none refl) (nth_kept 1 (kept d) 6 _ none refl);
      names_differ = simp (map-map) tested.1;
      descriptor_count = refl;
      descriptors = descriptors-kept d kinds (nth_kept 1 (kept d) 8 _ none refl);
      parts = parts;
      limits = limits-kept d (nth_kept 1 (kept d) 9 _ none refl);
      hook = hook-kept (hook_table d) (nth_kept 1 (kept d) 10 _ none refl);
    }
