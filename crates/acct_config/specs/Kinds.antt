-- The kinds of objects in order, and the names of their descriptor tables.
use Rattle.std.specs.Prelude.{ℕ, codes, List, [], ◌∷◌, map}
use Rattle.acct_codes.specs.declared.kind.Kind.{Kind}
use Rattle.acct_codes.specs.declared.kind.Kind.TheVariants.{Server, Domain, Group, Alias, User, Policy, Account}

abbrev pub kinds : List Kind
kinds = Server ∷ Domain ∷ Group ∷ Alias ∷ User ∷ Policy ∷ Account ∷ []

abbrev pub kind_name : Kind → List ℕ
kind_name Server = codes "server"
kind_name Domain = codes "domain"
kind_name Group = codes "group"
kind_name Alias = codes "alias"
kind_name User = codes "user"
kind_name Policy = codes "policy"
kind_name Account = codes "account"

abbrev pub kind_names : List (List ℕ)
kind_names = map kind_name kinds

-- where a kind stands in the order
abbrev pub kind_place : Kind → ℕ
kind_place Server = 0
kind_place Domain = 1
kind_place Group = 2
kind_place Alias = 3
kind_place User = 4
kind_place Policy = 5
kind_place Account = 6
