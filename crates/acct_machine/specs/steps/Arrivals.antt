-- The keys by which handles are found.
use Rattle.std.specs.Prelude.{ℕ, List, [], ◌∷◌}
use Rattle.std.specs.Ordering.{nat_cmp, ordering_then}
use Rattle.std.specs.declared.cmp.Ordering.{Ordering}
use Rattle.acct_tables.specs.Keyed.{Key, compare, ended}
use Rattle.acct_tables.specs.declared.object.Object.{Object}
use Rattle.acct_tables.specs.declared.object.Object.TheVariants.{Server, Domain, Group, Alias, User, Policy, Account}
use Rattle.acct_tables.specs.Keys.{domain_of, rid_of}
use Rattle.acct_machine.specs.declared.arrivals.Arrival.{Arrival}
use Rattle.acct_machine.specs.declared.arrivals.Numbered.{Numbered}
use Rattle.acct_machine.specs.declared.arrivals.Numbered.TheVariants as numbers
use Rattle.acct_machine.specs.State.{number_of}

-- a connection, a handle's number, and the handle's turn
abbrev pub number_key : Arrival → Key
number_key a = a.held.conn ∷ number_of a.held.conn a.held.serial ∷ a.turn ∷ []

-- the handles of a connection, or those with a number among them
abbrev pub number_front : Numbered → Key
number_front (numbers.Conn conn) = conn ∷ []
number_front (numbers.Handle conn number) = conn ∷ number ∷ []

-- objects of one kind have one rank
abbrev pub rank_of : Object → ℕ
rank_of Server = 0
rank_of (Domain number) = 1
rank_of (Group rid) = 2
rank_of (Alias domain rid) = 3
rank_of (User rid) = 4
rank_of Policy = 5
rank_of (Account sid) = 6

abbrev pub sid_part : Object → List ℕ
sid_part (Account sid) = sid.authority ∷ sid.subs
sid_part _ = []

-- the kind of an object, then its domain, its relative identifier and its SID, where it has them
abbrev pub object_part : Object → Key → Key
object_part object behind = rank_of object ∷ domain_of object ∷ rid_of object ∷ ended (sid_part object) behind

-- the order of two objects
abbrev pub object_order : Object → Object → Ordering
object_order a b = ordering_then (nat_cmp (rank_of a) (rank_of b)) (ordering_then (nat_cmp (domain_of a) (domain_of b))
    (ordering_then (nat_cmp (rid_of a) (rid_of b)) (compare (sid_part a) (sid_part b))))

-- an object, and then as by number
abbrev pub object_key : Arrival → Key
object_key a = object_part a.held.object (number_key a)

abbrev pub object_front : Object → Key
object_front object = object_part object []

-- a handle's turn, and then as by number
abbrev pub turn_key : Arrival → Key
turn_key a = a.turn ∷ number_key a
