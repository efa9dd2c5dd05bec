-- In a right configuration openings grant what the check gives over the object's descriptor and the listener's token.
use Rattle.std.proofs.Common.{◌≡◌, ℕ, zero, suc, ◌<◌, Bool, true, false, cond, ◌==◌, List, [], ◌∷◌, length, Option}
use Rattle.std.proofs.Common.{Some, None, refl, sym, subst, arith}
use Rattle.std.specs.List.{All, slice_get}
use Rattle.std.specs.Option.{option_or}
use Rattle.acct_codes.specs.declared.kind.Kind.{Kind}
use Rattle.dtyp_access.specs.declared.descriptor.Descriptor.{Descriptor}
use Rattle.dtyp_access.specs.Granted.{opened}
use Rattle.acct_config.specs.declared.config.Config.{Config}
use Rattle.acct_config.specs.declared.config.Listener.{Listener}
use Rattle.acct_config.specs.Kinds.{kind_place}
use Rattle.acct_config.specs.Spelled.{IsRightConfig}
use Rattle.acct_machine.specs.declared.state.Conn.{Conn}
use Rattle.acct_tables.specs.declared.object.Object.{Object}
use Rattle.acct_tables.specs.Keys.{kind_of}
use Rattle.acct_rows.specs.Rows.{descriptor_of}
use Rattle.acct_codes.specs.declared.kind.Kind.TheVariants as kind
use Rattle.acct_machine.specs.State.{State, find_conn}
use Rattle.acct_machine.specs.Access.{configured, described, listener_of, checked}
use Rattle.acct_machine.specs.Step.{state_at}
use Rattle.acct_machine.specs.Sound.{AreConnected}
use Rattle.acct_machine.specs.Decided.{IsDecided}
use Rattle.acct_machine.proofs.laws.openings_are_decided.Goals as goal

-- an element of a list, at a place that it has
there : {X : Type 0} (xs : List X) (i : ℕ) → i < length xs → (x : X) × (slice_get xs i ≡ Some x)
there [] i lt = absurd (omega (arith, lt))
there (x ∷ xs) zero lt = (x, refl)
there (x ∷ xs) (suc i) lt = there xs i (omega (arith, lt))

-- a connection that is found is at a listener of the configuration
found-at : (here : Bool) (n : ℕ) (d c : Conn) (rest : Option Conn) → d.listener < n → (rest ≡ Some c → c.listener < n)
    → cond here (Some d) rest ≡ Some c → c.listener < n
found-at true n d c rest first later is = let same : d ≡ c = cc in subst (λ (x : Conn). x.listener < n) same first
found-at false n d c rest first later is = later is

found-configured : (conn n : ℕ) (conns : List Conn) (c : Conn) → All (λ (d : Conn). d.listener < n) conns
    → find_conn conn conns ≡ Some c → c.listener < n
found-configured conn n [] c all is = cc
found-configured conn n (d ∷ ds) c all is =
    found-at (d.number == conn) n d c (find_conn conn ds) (all 0 d (omega arith))
    (found-configured conn n ds c (λ k e lt. all (suc k) e (omega (arith, lt)))) is

place-small : (k : Kind) → kind_place k < 7
place-small kind.Server = omega arith
place-small kind.Domain = omega arith
place-small kind.Group = omega arith
place-small kind.Alias = omega arith
place-small kind.User = omega arith
place-small kind.Policy = omega arith
place-small kind.Account = omega arith

placed : (config : Config) (object : Object) → IsRightConfig config
    → kind_place (kind_of object) < length config.descriptors
placed config object right = omega (arith, place-small (kind_of object), right.descriptor_count)

checked-at : (k : Kind) (o : Option Descriptor) (p : Option Listener) (descriptor : Descriptor) (listener : Listener)
    (desired : ℕ)
    → o ≡ Some descriptor → p ≡ Some listener
    → checked k o p desired ≡ opened k descriptor listener.token desired
checked-at k o p descriptor listener desired of at = rw of (rw at refl)

-- the row's descriptor, or else the one that is configured
either : (row : Option Descriptor) (others : Option Descriptor) (d : Descriptor) → others ≡ Some d
    → (e : Descriptor) × (option_or row others ≡ Some e)
either None others d is = (d, is)
either (Some e) others d is = (e, refl)

decided : (config : Config) (s : State) (conn : ℕ) (object : Object) (c : Conn) → IsRightConfig config
    → AreConnected config s
    → find_conn conn s.conns ≡ Some c
    → IsDecided config s conn object c
decided config s conn object c right sound found =
    let place : ℕ = kind_place (kind_of object) in
    let usual = there config.descriptors place (placed config object right) in
    let given : configured s.config (kind_of object) ≡ Some usual.0 =
    subst (λ (x : Config). configured x (kind_of object) ≡ Some usual.0) (sym sound.configuration) usual.1 in
    let d = either (descriptor_of s.rows object) (configured s.config (kind_of object)) usual.0 given in
    let l = there config.listeners c.listener
    (found-configured conn (length config.listeners) s.conns c sound.configured found) in
    let at : listener_of s.config (find_conn conn s.conns) ≡ Some l.0 =
    rw found (subst (λ (x : Config). slice_get x.listeners c.listener ≡ Some l.0) (sym sound.configuration) l.1) in
    record {
      descriptor = d.0;
      listener = l.0;
      has = d.1;
      connected = l.1;
      grants = λ desired. checked-at (kind_of object) (described s object)
          (listener_of s.config (find_conn conn s.conns)) d.0 l.0 desired d.1 at;
    }

pub returns : goal.returns
returns c = λ start history conn object d right legal found.
    decided start.config (state_at start history) conn object d right
    (c.connections_are_numbered.ensures.state start history legal) found
