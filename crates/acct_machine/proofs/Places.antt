-- Connections that are numbered from 1 stand at the places of their numbers.
use Rattle.std.proofs.Common.{◌≡◌, ◌≢◌, ℕ, zero, suc, ◌+◌, ◌-◌, ◌<◌, ◌≤◌, List, [], ◌∷◌, length, map, Some}
use Rattle.std.proofs.Common.{None, refl}
use Rattle.std.proofs.Common.{◌∙◌, ap, arith, get_or, set}
use Rattle.std.proofs.lemmas.Bool.Decides.{nat_tests}
use Rattle.acct_machine.specs.declared.state.Conn.{Conn}
use Rattle.acct_machine.specs.State.{find_conn}
use Rattle.acct_machine.specs.Step.{serial_set, live_ended}
use Rattle.acct_machine.specs.Sound.{IsNumberedFrom}
use Rattle.acct_machine.proofs.Conns.{set-past, ended-past}

find-here : (k : ℕ) (c : Conn) (cs : List Conn) → c.number ≡ k → find_conn k (c ∷ cs) ≡ Some c
find-here k c cs is = grind (arith, nat_tests)

find-past : (k : ℕ) (c : Conn) (cs : List Conn) → c.number ≢ k → find_conn k (c ∷ cs) ≡ find_conn k cs
find-past k c cs ne = grind (arith, nat_tests)

find-from : (n k m : ℕ) (conns : List Conn) (d : Conn) → IsNumberedFrom n conns → m ≡ n + k → k < length conns
    → find_conn m conns ≡ Some (get_or conns k d)
find-from n k m [] d numbered is lt = absurd (omega (arith, lt))
find-from n zero m (c ∷ cs) d numbered is lt = find-here m c cs (omega (arith, numbered.0, is))
find-from n (suc k) m (c ∷ cs) d numbered is lt =
    find-past m c cs (λ same. omega (arith, numbered.0, is, same))
    ∙ find-from (n + 1) k m cs d numbered.1 (omega (arith, is)) (omega (arith, lt))

-- the connection of a number stands at the place before it
pub find-at : (conn : ℕ) (conns : List Conn) (d : Conn) → IsNumberedFrom 1 conns → 0 < conn → conn ≤ length conns
    → find_conn conn conns ≡ Some (get_or conns (conn - 1) d)
find-at conn conns d numbered some le =
    find-from 1 (conn - 1) conn conns d numbered (omega (arith, some)) (omega (arith, some, le))

find-below : (n conn : ℕ) (conns : List Conn) → IsNumberedFrom n conns → conn < n → find_conn conn conns ≡ None
find-below n conn [] numbered lt = refl
find-below n conn (c ∷ cs) numbered lt =
    find-past conn c cs (λ same. omega (arith, numbered.0, lt, same))
    ∙ find-below (n + 1) conn cs numbered.1 (omega (arith, lt))

find-above : (n conn : ℕ) (conns : List Conn) → IsNumberedFrom n conns → n + length conns ≤ conn
    → find_conn conn conns ≡ None
find-above n conn [] numbered le = refl
find-above n conn (c ∷ cs) numbered le =
    find-past conn c cs (λ same. omega (arith, numbered.0, le, same))
    ∙ find-above (n + 1) conn cs numbered.1 (omega (arith, le))

-- no connection has another number
pub find-none : (conn : ℕ) (conns : List Conn) → IsNumberedFrom 1 conns → (0 < conn → length conns < conn)
    → find_conn conn conns ≡ None
find-none zero conns numbered none = find-below 1 zero conns numbered (omega arith)
find-none (suc conn) conns numbered none =
    find-above 1 (suc conn) conns numbered (omega (arith, none (omega arith)))

-- ---- a change of the connection of one number

-- it leaves every connection of another number
abbrev pub ChangesOne : (Conn → Conn) → ℕ → Type 0
ChangesOne f m = (c : Conn) → c.number ≢ m → f c ≡ c

map-below : (f : Conn → Conn) (n m : ℕ) (conns : List Conn) → ChangesOne f m → IsNumberedFrom n conns → m < n
    → map f conns ≡ conns
map-below f n m [] one numbered lt = refl
map-below f n m (c ∷ cs) one numbered lt =
    ap (λ (d : Conn). d ∷ map f cs) (one c (λ same. omega (arith, numbered.0, lt, same)))
    ∙ ap (λ (ds : List Conn). c ∷ ds) (map-below f (n + 1) m cs one numbered.1 (omega (arith, lt)))

map-from : (f : Conn → Conn) (n k m : ℕ) (conns : List Conn) (d : Conn) → ChangesOne f m → IsNumberedFrom n conns
    → m ≡ n + k → k < length conns → map f conns ≡ set conns k (f (get_or conns k d))
map-from f n k m [] d one numbered is lt = absurd (omega (arith, lt))
map-from f n zero m (c ∷ cs) d one numbered is lt =
    ap (λ (xs : List Conn). f c ∷ xs) (map-below f (n + 1) m cs one numbered.1 (omega (arith, is)))
map-from f n (suc k) m (c ∷ cs) d one numbered is lt =
    ap (λ (x : Conn). x ∷ map f cs) (one c (λ same. omega (arith, numbered.0, is, same)))
    ∙ ap (λ (xs : List Conn). c ∷ xs) (map-from f (n + 1) k m cs d one numbered.1 (omega (arith, is))
    (omega (arith, lt)))

-- the whole list after it: the one place changes
pub map-at : (f : Conn → Conn) (conn : ℕ) (conns : List Conn) (d : Conn) → ChangesOne f conn → IsNumberedFrom 1 conns
    → 0 < conn → conn ≤ length conns → map f conns ≡ set conns (conn - 1) (f (get_or conns (conn - 1) d))
map-at f conn conns d one numbered some le =
    map-from f 1 (conn - 1) conn conns d one numbered (omega (arith, some)) (omega (arith, some, le))

map-past : (f : Conn → Conn) (n m : ℕ) (conns : List Conn) → ChangesOne f m → IsNumberedFrom n conns
    → n + length conns ≤ m → map f conns ≡ conns
map-past f n m [] one numbered le = refl
map-past f n m (c ∷ cs) one numbered le =
    ap (λ (d : Conn). d ∷ map f cs) (one c (λ same. omega (arith, numbered.0, le, same)))
    ∙ ap (λ (ds : List Conn). c ∷ ds) (map-past f (n + 1) m cs one numbered.1 (omega (arith, le)))

-- without such a connection nothing changes
pub map-none : (f : Conn → Conn) (conn : ℕ) (conns : List Conn) → ChangesOne f conn → IsNumberedFrom 1 conns
    → (0 < conn → length conns < conn) → map f conns ≡ conns
map-none f zero conns one numbered none = map-below f 1 zero conns one numbered (omega arith)
map-none f (suc conn) conns one numbered none =
    map-past f 1 (suc conn) conns one numbered (omega (arith, none (omega arith)))

pub set-one : (conn serial : ℕ) → ChangesOne (serial_set conn serial) conn
set-one conn serial c ne = set-past conn serial c ne

pub ended-one : (conn : ℕ) → ChangesOne (live_ended conn) conn
ended-one conn c ne = ended-past conn c ne
