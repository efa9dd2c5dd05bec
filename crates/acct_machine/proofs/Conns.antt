-- Which connections are live, and their serials, after each change of the list.
use Rattle.std.proofs.Common.{◌≡◌, ◌≢◌, inl, inr, ℕ, ◌+◌, ◌≤◌, true, false, cond, List, [], ◌∷◌, ◌++◌, length, map}
use Rattle.std.proofs.Common.{refl, sym, ◌∙◌, ap, arith}
use Rattle.std.proofs.lemmas.Bool.{cases_eq}
use Rattle.std.proofs.lemmas.Bool.Decides.{nat_tests}
use Rattle.acct_machine.specs.declared.state.Conn.{Conn}
use Rattle.acct_machine.specs.State.{is_live, last_serial}
use Rattle.acct_machine.specs.Step.{serial_set, new_conn, live_ended}
use Rattle.acct_machine.specs.Sound.{IsNumberedFrom}
use Rattle.acct_machine.specs.Shown.{live_count}

-- a list whose head has the number that is looked for, and one whose head hasn't
pub live-here : (k : ℕ) (c : Conn) (cs : List Conn) → c.number ≡ k → is_live k (c ∷ cs) ≡ c.live
live-here k c cs e = grind (arith, nat_tests)

pub live-past : (k : ℕ) (c : Conn) (cs : List Conn) → c.number ≢ k → is_live k (c ∷ cs) ≡ is_live k cs
live-past k c cs e = grind (arith, nat_tests)

pub serial-here : (k : ℕ) (c : Conn) (cs : List Conn) → c.number ≡ k → last_serial k (c ∷ cs) ≡ c.serial
serial-here k c cs e = grind (arith, nat_tests)

pub serial-past : (k : ℕ) (c : Conn) (cs : List Conn) → c.number ≢ k → last_serial k (c ∷ cs) ≡ last_serial k cs
serial-past k c cs e = grind (arith, nat_tests)

-- what a change of one connection does to one element
pub set-here : (conn serial : ℕ) (c : Conn) → c.number ≡ conn → serial_set conn serial c ≡ record c { serial = serial }
set-here conn serial c e = grind (arith, nat_tests)

pub set-past : (conn serial : ℕ) (c : Conn) → c.number ≢ conn → serial_set conn serial c ≡ c
set-past conn serial c e = grind (arith, nat_tests)

pub ended-here : (conn : ℕ) (c : Conn) → c.number ≡ conn → live_ended conn c ≡ record c { live = false }
ended-here conn c e = grind (arith, nat_tests)

pub ended-past : (conn : ℕ) (c : Conn) → c.number ≢ conn → live_ended conn c ≡ c
ended-past conn c e = grind (arith, nat_tests)

-- one more serial
pub live-set : (k conn serial : ℕ) (conns : List Conn)
    → is_live k (map (serial_set conn serial) conns) ≡ is_live k conns
live-set k conn serial [] = refl
live-set k conn serial (c ∷ cs) =
    let rest : is_live k (map (serial_set conn serial) cs) ≡ is_live k cs = live-set k conn serial cs in
    elim (cases_eq c.number conn) [
      | inl same ↦ rw (set-here conn serial c same) (grind (arith, nat_tests))
      | inr other ↦ rw (set-past conn serial c other) (grind (arith, nat_tests))
    ]

pub serial-set-same : (conn serial : ℕ) (conns : List Conn) → is_live conn conns ≡ true
    → last_serial conn (map (serial_set conn serial) conns) ≡ serial
serial-set-same conn serial [] live = cc
serial-set-same conn serial (c ∷ cs) live =
    elim (cases_eq c.number conn) [
      | inl same ↦ rw (set-here conn serial c same)
          (serial-here conn (record c { serial = serial }) (map (serial_set conn serial) cs) same)
      | inr other ↦
          let rest : last_serial conn (map (serial_set conn serial) cs) ≡ serial =
          serial-set-same conn serial cs (sym (live-past conn c cs other) ∙ live) in
          rw (set-past conn serial c other) (serial-past conn c (map (serial_set conn serial) cs) other ∙ rest)
    ]

pub serial-set-other : (k conn serial : ℕ) (conns : List Conn) → k ≢ conn
    → last_serial k (map (serial_set conn serial) conns) ≡ last_serial k conns
serial-set-other k conn serial [] ne = refl
serial-set-other k conn serial (c ∷ cs) ne =
    let rest : last_serial k (map (serial_set conn serial) cs) ≡ last_serial k cs =
    serial-set-other k conn serial cs ne in
    elim (cases_eq c.number conn) [
      | inl same ↦ rw (set-here conn serial c same) (grind (arith, nat_tests))
      | inr other ↦ rw (set-past conn serial c other) (grind (arith, nat_tests))
    ]

pub length-set : (conn serial : ℕ) (conns : List Conn) → length (map (serial_set conn serial) conns) ≡ length conns
length-set conn serial [] = refl
length-set conn serial (c ∷ cs) = let rest = length-set conn serial cs in omega arith

pub count-set : (conn serial : ℕ) (conns : List Conn)
    → live_count (map (serial_set conn serial) conns) ≡ live_count conns
count-set conn serial [] = refl
count-set conn serial (c ∷ cs) =
    let rest = count-set conn serial cs in
    elim (cases_eq c.number conn) [
      | inl same ↦ rw (set-here conn serial c same) (ap (λ n. cond c.live 1 0 + n) rest)
      | inr other ↦ rw (set-past conn serial c other) (ap (λ n. cond c.live 1 0 + n) rest)
    ]

pub numbered-set : (n conn serial : ℕ) (conns : List Conn) → IsNumberedFrom n conns
    → IsNumberedFrom n (map (serial_set conn serial) conns)
numbered-set n conn serial [] h = tt
numbered-set n conn serial (c ∷ cs) h =
    let rest : IsNumberedFrom (n + 1) (map (serial_set conn serial) cs) = numbered-set (n + 1) conn serial cs h.1 in
    elim (cases_eq c.number conn) [
      | inl same ↦ rw (set-here conn serial c same) (h.0, rest)
      | inr other ↦ rw (set-past conn serial c other) (h.0, rest)
    ]

-- one connection ended
pub live-ended-same : (conn : ℕ) (conns : List Conn) → is_live conn (map (live_ended conn) conns) ≡ false
live-ended-same conn [] = refl
live-ended-same conn (c ∷ cs) =
    elim (cases_eq c.number conn) [
      | inl same ↦ rw (ended-here conn c same)
          (live-here conn (record c { live = false }) (map (live_ended conn) cs) same)
      | inr other ↦ rw (ended-past conn c other)
          (live-past conn c (map (live_ended conn) cs) other ∙ live-ended-same conn cs)
    ]

pub live-ended-other : (k conn : ℕ) (conns : List Conn) → k ≢ conn
    → is_live k (map (live_ended conn) conns) ≡ is_live k conns
live-ended-other k conn [] ne = refl
live-ended-other k conn (c ∷ cs) ne =
    let rest : is_live k (map (live_ended conn) cs) ≡ is_live k cs = live-ended-other k conn cs ne in
    elim (cases_eq c.number conn) [
      | inl same ↦ rw (ended-here conn c same) (grind (arith, nat_tests))
      | inr other ↦ rw (ended-past conn c other) (grind (arith, nat_tests))
    ]

pub serial-ended : (k conn : ℕ) (conns : List Conn) → last_serial k (map (live_ended conn) conns) ≡ last_serial k conns
serial-ended k conn [] = refl
serial-ended k conn (c ∷ cs) =
    let rest : last_serial k (map (live_ended conn) cs) ≡ last_serial k cs = serial-ended k conn cs in
    elim (cases_eq c.number conn) [
      | inl same ↦ rw (ended-here conn c same) (grind (arith, nat_tests))
      | inr other ↦ rw (ended-past conn c other) (grind (arith, nat_tests))
    ]

pub length-ended : (conn : ℕ) (conns : List Conn) → length (map (live_ended conn) conns) ≡ length conns
length-ended conn [] = refl
length-ended conn (c ∷ cs) = let rest = length-ended conn cs in omega arith

pub count-ended : (conn : ℕ) (conns : List Conn) → live_count (map (live_ended conn) conns) ≤ live_count conns
count-ended conn [] = omega arith
count-ended conn (c ∷ cs) =
    let rest : live_count (map (live_ended conn) cs) ≤ live_count cs = count-ended conn cs in
    elim (cases_eq c.number conn) [
      | inl same ↦ rw (ended-here conn c same) (omega arith)
      | inr other ↦ rw (ended-past conn c other) (omega arith)
    ]

pub count-ended-live : (conn : ℕ) (conns : List Conn) → is_live conn conns ≡ true
    → live_count (map (live_ended conn) conns) + 1 ≤ live_count conns
count-ended-live conn [] live = cc
count-ended-live conn (c ∷ cs) live =
    elim (cases_eq c.number conn) [
      | inl same ↦
          let was : c.live ≡ true = sym (live-here conn c cs same) ∙ live in
          let rest = count-ended conn cs in
          rw (ended-here conn c same) (rw was (omega arith))
      | inr other ↦
          let rest = count-ended-live conn cs (sym (live-past conn c cs other) ∙ live) in
          rw (ended-past conn c other) (omega arith)
    ]

pub numbered-ended : (n conn : ℕ) (conns : List Conn) → IsNumberedFrom n conns
    → IsNumberedFrom n (map (live_ended conn) conns)
numbered-ended n conn [] h = tt
numbered-ended n conn (c ∷ cs) h =
    let rest : IsNumberedFrom (n + 1) (map (live_ended conn) cs) = numbered-ended (n + 1) conn cs h.1 in
    elim (cases_eq c.number conn) [
      | inl same ↦ rw (ended-here conn c same) (h.0, rest)
      | inr other ↦ rw (ended-past conn c other) (h.0, rest)
    ]

-- one more connection at the end
pub live-push : (k : ℕ) (c : Conn) (conns : List Conn) → c.number ≢ k → is_live k (conns ++ c ∷ []) ≡ is_live k conns
live-push k c [] ne = live-past k c [] ne
live-push k c (d ∷ ds) ne = let rest = live-push k c ds ne in elim (cases_eq d.number k) [
  | inl same ↦ live-here k d (ds ++ c ∷ []) same ∙ sym (live-here k d ds same)
  | inr other ↦ live-past k d (ds ++ c ∷ []) other ∙ rest ∙ sym (live-past k d ds other)
]

pub serial-push : (k : ℕ) (c : Conn) (conns : List Conn) → c.number ≢ k
    → last_serial k (conns ++ c ∷ []) ≡ last_serial k conns
serial-push k c [] ne = serial-past k c [] ne
serial-push k c (d ∷ ds) ne = let rest = serial-push k c ds ne in elim (cases_eq d.number k) [
  | inl same ↦ serial-here k d (ds ++ c ∷ []) same ∙ sym (serial-here k d ds same)
  | inr other ↦ serial-past k d (ds ++ c ∷ []) other ∙ rest ∙ sym (serial-past k d ds other)
]

pub length-push : (c : Conn) (conns : List Conn) → length (conns ++ c ∷ []) ≡ length conns + 1
length-push c [] = refl
length-push c (d ∷ ds) = let rest = length-push c ds in omega arith

pub count-push : (c : Conn) (conns : List Conn) → live_count (conns ++ c ∷ []) ≤ live_count conns + 1
count-push c [] = elim c.live as (λ b. cond b 1 0 + 0 ≤ 1) [ true ↦ omega arith | false ↦ omega arith ]
count-push c (d ∷ ds) = let rest = count-push c ds in omega arith

pub numbered-push : (n : ℕ) (c : Conn) (conns : List Conn) → IsNumberedFrom n conns → c.number ≡ n + length conns
    → IsNumberedFrom n (conns ++ c ∷ [])
numbered-push n c [] h is = (omega arith, tt)
numbered-push n c (d ∷ ds) h is = (h.0, numbered-push (n + 1) c ds h.1 (omega arith))

-- no connection is live whose number is past the last
pub live-above : (n k : ℕ) (conns : List Conn) → IsNumberedFrom n conns → n + length conns ≤ k → is_live k conns ≡ false
live-above n k [] h le = refl
live-above n k (c ∷ cs) h le =
    let ne : c.number ≢ k = λ e. omega (arith, h.0, e) in
    live-past k c cs ne ∙ live-above (n + 1) k cs h.1 (omega arith)

pub live-new : (n k listener : ℕ) (conns : List Conn) → IsNumberedFrom n conns → k ≡ n + length conns
    → is_live k (conns ++ new_conn k listener ∷ []) ≡ true
live-new n k listener [] h is = live-here k (new_conn k listener) [] refl
live-new n k listener (c ∷ cs) h is =
    let ne : c.number ≢ k = λ e. omega (arith, h.0, e, is) in
    live-past k c (cs ++ new_conn k listener ∷ []) ne ∙ live-new (n + 1) k listener cs h.1 (omega arith)
