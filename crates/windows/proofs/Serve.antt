-- The rule meets every end where no span is overfull, and so makes an assignment.

use Rattle.std.proofs.Common.{◌≡◌, ℕ, zero, suc, ◌+◌, ◌<◌, ◌≤◌, max, List, [], ◌∷◌, refl, inl, inr, arith}
use Rattle.std.specs.List.{AllByRecursion}
use Rattle.std.proofs.ByRecursion.{All-weaker}
use Rattle.std.proofs.lemmas.Bool.{cases_lt}
use Rattle.windows.specs.Windows.{Window, clip, since, Assigned, OverfullAt, NoneOverfull, Pick, here, there, Rule, idle, serve, NoneOverfullNoEndHasCome, latest}
use Rattle.windows.proofs.Counts.{count_pick, bounds}
use Rattle.windows.proofs.Steps.{step}

all_picked : (P : Window → Type 0) (ws : List Window) → ((c : Window) (rest : List Window) → Pick c ws rest → P c) → AllByRecursion P ws
all_picked P [] f = tt
all_picked P (w ∷ ws) f = (f w ws here, all_picked P ws (λ c rest p. f c (w ∷ rest) (there p)))

all_put_back : (P : Window → Type 0) {c : Window} {ws rest : List Window} → Pick c ws rest → P c → AllByRecursion P rest → AllByRecursion P ws
all_put_back P here x q = (x, q)
all_put_back P (there p) x q = (q.0, all_put_back P p x q.1)

pub all_taken : (P : Window → Type 0) {c : Window} {ws rest : List Window} → Pick c ws rest → AllByRecursion P ws → AllByRecursion P rest
all_taken P here q = q.1
all_taken P (there p) q = (q.0, all_taken P p q.1)

-- a window whose end has passed is an overfull span by itself
pub missed : (t : ℕ) {c : Window} {ws rest : List Window} → Pick c ws rest → c.end ≤ t → OverfullAt c.end (since t ws)
missed t {c} p e =
    let h : ℕ = c.end in
    (h, (omega arith, grind (arith, count_pick (clip t) h h p)))

pub timely : NoneOverfullNoEndHasCome
timely t ws fits =
    all_picked (λ w. t < w.end) ws
    (λ c rest p. elim (cases_lt t c.end) [ inl e ↦ e | inr e ↦ absurd (fits c.end (missed t p e)) ])

-- one more window
more : (t : ℕ) (w : Window) {ws rest : List Window} → t < w.end → Rule t ws rest → (rest' : List Window) × Rule t (w ∷ ws) rest'
more t w {ws} fresh (idle q) = elim (cases_lt t w.start) [
  | inl e ↦ (w ∷ ws, idle (e, q))
  | inr e ↦ (ws, serve w here e fresh (All-weaker (λ v. t < v.start) _ (λ v late early. absurd (omega arith)) ws q))
]
more t w {ws} {rest} fresh (serve c p rel open' q) = elim (bounds w.start t (suc w.end) c.end) [
  | inl b ↦ (
    ws,
    serve w here b.0 fresh
        (all_put_back (λ v. v.start ≤ t → w.end ≤ v.end) p (λ _. omega arith) (All-weaker _ _ (λ v k e. omega (arith, k e)) rest q)),
  )
  | inr b ↦ (w ∷ rest, serve c (there p) rel open' ((λ e. omega arith), q))
]

-- while no end has passed, the rule has something to do
acts : (t : ℕ) (ws : List Window) → AllByRecursion (λ w. t < w.end) ws → (rest : List Window) × Rule t ws rest
acts t [] q = ([], idle tt)
acts t (w ∷ ws) q = more t w q.0 (acts t ws q.1).1

-- the slots of rest, with t for the window that was taken out
put : {c : Window} {ws rest : List Window} → Pick c ws rest → ℕ → List ℕ → List ℕ
put here t ss = t ∷ ss
put (there p) t [] = []
put (there p) t (s ∷ ss) = s ∷ put p t ss

put_all : (P : ℕ → Type 0) {c : Window} {ws rest : List Window} (p : Pick c ws rest) (t : ℕ) (ss : List ℕ) → P t → AllByRecursion P ss → AllByRecursion P (put p t ss)
unfolding put
put_all P here t ss x q = (x, q)
put_all P (there p) t [] x q = tt
put_all P (there p) t (s ∷ ss) x q = (q.0, put_all P p t ss x q.1)

put_assigned : {c : Window} {ws rest : List Window} (p : Pick c ws rest) (t : ℕ) (ss : List ℕ) → c.start ≤ t → t < c.end
    → Assigned rest ss → AllByRecursion (λ s. t < s) ss → Assigned ws (put p t ss)
unfolding put
put_assigned here t ss rel fresh a q = (rel, fresh, All-weaker (λ s. t < s) _ (λ s k. omega arith) ss q, a)
put_assigned (there p) t [] rel fresh a q = absurd a
put_assigned (there p) t (s ∷ ss) rel fresh a q =
    (a.0, a.1, put_all (λ r. s ≡ r → ⊥) p t ss (omega arith) a.2, put_assigned p t ss rel fresh a.3 q.1)

-- an assignment of slots from t on
From : ℕ → List Window → Type 0
From t ws = (ss : List ℕ) × Assigned ws ss × AllByRecursion (λ s. t ≤ s) ss

filled : (t : ℕ) {ws rest : List Window} → Rule t ws rest → From (suc t) rest → From t ws
unfolding From
filled t (idle q) f = (f.0, f.1, All-weaker (λ s. suc t ≤ s) _ (λ s k. omega arith) f.0 f.2)
filled t (serve c p rel fresh q) f = (
  put p t f.0,
  put_assigned p t f.0 rel fresh f.1 f.2,
  put_all (λ s. t ≤ s) p t f.0 (omega arith) (All-weaker (λ s. suc t ≤ s) _ (λ s k. omega arith) f.0 f.2),
)

all_left : (P : Window → Type 0) {t : ℕ} {ws rest : List Window} → Rule t ws rest → AllByRecursion P ws → AllByRecursion P rest
all_left P (idle q) a = a
all_left P (serve c p rel fresh q) a = all_taken P p a

-- n slots are left until the last end
assign : (n t : ℕ) (ws : List Window) → NoneOverfull (since t ws) → AllByRecursion (λ w. w.end ≤ t + n) ws → From t ws
unfolding From
assign zero t [] fits q = ([], tt, tt)
assign zero t (w ∷ ws) fits q = absurd (omega (arith, (timely t (w ∷ ws) fits).0))
assign (suc n) t ws fits q =
    let (rest, r) = acts t ws (timely t ws fits) in
    filled t r (assign n (suc t) rest (λ h o. fits h ((step t ws rest r h).1 o))
    (All-weaker (λ w. w.end ≤ t + suc n) _ (λ w k. omega arith) rest (all_left _ r q)))

pub since_zero : (ws : List Window) → since 0 ws ≡ ws
since_zero [] = refl
since_zero (w ∷ ws) =
    let e : max 0 w.start ≡ w.start = omega arith in
    λ i. record { start = e i; end = w.end } ∷ since_zero ws i

pub by_latest : (ws : List Window) (n : ℕ) → latest ws ≤ n → AllByRecursion (λ w. w.end ≤ n) ws
by_latest [] n e = tt
by_latest (w ∷ ws) n e = (omega arith, by_latest ws n (omega arith))

pub hall : (ws : List Window) → NoneOverfull ws → (ss : List ℕ) × Assigned ws ss
unfolding From
hall ws fits =
    let f = assign (latest ws) 0 ws (rw since_zero fits) (by_latest ws (0 + latest ws) (omega arith)) in
    (f.0, f.1)
