-- Unit attempts with windows of slots, and when all of them can be given slots of their own.
use Rattle.std.specs.Prelude.{◌≡◌, ℕ, zero, suc, ◌+◌, ◌-◌, ◌<◌, ◌≤◌, max, cond, ◌&&◌, List, [], ◌∷◌, map, Some, None, Option, MatchOption, ◌≢◌, nat_le, nat_lt}
use Rattle.std.specs.List.{AllByRecursion}

-- the slots from start up to, not including, end
pub record Window : Type 0 where
  pub start : ℕ
  pub end : ℕ

-- an assignment: ss gives each window of ws, in order, a slot that lies in it, and no slot twice
abbrev pub Assigned : List Window → List ℕ → Type 0
Assigned [] [] = Unit {0}
Assigned [] (s ∷ ss) = ⊥
Assigned (w ∷ ws) [] = ⊥
Assigned (w ∷ ws) (s ∷ ss) = (w.start ≤ s) × (s < w.end) × AllByRecursion (λ r. s ≢ r) ss × Assigned ws ss

-- 1 if w starts at l or later and ends at h or earlier, else 0
abbrev pub within : ℕ → ℕ → Window → ℕ
within l h w = cond (nat_le l w.start && nat_le w.end h) 1 0

abbrev pub count : ℕ → ℕ → List Window → ℕ
count l h [] = 0
count l h (w ∷ ws) = within l h w + count l h ws

-- the span (l, h) is overfull: more windows lie in it than it has slots
abbrev pub Overfull : ℕ → ℕ → List Window → Type 0
Overfull l h ws = (l ≤ h) × (h - l < count l h ws)

-- some span that ends at h is overfull
abbrev pub OverfullAt : ℕ → List Window → Type 0
OverfullAt h ws = (l : ℕ) × Overfull l h ws

abbrev pub NoneOverfull : List Window → Type 0
NoneOverfull ws = (h : ℕ) → OverfullAt h ws → ⊥

-- (l, h) is the overfull span of smallest h, and of those the one of largest l
abbrev pub FirstOverfull : List Window → ℕ × ℕ → Type 0
FirstOverfull ws s = Overfull s.0 s.1 ws × ((h : ℕ) → h < s.1 → OverfullAt h ws → ⊥) × ((l : ℕ) → s.0 < l → Overfull l s.1 ws → ⊥)

-- the windows at slot t: what is left of each from t on
abbrev pub clip : ℕ → Window → Window
clip t w = record { start = max t w.start; end = w.end }

abbrev pub since : ℕ → List Window → List Window
since t ws = map (clip t) ws

-- ws is rest with c put in somewhere
pub data Pick (c : Window) : List Window → List Window → Type 0 where
  here : {ws : List Window} → Pick c (c ∷ ws) ws
  there : {w : Window} {ws rest : List Window} → Pick c ws rest → Pick c (w ∷ ws) (w ∷ rest)

-- the deadline-driven rule at slot t, from what is pending to what is still pending at t + 1: it is idle where nothing
-- is released, and else serves a released attempt whose end has not come and than which no released one ends sooner
pub data Rule (t : ℕ) : List Window → List Window → Type 0 where
  idle : {ws : List Window} → AllByRecursion (λ w. t < w.start) ws → Rule t ws ws
  serve : {ws rest : List Window} (c : Window) → Pick c ws rest → c.start ≤ t → t < c.end
      → AllByRecursion (λ w. w.start ≤ t → c.end ≤ w.end) rest → Rule t ws rest

-- the rule, slot after slot
pub data Run : ℕ → List Window → ℕ → List Window → Type 0 where
  done : {t : ℕ} {ws : List Window} → Run t ws t ws
  then : {t u : ℕ} {ws rest left : List Window} → Rule t ws rest → Run (suc t) rest u left → Run t ws u left

-- LAWS

-- Step: the rule keeps, at each end h, whether some span that ends there is overfull.
abbrev pub RuleKeepsOverfullEnds : Type 0
RuleKeepsOverfullEnds = (t : ℕ) (ws rest : List Window) → Rule t ws rest → (h : ℕ)
    → (OverfullAt h (since t ws) → OverfullAt h (since (suc t) rest)) × (OverfullAt h (since (suc t) rest) → OverfullAt h (since t ws))

-- Timely: where no span is overfull at t, every pending attempt ends after t.
abbrev pub NoneOverfullNoEndHasCome : Type 0
NoneOverfullNoEndHasCome = (t : ℕ) (ws : List Window) → NoneOverfull (since t ws) → AllByRecursion (λ w. t < w.end) ws

-- Hall: no span is overfull exactly when an assignment exists.
abbrev pub NoneOverfullExactlyWhenAssigned : Type 0
NoneOverfullExactlyWhenAssigned = (ws : List Window) → (NoneOverfull ws → (ss : List ℕ) × Assigned ws ss) × ((ss : List ℕ) → Assigned ws ss → NoneOverfull ws)

-- First miss: the first slot t at which the rule finds a pending attempt whose end has come is the least end of an
-- overfull span.
abbrev pub FirstMissIsLeastOverfullEnd : Type 0
FirstMissIsLeastOverfullEnd = (ws left rest : List Window) (c : Window) (t : ℕ) → Run 0 ws t left → AllByRecursion (λ w. t ≤ w.end) left → Pick c left rest → c.end ≡ t
    → OverfullAt t ws × ((h : ℕ) → h < t → OverfullAt h ws → ⊥)

-- THE SAME DECIDED BY TRYING, for worked examples

abbrev pub or_else : {A : Type 0} → Option A → Option A → Option A
or_else (Some a) o = Some a
or_else None o = o

-- the first answer of f below n
abbrev pub first_of : {A : Type 0} → (ℕ → Option A) → ℕ → Option A
first_of f zero = None
first_of f (suc n) = or_else (first_of f n) (f n)

-- the last end
abbrev pub latest : List Window → ℕ
latest [] = 0
latest (w ∷ ws) = max w.end (latest ws)

-- the span of i slots that ends at h, if it is overfull
abbrev pub tight : List Window → ℕ → ℕ → Option (ℕ × ℕ)
tight ws h i = cond (nat_lt i (count (h - i) h ws)) (Some (h - i, h)) None

-- every end is tried, from the least, with every start, from the largest
abbrev pub tried : List Window → Option (ℕ × ℕ)
tried ws = first_of (λ h. first_of (tight ws h) (suc h)) (suc (latest ws))

-- Trying finds the overfull span of smallest end and then largest start, and none exactly when an assignment exists.
abbrev pub TryingDecides : Type 0
TryingDecides = (ws : List Window) → MatchOption (tried ws) (NoneOverfull ws) (FirstOverfull ws)
    × (tried ws ≡ None → (ss : List ℕ) × Assigned ws ss)
    × ((ss : List ℕ) → Assigned ws ss → tried ws ≡ None)
