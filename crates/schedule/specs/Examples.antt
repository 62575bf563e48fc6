-- Worked examples: orders of period 1 and depth 2, all admitted at slot 0.
use Rattle.std.specs.Prelude.{ℕ, List, [], ◌∷◌, Some, None, Option, MatchOption}
use Rattle.std.specs.List.{AllByRecursion}
use Rattle.windows.specs.Windows.{Assigned, NoneOverfull, FirstOverfull}
use Rattle.schedule.specs.declared.Work.{Work}
use Rattle.schedule.specs.Orders.{charged}

-- a new lane of n blocks from slot s on, with k spare attempts
abbrev pub new : ℕ → ℕ → ℕ → Work
new n s k = record { timing = record { count = n; start = s; period = 1; depth = 2; spare = k }; admitted = 0; next = 0; failed = 0 }

-- lanes, and the span in which they are overfull, or none where they fit
pub record Example : Type 0 where
  pub lanes : List Work
  pub span : Option (ℕ × ℕ)

abbrev pub fit : List Work → Example
fit ws = record { lanes = ws; span = None }

abbrev pub crowd : List Work → ℕ → ℕ → Example
crowd ws l h = record { lanes = ws; span = Some (l, h) }

abbrev pub examples : List Example
examples =
    fit (new 2 2 0 ∷ [])
    ∷ crowd (new 2 2 0 ∷ new 2 2 0 ∷ []) 0 3
    ∷ fit (new 2 2 0 ∷ new 2 3 0 ∷ [])
    ∷ fit (new 3 10 0 ∷ [])
    ∷ crowd (new 3 10 0 ∷ new 3 10 0 ∷ []) 11 12
    ∷ fit (new 3 10 0 ∷ new 3 11 0 ∷ [])
    ∷ fit (new 1 2 1 ∷ [])
    ∷ crowd (new 1 2 2 ∷ []) 0 2
    ∷ crowd (new 1 0 0 ∷ []) 0 0
    ∷ []

-- the span of each example is the first overfull one of its lanes, and those without one, and no others, can be assigned
abbrev pub ExamplesHold : Type 0
ExamplesHold = AllByRecursion (λ e.
    MatchOption e.span (NoneOverfull (charged 0 e.lanes)) (FirstOverfull (charged 0 e.lanes))
    × MatchOption e.span ((ss : List ℕ) × Assigned (charged 0 e.lanes) ss) (λ _. (ss : List ℕ) → Assigned (charged 0 e.lanes) ss → ⊥)) examples
