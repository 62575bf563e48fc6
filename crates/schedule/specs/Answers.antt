-- What the search for the overfull span answers.
use Rattle.std.specs.Prelude.{◌≡◌, ℕ, ◌≤◌, List, length, Some, None, Ok, Err, Option, Result}
use Rattle.refusal.specs.declared.Refusal.{Refusal}
use Rattle.refusal.specs.declared.Refusal.TheVariants.{Bounds}
use Rattle.refusal.specs.declared.Span.{Span}
use Rattle.std.specs.List.{AllByRecursion}
use Rattle.windows.specs.Windows.{Window, Assigned, NoneOverfull, FirstOverfull}
use Rattle.schedule.specs.declared.Work.{Work}
use Rattle.schedule.specs.Orders.{Proper}

-- a slot of the bench, and what can be left of the lanes of its eight heads
pub record Limits (t : ℕ) (ws : List Work) : Type 0 where
  pub slot : t ≤ 1000000
  pub eight : length ws ≤ 8
  pub proper : AllByRecursion Proper ws

abbrev pub BoundsExactlyOutsideLimits : ℕ → List Work → Result (Option Span) Refusal → Type 0
BoundsExactlyOutsideLimits slot ws (Ok o) = Limits slot ws
BoundsExactlyOutsideLimits slot ws (Err e) = (e ≡ Bounds) × (Limits slot ws → ⊥)

-- the overfull span of smallest h, and of those the one of largest l; none where no span is overfull
abbrev pub FirstOverfullOrNone : List Window → Result (Option Span) Refusal → Type 0
FirstOverfullOrNone ws (Ok None) = NoneOverfull ws
FirstOverfullOrNone ws (Ok (Some s)) = FirstOverfull ws (s.l, s.h)
FirstOverfullOrNone ws (Err e) = Unit {0}

abbrev pub NoneExactlyWhenAssigned : List Window → Result (Option Span) Refusal → Type 0
NoneExactlyWhenAssigned ws (Ok None) = (ss : List ℕ) × Assigned ws ss
NoneExactlyWhenAssigned ws (Ok (Some s)) = (ss : List ℕ) → Assigned ws ss → ⊥
NoneExactlyWhenAssigned ws (Err e) = Unit {0}
