-- The worked examples, by trying every span.
use Rattle.std.proofs.Common.{◌≡◌, ℕ, List, [], ◌∷◌, map, Some, None, Option, refl, subst, MatchOption}
use Rattle.std.specs.List.{AllByRecursion}
use Rattle.windows.specs.Windows.{Window, Assigned, NoneOverfull, FirstOverfull, tried}
use Rattle.windows.proofs.Find.{decision}
use Rattle.windows.proofs.Serve.{hall}
use Rattle.windows.proofs.Slots.{pigeonhole}
use Rattle.schedule.specs.Examples.{Example, examples, ExamplesHold}
use Rattle.schedule.specs.Orders.{charged}

Told : List Window → Option (ℕ × ℕ) → Type 0
Told ws o =
    MatchOption o (NoneOverfull ws) (FirstOverfull ws)
    × MatchOption o ((ss : List ℕ) × Assigned ws ss) (λ _. (ss : List ℕ) → Assigned ws ss → ⊥)

-- what the relation says, the law says too
both : (ws : List Window) (o : Option (ℕ × ℕ)) → MatchOption o (NoneOverfull ws) (FirstOverfull ws) → Told ws o
unfolding Told
both ws None none = (none, hall ws none)
both ws (Some s) first = (first, λ ss a. pigeonhole ws ss a s.1 (s.0, first.0))

all_tried : (es : List Example) → map (λ e. tried (charged 0 e.lanes)) es ≡ map (λ e. e.span) es → AllByRecursion (λ e. Told (charged 0 e.lanes) e.span) es
all_tried [] e = tt
all_tried (x ∷ es) e =
    let ws : List Window = charged 0 x.lanes in
    let head : tried ws ≡ x.span = cc in
    let tail : map (λ y. tried (charged 0 y.lanes)) es ≡ map (λ y. y.span) es = cc in
    (both ws x.span (subst (λ o. MatchOption o (NoneOverfull ws) (FirstOverfull ws)) head (decision ws).0), all_tried es tail)

pub examples_hold : ExamplesHold
unfolding Told
examples_hold = all_tried examples refl
