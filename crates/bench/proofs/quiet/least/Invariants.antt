use Rattle.std.proofs.Common.{◌≡◌, ℕ, ◌≤◌, Some, None, take, get_or}
use Rattle.std.specs.Fn.{FnReturnsAt}
use Rattle.bench.proofs.quiet.least.Given as goal

abbrev pub invariant-loop-item : goal.invariant-loop-item
invariant-loop-item g l = (k : ℕ) (t : _) → get_or (take l.item-index l.all) k None ≡ Some t → (r : ℕ) × FnReturnsAt g.F.Fn l.of t r × (l.least ≤ r)
