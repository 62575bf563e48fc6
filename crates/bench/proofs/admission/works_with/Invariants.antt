use Rattle.std.proofs.Common.{◌≡◌, ◌∷◌, ◌++◌, drop}
use Rattle.history.specs.Bench.{works}
use Rattle.history.specs.Calls.{new_work}
use Rattle.bench.proofs.admission.works_with.Given as goal

abbrev pub invariant-loop-lane : goal.invariant-loop-lane
invariant-loop-lane l = l.all.items ++ works (drop l.lane-index l.lanes) ≡ new_work l.slot l.asked ∷ works l.lanes
