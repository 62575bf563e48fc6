use Rattle.std.proofs.Common.{◌≡◌, ◌++◌, map, take, drop}
use Rattle.history.specs.Calls.{changed, aged}
use Rattle.bench.proofs.ticking.age_all.Given as goal

abbrev pub invariant-loop-lane : goal.invariant-loop-lane
invariant-loop-lane l = l.lanes ≡ map (changed (aged l.slot l.leases)) (take l.lane-index l.initial.lanes) ++ drop l.lane-index l.initial.lanes
