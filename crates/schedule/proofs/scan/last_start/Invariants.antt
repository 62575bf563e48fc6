use Rattle.std.proofs.Common.{◌-◌}
use Rattle.schedule.specs.Scan.{Scanning}
use Rattle.schedule.proofs.Cutting.{CutBefore}
use Rattle.schedule.proofs.scan.last_start.Given as goal

abbrev pub invariant-loop-lane : goal.invariant-loop-lane
invariant-loop-lane l = CutBefore l.h l.work l.lane-items l.lane-index

abbrev pub invariant-loop-counted : goal.invariant-loop-counted
invariant-loop-counted l = Scanning l.slot l.h l.work l.lanes l.counted

abbrev pub decreases-loop-counted : goal.decreases-loop-counted
decreases-loop-counted l = l.h - l.counted
