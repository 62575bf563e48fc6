use Rattle.schedule.specs.Scan.{Latest}
use Rattle.schedule.proofs.scan.latest.Given as goal

abbrev pub invariant-loop-head : goal.invariant-loop-head
invariant-loop-head l = Latest l.slot l.h l.lanes l.head l.top
