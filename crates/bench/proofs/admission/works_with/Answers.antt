use Rattle.std.proofs.Common.{lit<, arith}
use Rattle.bench.proofs.Admits.{works_room}
use Rattle.bench.proofs.admission.works_with.Goals as goal

pub push-requires-in-loop-lane : goal.push-requires-in-loop-lane
push-requires-in-loop-lane c = (lit< tt, works_room c.args.lanes.now c.loop-lane.lane-index c.in-Some.lane _ _ (omega arith) c.in-Some.is c.in-Live.is c.loop-lane.invariant (omega (arith, c.requires.few)))
