use Rattle.std.proofs.Common.{sym, arith}
use Rattle.bench.proofs.Ticks.{due_small}
use Rattle.bench.proofs.ticking.request.Goals as goal

pub overflow_cast-result : goal.overflow_cast-result
overflow_cast-result c = omega (arith, due_small c.args.slot c.args.lane.now c.in-Some.lane c.in-Some.is c.requires (sym c.if-not-is_due.ensures), c.deadline.ensures)
