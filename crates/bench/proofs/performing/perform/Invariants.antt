use Rattle.std.proofs.Common.{take, vec_items}
use Rattle.bench.specs.Model.{world}
use Rattle.bench.specs.Performing.{Performs}
use Rattle.bench.proofs.performing.perform.Given as goal

abbrev pub invariant-loop-call : goal.invariant-loop-call
invariant-loop-call g l = Performs (world g.D.Disk.meaning l.initial.pool l.initial.bench) (take l.call-index l.calls) (vec_items l.answers) (world g.D.Disk.meaning l.pool l.bench)
