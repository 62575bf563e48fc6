use Rattle.std.proofs.Common.{arith}
use Rattle.loglines.proofs.Memory.{wrote_then}
use Rattle.loglines.proofs.Text.done.Goals as goal

pub pair-requires-2 : goal.pair-requires-2
pair-requires-2 c = omega arith

pub returns-clause-wrote : goal.returns-clause-wrote
returns-clause-wrote c = wrote_then (omega arith) c.pair.ensures.wrote c.pair-2.ensures.wrote
