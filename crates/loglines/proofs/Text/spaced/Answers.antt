use Rattle.std.proofs.Common.{arith}
use Rattle.loglines.proofs.Memory.{wrote_then}
use Rattle.loglines.proofs.Text.spaced.Goals as goal

pub returns-clause-wrote : goal.returns-clause-wrote
returns-clause-wrote c = wrote_then (omega arith) c.byte.ensures.wrote c.number.ensures.wrote
