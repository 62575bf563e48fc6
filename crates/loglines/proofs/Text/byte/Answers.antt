use Rattle.loglines.proofs.Memory.{wrote_byte}
use Rattle.loglines.proofs.Text.byte.Goals as goal

pub returns-clause-wrote : goal.returns-clause-wrote
returns-clause-wrote c = wrote_byte c.args.self.now.out.now c.args.self.now.len c.args.byte c.requires
