use Rattle.loglines.proofs.Memory.{wrote_two}
use Rattle.loglines.proofs.Text.pair.Goals as goal

pub returns-clause-wrote : goal.returns-clause-wrote
returns-clause-wrote c = wrote_two c.args.self.now.out.now c.args.self.now.len c.args.first c.args.second c.requires
