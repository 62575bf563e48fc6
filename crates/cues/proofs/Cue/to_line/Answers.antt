use Rattle.std.proofs.Common.{rules}
use Rattle.cues.proofs.RoundTrip.{reads_back}
use Rattle.cues.proofs.Cue.to_line.Goals as goal

pub returns : goal.returns
returns c = record { value = search rules; reads = reads_back c.args.self.now }
