use Rattle.std.proofs.Common.{sym}
use Rattle.disk.proofs.Strips.{length_strip}
use Rattle.disk.proofs.strip.StripDisk.size.Goals as goal

pub returns : goal.returns
returns c = sym (length_strip c.args.self.now.bytes.now)
