use Rattle.std.proofs.Common.{sym}
use Rattle.image.proofs.Images.{length_image}
use Rattle.image.proofs.ImageDisk.size.Goals as goal

pub returns : goal.returns
returns c = sym (length_image c.args.self.now.bytes.now)
