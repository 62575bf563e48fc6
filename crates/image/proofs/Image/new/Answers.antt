use Rattle.std.proofs.Common.{length, refl, arith}
use Rattle.image.specs.Images.{ImageFits}
use Rattle.image.proofs.Images.{image_proper}
use Rattle.image.proofs.Image.new.Goals as goal

pub returns : goal.returns
returns c =
    let f : ImageFits (length c.args.bytes.now) = (omega arith, omega arith, omega arith) in
    record { answer = (f, refl, image_proper c.args.bytes.now f) }
