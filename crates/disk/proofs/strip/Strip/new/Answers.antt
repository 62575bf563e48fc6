use Rattle.std.proofs.Common.{length, refl, arith}
use Rattle.disk.specs.Strips.{StripFits}
use Rattle.disk.proofs.Strips.{strip_proper}
use Rattle.disk.proofs.strip.Strip.new.Goals as goal

pub returns : goal.returns
returns c =
    let f : StripFits (length c.args.bytes.now) = (omega arith, omega arith, omega arith) in
    record { answer = (f, refl, strip_proper c.args.bytes.now f) }
