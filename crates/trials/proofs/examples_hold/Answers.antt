use Rattle.std.proofs.Common.{refl}
use Rattle.image.specs.Sums.{sum_to}
use Rattle.trials.proofs.examples_hold.Goals as goal

pub returns : goal.returns
unfolding sum_to
returns c = refl
