use Rattle.std.proofs.Common.{refl}
use Rattle.layers.proofs.Plans.{plan_same_bytes}
use Rattle.layers.proofs.plan.Plan.new.Goals as goal

pub returns : goal.returns
returns g c = record { below = refl; entries = refl; over = plan_same_bytes _ _ }
