use Rattle.std.proofs.Common.{sym, ◌∙◌}
use Rattle.layers.proofs.Plans.{length_plan}
use Rattle.layers.proofs.plan.layer.PlanDisk.size.Goals as goal

pub returns : goal.returns
returns g c = c.size.ensures ∙ sym (length_plan _ _)
