use Rattle.std.proofs.Common.{List, Ok, sym, ◌∙◌, subst}
use Rattle.schedule.specs.Answers.{FirstOverfullOrNone, Limits}
use Rattle.schedule.specs.Orders.{charged}
use Rattle.schedule.specs.declared.Work.{Work}
use Rattle.bench.proofs.Admits.{tried_within}
use Rattle.bench.proofs.admission.crowding.Goals as goal

pub unreachable-requires : goal.unreachable-requires
unreachable-requires c =
    c.in-Err.ensures.bounds.1 (subst (λ (ws : List Work). Limits c.args.slot ws) (sym (c.as_slice.ensures.value ∙ c.works_with.ensures)) (tried_within c.args.slot c.args.asked.now c.args.lanes.now c.requires))
