use Rattle.std.proofs.Common.{rules}
use Rattle.schedule.proofs.Telling.{told}
use Rattle.schedule.proofs.overfull.Goals as goal

pub returns-clause-span : goal.returns-clause-span
returns-clause-span c =
    let a = c.in_ok-lanes.ensures in
    (told c.args.slot c.args.work.now a.0 c.in_ok-lanes.lanes a.2 _ (λ h s made. (search rules, search rules)) _ _ c.first_end.ensures c.map.ensures.cases).0

pub returns-clause-assigned : goal.returns-clause-assigned
returns-clause-assigned c =
    let a = c.in_ok-lanes.ensures in
    (told c.args.slot c.args.work.now a.0 c.in_ok-lanes.lanes a.2 _ (λ h s made. (search rules, search rules)) _ _ c.first_end.ensures c.map.ensures.cases).1
