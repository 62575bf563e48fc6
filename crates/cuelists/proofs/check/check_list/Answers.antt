use Rattle.std.proofs.Common.{◌∙◌}
use Rattle.std.proofs.lemmas.Result.{IfOk-weaker}
use Rattle.layers.specs.Entries.{listed}
use Rattle.queue.specs.Held.{held, room}
use Rattle.cuelists.proofs.Checks.{checked}
use Rattle.cuelists.proofs.check.check_list.Goals as goal

pub returns-in-Ok : goal.returns-in-Ok
returns-in-Ok c =
    let told = c.in-Ok.ensures in
    let whole = checked (room c.new-queue.result) (listed c.new-entries.result) _ (held c.new-queue.result) (held c.read_list.new.queue) c.args.input.now c.new-queue.ensures.room c.new-entries.ensures c.new-queue.ensures.held told.reads in
    IfOk-weaker c.in_order.result _ _ (λ text e. e ∙ whole) c.in_order.ensures
