use Rattle.std.proofs.lemmas.Result.{IfOk-weaker}
use Rattle.std.proofs.Common.{◌≡◌, List, ◌∙◌}
use Rattle.disk.specs.Meaning.{Block}
use Rattle.layers.specs.Entries.{listed, planned}
use Rattle.layers.specs.Plans.{plan_meaning}
use Rattle.image.specs.Images.{image_meaning}
use Rattle.queue.specs.Held.{held, room}
use Rattle.jobs.specs.Run.{job_disk}
use Rattle.jobs.proofs.Jobs.{list_run}
use Rattle.jobs.proofs.run_list.Goals as goal

pub returns-in-Ok : goal.returns-in-Ok
returns-in-Ok c =
    let told = c.in-Ok.ensures in
    let plan = c.new-disk.result in
    let disk : List Block = plan_meaning (planned (listed plan.entries)) (image_meaning plan.below.bytes.now) in
    let same : disk ≡ job_disk c.args.image.bytes.now (listed c.read_list.new.entries) =
    (λ i. plan_meaning (planned (listed (c.new-disk.ensures.entries i))) (image_meaning (c.new-disk.ensures.below i).bytes.now)) in
    IfOk-weaker c.run_slots.result _ _
    (λ log e faults.
    e faults
    ∙ list_run (room c.new-queue.result) (listed c.new-entries.result) (listed c.read_list.new.entries) (held c.new-queue.result) (held c.read_list.new.queue) c.args.cues.now c.args.image.bytes.now disk
    c.new-queue.ensures.room c.new-entries.ensures c.new-queue.ensures.held told.reads same faults)
    c.run_slots.ensures
