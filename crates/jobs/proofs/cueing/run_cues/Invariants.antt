use Rattle.std.proofs.Common.{◌≡◌, ℕ, List, length, vec_items}
use Rattle.queue.specs.Held.{held}
use Rattle.queue.specs.Order.{in_order}
use Rattle.bench.specs.Model.{world}
use Rattle.cuelists.specs.Dues.{due_before}
use Rattle.jobs.specs.Run.{after_text, cues_run}
use Rattle.jobs.proofs.cueing.run_cues.Given as goal

abbrev pub invariant-loop-due : goal.invariant-loop-due
invariant-loop-due g l =
    (pool : List ℕ)
    → after_text (vec_items l.log) (cues_run (world g.D.Disk.meaning pool l.bench) (in_order due_before (held l.queue)))
    ≡ after_text (vec_items l.initial.log) (cues_run (world g.D.Disk.meaning pool l.initial.bench) (in_order due_before (held l.initial.queue)))

abbrev pub decreases-loop-due : goal.decreases-loop-due
decreases-loop-due g l = length (held l.queue)
