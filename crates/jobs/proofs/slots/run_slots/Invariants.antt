use Rattle.std.proofs.Common.{◌≡◌, ◌-◌, ◌++◌, length, vec_items}
use Rattle.queue.specs.Held.{held}
use Rattle.queue.specs.Order.{in_order}
use Rattle.bench.specs.Model.{world}
use Rattle.cuelists.specs.Dues.{due_before}
use Rattle.jobs.specs.Run.{first_slot}
use Rattle.jobs.proofs.Running.{left_of}
use Rattle.jobs.proofs.slots.run_slots.Given as goal

abbrev pub invariant-slots : goal.invariant-slots
invariant-slots g l =
    (length l.pool ≡ 2048)
    × (l.next ≡ first_slot (in_order due_before (held l.queue)))
    × (vec_items l.log ++ left_of (world g.D.Disk.meaning l.pool l.bench) (in_order due_before (held l.queue))
    ≡ left_of (world g.D.Disk.meaning l.initial.pool l.initial.bench) (in_order due_before (held l.initial.queue)))

abbrev pub decreases-slots : goal.decreases-slots
decreases-slots g l = 1000000 - l.bench.now
