use Rattle.std.proofs.Common.{ℕ, vec_items, sym, ap, ◌∙◌}
use Rattle.queue.specs.Held.{held}
use Rattle.queue.specs.Order.{in_order}
use Rattle.bench.specs.Model.{world}
use Rattle.cuelists.specs.Dues.{due_before}
use Rattle.jobs.specs.Run.{come}
use Rattle.jobs.proofs.Cues.{none_come}
use Rattle.jobs.proofs.cueing.run_due.Goals as goal

pub returns-then-not-has_come : goal.returns-then-not-has_come
returns-then-not-has_come g c = λ pool.
    none_come (world g.D.Disk.meaning pool c.args.bench.now) (in_order due_before (held c.args.queue.now)) (vec_items c.args.log.now) c.args.next c.requires
    (ap (λ (n : ℕ). come c.args.next n) (sym (c.slot.ensures pool)) ∙ (sym c.has_come.ensures ∙ c.if-not-has_come.true))
