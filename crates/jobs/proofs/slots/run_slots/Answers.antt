use Rattle.std.proofs.Common.{◌≡◌, ℕ, suc, ◌<◌, List, ◌++◌, replicate, vec_items, sym, ap, ◌∙◌, arith}
use Rattle.queue.specs.Held.{held}
use Rattle.queue.specs.Order.{in_order}
use Rattle.history.specs.Bench.{World}
use Rattle.history.specs.Calls.{new}
use Rattle.bench.specs.Model.{world}
use Rattle.cuelists.specs.Dues.{due_before}
use Rattle.cuelists.specs.declared.due.Due.{Due}
use Rattle.jobs.proofs.Running.{left_of, stays, slot_more, run_ends, run_goes, slots_told}
use Rattle.jobs.proofs.Ticks.{passed_later}
use Rattle.jobs.proofs.slots.run_slots.Goals as goal

pub slots-smaller : goal.slots-smaller
slots-smaller g c =
    let l = c.slots in
    let ds : List Due = in_order due_before (held l.queue) in
    let ds₁ : List Due = in_order due_before (held c.run_due.new.queue) in
    let w : World = world g.D.Disk.meaning l.pool l.bench in
    let w₁ : World = world g.D.Disk.meaning l.pool c.run_due.new.bench in
    let w₂ : World = world g.D.Disk.meaning c.tick.new.pool c.tick.new.bench in
    let log₁ : List ℕ = vec_items c.run_due.new.log in
    let cues = c.in_ok-next.ensures l.pool in
    let goes = run_goes w w₁ ds ds₁ (vec_items l.log) log₁ c.in_ok-next.next cues (sym c.is_over.ensures ∙ c.if-is_over.false) in
    let same : w₁.now ≡ w.now = stays w w₁ ds ds₁ (vec_items l.log) log₁ c.in_ok-next.next cues in
    let early : w₁.now < 1000000 = omega (arith, goes.0, c.run_due.new.bench.time) in
    let later : w₂.now ≡ suc w₁.now = passed_later w₁ w₂ log₁ (vec_items c.tick.new.log) l.invariant.0 early c.in_ok-tick.ensures in
    omega (arith, same, later, early)

pub slots-preserved : goal.slots-preserved
slots-preserved g c =
    let l = c.slots in
    let ds : List Due = in_order due_before (held l.queue) in
    let ds₁ : List Due = in_order due_before (held c.run_due.new.queue) in
    let w : World = world g.D.Disk.meaning l.pool l.bench in
    let w₁ : World = world g.D.Disk.meaning l.pool c.run_due.new.bench in
    let w₂ : World = world g.D.Disk.meaning c.tick.new.pool c.tick.new.bench in
    let log₁ : List ℕ = vec_items c.run_due.new.log in
    let cues = c.in_ok-next.ensures l.pool in
    let goes = run_goes w w₁ ds ds₁ (vec_items l.log) log₁ c.in_ok-next.next cues (sym c.is_over.ensures ∙ c.if-is_over.false) in
    let early : w₁.now < 1000000 = omega (arith, goes.0, c.run_due.new.bench.time) in (
      omega arith,
      cues.first,
      slot_more w w₁ ds ds₁ (vec_items l.log) log₁ c.in_ok-next.next cues _ l.invariant.2 w₂ (vec_items c.tick.new.log) goes.1 l.invariant.0 early c.in_ok-tick.ensures,
    )

pub returns : goal.returns
returns g c told =
    let l = c.slots in
    let ds : List Due = in_order due_before (held l.queue) in
    let ds₁ : List Due = in_order due_before (held c.run_due.new.queue) in
    let w : World = world g.D.Disk.meaning l.pool l.bench in
    let w₁ : World = world g.D.Disk.meaning l.pool c.run_due.new.bench in
    let w₀ : World = world g.D.Disk.meaning (replicate 2048 0) c.new-bench.result in
    let ds₀ : List Due = in_order due_before (held c.args.queue.now) in
    let log₁ : List ℕ = vec_items c.run_due.new.log in
    let cues = c.in_ok-next.ensures l.pool in
    let added = c.in_ok-add.ensures ∙ ap (λ (t : List ℕ). log₁ ++ t) (c.last_line.ensures l.pool) in
    let whole : vec_items c.add.new.log ≡ left_of w₀ ds₀ = run_ends w w₁ ds ds₁ (vec_items l.log) log₁ c.in_ok-next.next cues (left_of w₀ ds₀) l.invariant.2 (vec_items c.add.new.log) (sym c.is_over.ensures ∙ c.if-is_over.true) added in
    whole ∙ (ap (λ (v : World). left_of v ds₀) (c.new-bench.ensures (replicate 2048 0)) ∙ sym (slots_told told 1000000 (new 0 (g.D.Disk.meaning c.args.disk) (replicate 2048 0)) ds₀))
