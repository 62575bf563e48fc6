use Rattle.std.proofs.Common.{ℕ, List, ◌++◌, vec_items, sym, ap, ◌∙◌, arith}
use Rattle.queue.specs.Held.{held}
use Rattle.queue.specs.Order.{in_order}
use Rattle.history.specs.Bench.{World}
use Rattle.bench.specs.Model.{world}
use Rattle.cuelists.specs.Dues.{due_before}
use Rattle.cuelists.specs.declared.due.Due.{Due}
use Rattle.jobs.specs.Run.{first_slot}
use Rattle.jobs.proofs.Cues.{none_waits, one_waits, first_out, first_out_fewer, cue_more, cue_waits, cues_over}
use Rattle.jobs.proofs.cueing.run_cues.Goals as goal

pub returns-then-due-slot : goal.returns-then-due-slot
returns-then-due-slot g c =
    let l = c.loop-due in
    let hs : List Due = held l.queue in
    let d : Due = c.in-Some.due in
    let wait = one_waits hs d c.in-Some.ensures.answer in
    λ pool.
    let w : World = world g.D.Disk.meaning pool l.bench in
    record { ran = cue_waits w (vec_items l.log) (in_order due_before hs) _ (l.invariant pool) d wait.0 wait.1 (omega (arith, c.slot.ensures pool)); first = sym (ap first_slot wait.1) }

pub loop-due-smaller : goal.loop-due-smaller
loop-due-smaller g c =
    let l = c.loop-due in
    let told = c.pop.ensures in
    first_out_fewer (held l.queue) (held c.pop.new.self) c.in-Some.due
    (first_out (held l.queue) _ (held c.pop.new.self) c.in-Some.due c.pop.result c.in-Some.ensures.answer told.answer told.foremost told.held)

pub loop-due-preserved : goal.loop-due-preserved
loop-due-preserved g c =
    let l = c.loop-due in
    let told = c.pop.ensures in
    let d : Due = c.in-Some.due in
    let rest = first_out (held l.queue) _ (held c.pop.new.self) d c.pop.result c.in-Some.ensures.answer told.answer told.foremost told.held in
    λ pool.
    let w : World = world g.D.Disk.meaning pool l.bench in
    cue_more w (vec_items l.log) (in_order due_before (held l.queue)) _ (l.invariant pool) _ _ (in_order due_before (held c.pop.new.self)) d rest (omega (arith, c.slot.ensures pool))
    (c.in_ok-add.ensures ∙ ap (λ (t : List ℕ). vec_items l.log ++ t) (c.call-line.ensures.line pool)) (c.call-line.ensures.bench pool)

pub returns : goal.returns
returns g c =
    let l = c.loop-due in
    let over = none_waits (held l.queue) c.in_default.ensures.answer in
    λ pool. record { ran = cues_over (world g.D.Disk.meaning pool l.bench) (vec_items l.log) (in_order due_before (held l.queue)) _ (l.invariant pool) over; first = sym (ap first_slot over) }
