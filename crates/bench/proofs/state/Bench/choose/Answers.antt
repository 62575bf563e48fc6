use Rattle.std.proofs.Common.{sym, refl, arith}
use Rattle.queue.specs.Held.{held}
use Rattle.history.proofs.Requests.{requested_past}
use Rattle.bench.specs.Ticks.{deadline_of, head_of}
use Rattle.bench.proofs.Ticks.{ok_at, chosen_first, none_due, below_first}
use Rattle.bench.proofs.state.Bench.choose.Goals as goal

pub returns-in_default : goal.returns-in_default
returns-in_default g c = sym (none_due c.args.self.now.now c.args.self.now.lanes (sym c.in_default.ensures))

pub loop-head-preserved-then-head-first : goal.loop-head-preserved-then-head-first
loop-head-preserved-then-head-first g c =
    let b = c.args.self.now in
    let i = c.loop-head.invariant in
    (i.0, omega (arith, i.1), requested_past deadline_of head_of b.now b.lanes c.loop-head.head _ (below_first b.now b.lanes c.in-Some.first c.loop-head.head (sym c.in-Some.ensures) (omega arith)) i.2)

pub offer-requires : goal.offer-requires
offer-requires g c =
    let b = c.args.self.now in
    (ok_at b.lanes c.loop-head.head _ b.safe refl, omega (arith, c.loop-head.invariant.0, c.loop-head.invariant.1))

pub returns : goal.returns
returns g c =
    let i = c.loop-head.invariant in
    chosen_first c.args.self.now.now c.args.self.now.lanes c.loop-head.head (held c.loop-head.queue) c.first.result (omega arith) i.2 c.first.ensures.foremost
