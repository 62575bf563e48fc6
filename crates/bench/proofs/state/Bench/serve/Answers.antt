use Rattle.std.proofs.Common.{set, Some, sym, ap, ◌∙◌, subst, arith}
use Rattle.history.specs.Bench.{lane_in}
use Rattle.history.specs.Calls.{next_block}
use Rattle.bench.specs.Model.{world}
use Rattle.bench.specs.Quiet.{rests}
use Rattle.bench.specs.Ticks.{FaultAt}
use Rattle.bench.proofs.Rests.{every_true, rests_zero}
use Rattle.bench.proofs.Ticks.{due_ok, attempted_every, attempted_later, attempted_placed, served_read, failures_few}
use Rattle.bench.proofs.state.Bench.serve.Goals as goal

pub attempt-told-requires : goal.attempt-told-requires
attempt-told-requires g c =
    let b = c.args.self.now in
    let d = due_ok b.now b.lanes c.args.head c.in-Some.lane b.safe c.in-Some.is c.requires.1 in
    d

pub invariant_of-self : goal.invariant_of-self
invariant_of-self g c =
    let b = c.args.self.now in
    let safe = attempted_every b.now b.lanes c.args.head c.in-Some.lane _ _ _ _ _ _ b.safe c.in-Some.is c.requires.1 c.attempt-told.ensures.outcome in
    let apart = attempted_later b.now b.lapse b.lanes b.leases c.args.head c.in-Some.lane _ _ _ _ _ _ c.in-Some.is c.attempt-told.ensures.outcome b.unheld in
    record {
      time = omega (arith, c.requires.2);
      calls = omega (arith, b.calls);
      failed = omega (arith, b.failed, failures_few c.attempt-told.result, c.failures_in.ensures);
      safe = safe;
      lent = b.lent;
      heads = attempted_placed b.lanes c.args.head c.in-Some.lane _ _ _ _ _ _ c.in-Some.is c.attempt-told.ensures.outcome b.heads;
      resting = every_true (rests 0) rests_zero (set b.lanes c.args.head (Some c.attempt-told.new.lane));
      unheld = apart;
      sooner = omega arith;
      alive = c.any_live-self.ensures;
    }

pub returns : goal.returns
returns g c =
    let b = c.args.self.now in
    let s = served_read (world g.D.Disk.meaning c.args.pool.now b) c.args.head c.in-Some.lane c.attempt-told.result c.failures_in.result _ _ _ c.failures_in.ensures c.in-Some.is c.attempt-told.ensures.outcome in
    record {
      answer = s.0;
      bench = c.settle.ensures c.attempt-told.new.pool ∙ s.1;
      origin = subst (λ l. FaultAt c.args.head (g.D.Disk.faults b.disk (next_block l)) c.attempt-told.result) (sym (ap lane_in c.in-Some.is)) c.attempt-told.ensures.origin;
    }
