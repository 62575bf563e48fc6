use Rattle.std.proofs.Common.{◌+◌, refl, ◌∙◌, arith}
use Rattle.bench.specs.Model.{world}
use Rattle.bench.specs.Quiet.{rests}
use Rattle.bench.specs.Ticks.{no_fault, fault_in}
use Rattle.bench.proofs.Rests.{every_true, rests_zero, all_later_sooner}
use Rattle.bench.proofs.Ticks.{chosen_due, served_idle, served_chosen, passed_is, told_from}
use Rattle.bench.proofs.state.Bench.pass.Goals as goal

pub invariant_of-self : goal.invariant_of-self
invariant_of-self g c =
    let b = c.args.self.now in
    record {
      time = omega (arith, c.requires);
      calls = omega (arith, b.calls);
      failed = b.failed;
      safe = b.safe;
      heads = b.heads;
      lent = b.lent;
      resting = every_true (rests 0) rests_zero b.lanes;
      unheld = all_later_sooner b.now (b.now + 1) b.lapse b.lanes b.leases (omega arith) b.unheld;
      sooner = omega arith;
      alive = b.alive;
    }

pub serve-requires : goal.serve-requires
serve-requires g c =
    let b = c.args.self.now in
    let d = chosen_due b.now b.lanes c.in-Some.request c.in-Some.ensures in
    (omega (arith, d.0), d.1, c.requires)

pub returns-in-None : goal.returns-in-None
returns-in-None g c =
    let w = world g.D.Disk.meaning c.args.pool.now c.args.self.now in
    let s = served_idle w no_fault c.in-None.ensures in
    record { answer = s.1; bench = c.settle.ensures c.args.pool.now ∙ (passed_is w _ refl ∙ s.0); origin = tt }
