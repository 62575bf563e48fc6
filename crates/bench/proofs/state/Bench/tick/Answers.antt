use Rattle.std.proofs.Common.{ℕ, ◌+◌, List, length, sym, refl, ap, ◌∙◌, add-one, arith}
use Rattle.history.specs.Bench.{World}
use Rattle.history.specs.Calls.{Answer, all_aged, tick}
use Rattle.bench.specs.Model.{world}
use Rattle.bench.specs.Ticks.{no_fault, fault_in}
use Rattle.bench.proofs.Rests.{all_later_sooner, quiet_choice, quiet_lanes, ends_none}
use Rattle.bench.proofs.Ticks.{tick_wrong, tick_last, tick_served, served_idle, passed_is, ends_told}
use Rattle.bench.proofs.state.Bench.tick.Goals as goal

pub returns-in_default : goal.returns-in_default
returns-in_default g c =
    let e = sym (tick_wrong (world g.D.Disk.meaning c.args.pool.now c.args.self.now) no_fault c.in_default.ensures.cases) in
    record { answer = ap (λ (x : World × Answer). x.1) e; bench = ap (λ (x : World × Answer). x.0) e; ended = tt; origin = tt }

pub returns-then-self-eq1000000 : goal.returns-then-self-eq1000000
returns-then-self-eq1000000 g c =
    let k = c.in-Some.ensures.cases in
    let w = λ (pool : List ℕ). world g.D.Disk.meaning pool c.args.self.now in
    let e = sym (tick_last (w c.args.pool.now) no_fault k.long c.if-self-eq1000000.true) in
    record { answer = ap (λ (x : World × Answer). x.1) e; bench = ap w k.same ∙ ap (λ (x : World × Answer). x.0) e; ended = tt; origin = tt }

pub invariant_of-self : goal.invariant_of-self
invariant_of-self g c =
    let b = c.args.self.now in
    record {
      time = omega (arith, b.time);
      calls = omega (arith, b.calls);
      failed = b.failed;
      safe = b.safe;
      heads = b.heads;
      lent = b.lent;
      resting = b.resting;
      unheld = all_later_sooner b.now (b.now + 1) b.lapse b.lanes b.leases (omega arith) b.unheld;
      sooner = b.sooner;
      alive = b.alive;
    }

pub returns-then-self : goal.returns-then-self
returns-then-self g c =
    let b = c.args.self.now in
    let k = c.in-Some.ensures.cases in
    let w = world g.D.Disk.meaning c.in-Some.pool.now b in
    let asked = λ (pool : List ℕ). tick (world g.D.Disk.meaning pool b) no_fault in
    let idle = quiet_choice b.now b.quiet b.lapse b.lanes b.leases (omega arith) b.sooner b.resting b.unheld in
    let same = quiet_lanes b.now b.quiet b.lapse b.lanes b.leases (omega arith) b.sooner b.resting b.unheld in
    let e = sym (tick_served w no_fault (ap length k.same ∙ k.long) (omega arith)) ∙ ap asked k.same in
    let s = served_idle w no_fault (sym idle) in
    record {
      answer = s.1 ∙ ap (λ (x : World × Answer). x.1) e;
      bench = passed_is w b.lanes (sym (ap (λ t. all_aged t b.leases b.lanes) (add-one b.now) ∙ same)) ∙ (s.0 ∙ ap (λ (x : World × Answer). x.0) e);
      ended = ends_none b.lanes b.lanes refl;
      origin = tt;
    }

pub returns : goal.returns
returns g c =
    let k = c.in-Some.ensures.cases in
    let asked = λ (pool : List ℕ). tick (world g.D.Disk.meaning pool c.args.self.now) (fault_in c.pass-did.result) in
    let e = sym (tick_served (world g.D.Disk.meaning c.in-Some.pool.now c.args.self.now) (fault_in c.pass-did.result) (ap length k.same ∙ k.long) (omega arith)) ∙ ap asked k.same in
    record {
      answer = c.pass-did.ensures.answer ∙ ap (λ (x : World × Answer). x.1) e;
      bench = c.pass-did.ensures.bench ∙ ap (λ (x : World × Answer). x.0) e;
      ended = ends_told c.args.self.now.lanes c.pass-did.new.self.lanes _ c.ended_since-ended.result (omega arith) c.live_heads-was.ensures c.ended_since-ended.ensures;
      origin = c.pass-did.ensures.origin;
    }
