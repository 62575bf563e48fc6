use Rattle.std.proofs.Common.{ℕ, not, List, sym, ap, ◌∙◌, arith}
use Rattle.refusal.specs.declared.Refusal.TheVariants.{NotHeld}
use Rattle.history.specs.Calls.{answered, done}
use Rattle.std.proofs.lemmas.Bool.Decides.{nat_tests}
use Rattle.bench.specs.Model.{world}
use Rattle.bench.specs.Sound.{lease_ok}
use Rattle.bench.proofs.Gives.{passed_on, give_off_limits, give_not_held, give_taken}
use Rattle.bench.proofs.Rests.{all_later_give}
use Rattle.bench.proofs.Sound.{every_set_none}
use Rattle.bench.proofs.state.Bench.give.Goals as goal

pub returns-then-party-gt3 : goal.returns-then-party-gt3
returns-then-party-gt3 g c =
    let e = c.then-party-gt3.either in
    record { answer = λ pool. sym (ap (λ r. r.1) (give_off_limits (world g.D.Disk.meaning pool c.args.self.now) c.args.party c.args.lease (grind (arith, nat_tests)))); bench = λ pool. sym (ap (λ r. r.0) (give_off_limits (world g.D.Disk.meaning pool c.args.self.now) c.args.party c.args.lease (grind (arith, nat_tests)))) }

pub returns-in_err-out : goal.returns-in_err-out
returns-in_err-out g c =
    let k = c.in_err-out.ensures in
    let same = passed_on c.from_residual.result _ NotHeld c.from_residual.ensures.1 k.1 in
    let e = λ (pool : List ℕ). give_not_held (world g.D.Disk.meaning pool c.args.self.now) c.args.party c.args.lease (grind (arith, nat_tests)) (ap not k.0) in
    record { answer = λ pool. ap (answered (λ _. done)) same ∙ sym (ap (λ r. r.1) (e pool)); bench = λ pool. sym (ap (λ r. r.0) (e pool)) }

pub invariant_of-self : goal.invariant_of-self
invariant_of-self g c =
    let b = c.args.self.now in
    record {
      time = b.time;
      calls = b.calls;
      failed = b.failed;
      safe = b.safe;
      heads = b.heads;
      lent = every_set_none lease_ok b.leases c.args.lease b.lent;
      resting = b.resting;
      unheld = all_later_give b.now b.lapse b.lanes b.leases c.args.lease b.unheld;
      sooner = b.sooner;
      alive = b.alive;
    }

pub returns : goal.returns
returns g c =
    let e = λ (pool : List ℕ). give_taken (world g.D.Disk.meaning pool c.args.self.now) c.args.party c.args.lease (grind (arith, nat_tests)) (ap not c.in_ok-out.ensures.0) in
    record { answer = λ pool. sym (ap (λ r. r.1) (e pool)); bench = λ pool. sym (ap (λ r. r.0) (e pool)) }
