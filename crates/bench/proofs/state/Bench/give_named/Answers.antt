use Rattle.std.proofs.Common.{ℕ, not, List, sym, ap, ◌∙◌}
use Rattle.refusal.specs.declared.Refusal.TheVariants.{NotHeld}
use Rattle.history.specs.Calls.{answered, done}
use Rattle.bench.specs.Model.{world, of_numbers}
use Rattle.bench.specs.Sound.{lease_ok}
use Rattle.bench.proofs.Gives.{passed_on, give_slip_not_held, give_slip_taken}
use Rattle.bench.proofs.Rests.{all_later_give}
use Rattle.bench.proofs.Sound.{every_set_none}
use Rattle.bench.proofs.state.Bench.give_named.Goals as goal

pub returns-in_err-honoured : goal.returns-in_err-honoured
returns-in_err-honoured g c =
    let k = c.in_err-honoured.ensures in
    let same = passed_on c.from_residual.result _ NotHeld c.from_residual.ensures.1 k.1 in
    let e = λ (pool : List ℕ). give_slip_not_held (world g.D.Disk.meaning pool c.args.self.now) (of_numbers c.args.numbers.now) (ap not k.0) in
    record { answer = λ pool. ap (answered (λ _. done)) same ∙ sym (ap (λ r. r.1) (e pool)); bench = λ pool. sym (ap (λ r. r.0) (e pool)) }

pub invariant_of-self : goal.invariant_of-self
invariant_of-self g c =
    let b = c.args.self.now in
    record {
      time = b.time;
      calls = b.calls;
      failed = b.failed;
      safe = b.safe;
      heads = b.heads;
      lent = every_set_none lease_ok b.leases c.args.numbers.now.lease b.lent;
      resting = b.resting;
      unheld = all_later_give b.now b.lapse b.lanes b.leases c.args.numbers.now.lease b.unheld;
      sooner = b.sooner;
      alive = b.alive;
    }

pub returns : goal.returns
returns g c =
    let e = λ (pool : List ℕ). give_slip_taken (world g.D.Disk.meaning pool c.args.self.now) (of_numbers c.args.numbers.now) (ap not c.in_ok-honoured.ensures.0) in
    record { answer = λ pool. sym (ap (λ r. r.1) (e pool)); bench = λ pool. sym (ap (λ r. r.0) (e pool)) }
