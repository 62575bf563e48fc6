use Rattle.std.proofs.Common.{◌≡◌, ap, arith}
use Rattle.std.proofs.lemmas.Bool.Decides.{nat_tests}
use Rattle.refusal.specs.declared.Refusal.TheVariants.{HeadEmpty}
use Rattle.history.specs.Calls.{answered, reported, refuse, close}
use Rattle.bench.specs.Quiet.{rests}
use Rattle.bench.specs.Sound.{lane_ok}
use Rattle.bench.proofs.Gives.{passed_on}
use Rattle.bench.proofs.Rests.{all_later_close, placed_set_none}
use Rattle.bench.proofs.Sound.{every_at, every_set_none}
use Rattle.bench.proofs.state.Bench.close.Goals as goal

pub returns-then-head-gt7 : goal.returns-then-head-gt7
unfolding close
returns-then-head-gt7 g c = record { answer = λ pool. grind (arith, nat_tests); bench = λ pool. grind (arith, nat_tests) }

pub returns-in_err-lane : goal.returns-in_err-lane
unfolding close
returns-in_err-lane g c =
    let k = c.in_err-lane.ensures in
    let a : answered reported c.from_residual.result ≡ refuse HeadEmpty = ap (answered reported) (passed_on c.from_residual.result _ HeadEmpty c.from_residual.ensures.1 k.1) in
    record { answer = λ pool. grind (arith, nat_tests); bench = λ pool. grind (arith, nat_tests) }

pub step-requires : goal.step-requires
step-requires g c = let k = every_at lane_ok c.args.self.now.lanes c.args.head c.in_ok-lane.lane c.args.self.now.safe c.in_ok-lane.ensures in (grind (arith, nat_tests), grind (arith, nat_tests))

pub invariant_of-self : goal.invariant_of-self
invariant_of-self g c =
    let b = c.args.self.now in
    record {
      time = b.time;
      calls = b.calls;
      failed = b.failed;
      safe = every_set_none lane_ok b.lanes c.args.head b.safe;
      lent = b.lent;
      heads = placed_set_none 0 b.lanes c.args.head b.heads;
      resting = every_set_none (rests b.quiet) b.lanes c.args.head b.resting;
      unheld = all_later_close b.now b.lapse b.lanes b.leases c.args.head b.unheld;
      sooner = b.sooner;
      alive = c.any_live-self.ensures;
    }

pub returns : goal.returns
unfolding close
returns g c = let k = c.in_ok-lane.ensures in record { answer = λ pool. grind (arith, nat_tests); bench = λ pool. grind (arith, nat_tests) }
