use Rattle.std.proofs.Common.{◌≡◌, ap, arith}
use Rattle.std.proofs.lemmas.Bool.Decides.{nat_tests}
use Rattle.refusal.specs.declared.Refusal.TheVariants.{HeadEmpty}
use Rattle.history.specs.Calls.{answered, reported, refuse, report}
use Rattle.bench.proofs.Gives.{passed_on}
use Rattle.bench.proofs.state.Bench.report.Goals as goal

pub returns-then-head-gt7 : goal.returns-then-head-gt7
unfolding report
returns-then-head-gt7 g c = λ pool. grind (arith, nat_tests)

pub returns-in_err-lane : goal.returns-in_err-lane
unfolding report
returns-in_err-lane g c = λ pool.
    let k = c.in_err-lane.ensures in
    let a : answered reported c.from_residual.result ≡ refuse HeadEmpty = ap (answered reported) (passed_on c.from_residual.result _ HeadEmpty c.from_residual.ensures.1 k.1) in
    grind (arith, nat_tests)

pub returns : goal.returns
unfolding report
returns g c = λ pool. let k = c.in_ok-lane.ensures in grind (arith, nat_tests)
