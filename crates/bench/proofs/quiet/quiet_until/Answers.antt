use Rattle.std.proofs.Common.{◌≡◌, rules, arith}
use Rattle.bench.specs.Quiet.{rests, quiet_of}
use Rattle.bench.proofs.Rests.{quiet_rests}
use Rattle.bench.proofs.Sound.{every_from}
use Rattle.bench.proofs.quiet.quiet_until.Goals as goal

pub returns : goal.returns
returns c = record {
  most = omega (arith, c.min.ensures);
  rests = every_from (rests c.min.result) c.args.lanes.now (λ k l e.
      let o = c.least.ensures k l e in
      let is : o.0 ≡ quiet_of 18446744073709551615 l = search rules in
      quiet_rests 18446744073709551615 c.min.result o.0 l is (omega (arith, c.min.ensures, o.2)));
}
