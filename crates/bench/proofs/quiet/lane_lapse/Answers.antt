use Rattle.std.proofs.Common.{◌≡◌, rules}
use Rattle.bench.specs.Quiet.{later, lapse_of}
use Rattle.bench.proofs.Rests.{lapse_later}
use Rattle.bench.proofs.Sound.{every_from}
use Rattle.bench.proofs.quiet.lane_lapse.Goals as goal

pub returns : goal.returns
returns c = every_from (later c.args.slot c.least.result c.args.lane.now) c.args.leases.now (λ k e is.
    let o = c.least.ensures k e is in
    let own : o.0 ≡ lapse_of 18446744073709551615 c.args.slot c.args.lane.now e = search rules in
    lapse_later 18446744073709551615 c.args.slot c.least.result o.0 c.args.lane.now e own o.2)
