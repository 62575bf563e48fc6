use Rattle.std.proofs.Common.{◌≡◌, true, rules}
use Rattle.bench.specs.Quiet.{later}
use Rattle.bench.specs.Sound.{every}
use Rattle.bench.proofs.Rests.{every_weaker, later_lower}
use Rattle.bench.proofs.Sound.{every_from}
use Rattle.bench.proofs.quiet.next_lapse.Goals as goal

pub returns : goal.returns
returns c =
    let slot = c.args.slot in
    let t = c.least.result in
    every_from (λ l. every (later slot t l) c.args.leases.now) c.args.lanes.now (λ k l is.
    let o = c.least.ensures k l is in
    let own : every (later slot o.0 l) c.args.leases.now ≡ true = search rules in
    every_weaker (later slot o.0 l) (later slot t l) (λ e. later_lower slot o.0 t l e o.2) c.args.leases.now own)
