use Rattle.std.proofs.Common.{Some, sym, ap, ◌∙◌}
use Rattle.history.specs.Calls.{changed, aged}
use Rattle.bench.proofs.Ticks.{live_from_ok, not_aged, period_some}
use Rattle.bench.proofs.ticking.age.Goals as goal

pub returns-then-not-may_end : goal.returns-then-not-may_end
returns-then-not-may_end c =
    let t = c.args.slot in
    let es = c.args.leases.now in
    sym (ap (λ o. changed (aged t es) o) c.in-Some.is ∙ ap (λ l. Some l) (not_aged t es c.in-Some.lane (sym c.if-not-may_end.ensures)))
