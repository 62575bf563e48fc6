use Rattle.std.proofs.Common.{set, None, sym, ap, ◌∙◌, arith}
use Rattle.history.specs.Calls.{changed, aged}
use Rattle.bench.proofs.Ticks.{ok_at, changed_here, changed_more, changed_all}
use Rattle.bench.proofs.ticking.age_all.Goals as goal

pub age-requires : goal.age-requires
age-requires c = ok_at c.args.lanes.now c.loop-lane.lane-index _ c.requires (sym (changed_here (changed (aged c.args.slot c.args.leases.now)) None c.args.lanes.now c.loop-lane.lanes c.loop-lane.lane-index (omega arith) c.loop-lane.invariant))

pub loop-lane-preserved : goal.loop-lane-preserved
loop-lane-preserved c = ap (λ o. set c.loop-lane.lanes c.loop-lane.lane-index o) c.age.ensures ∙ changed_more (changed (aged c.args.slot c.args.leases.now)) None c.args.lanes.now c.loop-lane.lanes c.loop-lane.lane-index (omega arith) c.loop-lane.invariant
