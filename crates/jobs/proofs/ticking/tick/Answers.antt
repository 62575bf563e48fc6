use Rattle.std.proofs.Common.{vec_items}
use Rattle.history.specs.Bench.{World}
use Rattle.bench.specs.Model.{world}
use Rattle.bench.specs.Ticks.{no_fault, fault_in}
use Rattle.jobs.proofs.Ticks.{tick_not_refused, slot_passed}
use Rattle.jobs.proofs.ticking.tick.Goals as goal

pub unreachable-requires : goal.unreachable-requires
unreachable-requires g c =
    let w : World = world g.D.Disk.meaning c.args.pool.now c.args.bench.now in
    tick_not_refused w no_fault c.requires.0 c.requires.1 _ c.in_default.ensures.answer

pub returns : goal.returns
returns g c =
    let w : World = world g.D.Disk.meaning c.args.pool.now c.args.bench.now in
    let w' : World = world g.D.Disk.meaning c.tick.new.pool c.tick.new.self in
    let told = c.in-Ok.ensures in
    slot_passed c.add_ended.result w w' (fault_in c.in-Ok.tick.did) c.in-Ok.tick.did c.in-Ok.tick.ended c.slot-slot.result c.slot.result (vec_items c.args.log.now) _ _
    told.answer told.bench told.ended (c.slot-slot.ensures c.args.pool.now) (c.slot.ensures c.tick.new.pool) c.in_ok-add_did.ensures c.add_ended.ensures
