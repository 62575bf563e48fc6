use Rattle.std.proofs.Common.{◌+◌, ◌-◌, ◌*◌, refl, arith, rules}
use Rattle.refusal.proofs.Numbers.{refusal_above}
use Rattle.history.specs.Bench.{buffer_of}
use Rattle.bench.proofs.Ticks.{buffer_small, live_small, never_others, read_granted, read_refused}
use Rattle.bench.proofs.ticking.attempt.Goals as goal

pub slice_bounds-read-end : goal.slice_bounds-read-end
slice_bounds-read-end g c = let p = buffer_small c.args.lane.now c.args.lane.now.next c.requires.0 in search rules

pub returns-in-Ok : goal.returns-in-Ok
returns-in-Ok g c =
    let l = c.args.lane.now in
    let p = buffer_small l l.next c.requires.0 in
    let x = 64 * buffer_of l l.next in
    record { outcome = read_granted (g.D.Disk.meaning c.args.disk.now) l c.args.head c.args.pool.now (omega arith) (x + 64 - x) c.read.new.memory (g.D.Disk.meaning c.read.new.self) c.step.new.lane (omega arith) c.step.ensures c.in-Ok.ensures.outcome; origin = tt }

pub returns-in-Faulted : goal.returns-in-Faulted
returns-in-Faulted g c =
    let l = c.args.lane.now in
    let p = buffer_small l l.next c.requires.0 in
    let x = 64 * buffer_of l l.next in
    record { outcome = read_refused _ l c.args.head c.args.pool.now (omega arith) (x + 64 - x) c.in-Faulted.fault _ _ _ _ (omega arith) c.step-in-Err.ensures (refusal_above c.in-Err.refusal) c.in-Err.ensures.outcome; origin = (refl, rw c.in-Faulted.is at c.in-Err.ensures.origin) }
