use Rattle.std.proofs.Common.{◌≡◌, length, take}
use Rattle.std.specs.List.{AllByRecursion}
use Rattle.schedule.specs.Orders.{Proper}
use Rattle.schedule.specs.Rests.{LeftOf}
use Rattle.schedule.proofs.rests.Given as goal

abbrev pub invariant-loop-k : goal.invariant-loop-k
invariant-loop-k l = AllByRecursion Proper (take l.k l.work) × (length l.out ≡ 8) × LeftOf (take l.k l.work) l.out
