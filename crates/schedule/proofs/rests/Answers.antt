use Rattle.std.proofs.Common.{arith}
use Rattle.std.proofs.ByRecursion.{All-more}
use Rattle.std.proofs.lemmas.List.{length-set}
use Rattle.schedule.specs.Orders.{Proper}
use Rattle.schedule.proofs.Padding.{left_more}
use Rattle.schedule.proofs.rests.Goals as goal

pub loop-k-preserved : goal.loop-k-preserved
loop-k-preserved c =
    let i = c.loop-k.invariant in
    (All-more Proper c.args.work.now c.loop-k.k _ (omega arith) i.0 c.in_ok-out.ensures.0, simp length-set i.1, left_more c.args.work.now _ _ _ _ (omega arith) (omega (arith, i.1)) c.in_ok-out.ensures.1 i.2)
