use Rattle.cues.specs.declared.Call.TheVariants.{Order, Take, Give, Close}
use Rattle.history.specs.Bench.{World}
use Rattle.std.proofs.Common.{ℕ, List}
use Rattle.bench.specs.Model.{world}
use Rattle.jobs.proofs.Lines.{order_logged, take_logged, give_logged, close_logged, called_left}
use Rattle.jobs.proofs.calling.call.Goals as goal

pub returns-in-Order : goal.returns-in-Order
returns-in-Order g c =
    let o = c.in-Order in
    let w : List ℕ → World = λ pool. world g.D.Disk.meaning pool c.args.bench.now in
    record {
      line = λ pool. order_logged (w pool) c.args.asked.now c.slot-slot.result (c.slot-slot.ensures pool) o.head o.first o.count o.start o.period o.depth o.spare c.order-answer.result o.is (c.order-answer.ensures.answer pool);
      bench = λ pool. called_left (w pool) c.args.asked.now c.slot-slot.result (c.slot-slot.ensures pool) (Order o.head o.first o.count o.start o.period o.depth o.spare) _ o.is (c.order-answer.ensures.bench pool);
    }

pub returns-in-Take : goal.returns-in-Take
returns-in-Take g c =
    let o = c.in-Take in
    let w : List ℕ → World = λ pool. world g.D.Disk.meaning pool c.args.bench.now in
    record {
      line = λ pool. take_logged (w pool) c.args.asked.now c.slot-slot.result (c.slot-slot.ensures pool) o.head o.block o.party c.take-answer.result o.is (c.take-answer.ensures.answer pool);
      bench = λ pool. called_left (w pool) c.args.asked.now c.slot-slot.result (c.slot-slot.ensures pool) (Take o.head o.block o.party) _ o.is (c.take-answer.ensures.bench pool);
    }

pub returns-in-Give : goal.returns-in-Give
returns-in-Give g c =
    let o = c.in-Give in
    let w : List ℕ → World = λ pool. world g.D.Disk.meaning pool c.args.bench.now in
    record {
      line = λ pool. give_logged (w pool) c.args.asked.now c.slot-slot.result (c.slot-slot.ensures pool) o.party o.lease c.give-answer.result o.is (c.give-answer.ensures.answer pool);
      bench = λ pool. called_left (w pool) c.args.asked.now c.slot-slot.result (c.slot-slot.ensures pool) (Give o.party o.lease) _ o.is (c.give-answer.ensures.bench pool);
    }

pub returns-in-Close : goal.returns-in-Close
returns-in-Close g c =
    let o = c.in-Close in
    let w : List ℕ → World = λ pool. world g.D.Disk.meaning pool c.args.bench.now in
    record {
      line = λ pool. close_logged (w pool) c.args.asked.now c.slot-slot.result (c.slot-slot.ensures pool) o.head c.close-answer.result o.is (c.close-answer.ensures.answer pool);
      bench = λ pool. called_left (w pool) c.args.asked.now c.slot-slot.result (c.slot-slot.ensures pool) (Close o.head) _ o.is (c.close-answer.ensures.bench pool);
    }
