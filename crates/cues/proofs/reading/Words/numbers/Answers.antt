use Rattle.std.proofs.Common.{ℕ, length, sym, ap, ◌∙◌, arith, length-set}
use Rattle.std.proofs.lemmas.Result.{err_from_is_err_and}
use Rattle.cues.specs.Forms.{numbers}
use Rattle.cues.specs.Reading.{left, end}
use Rattle.cues.proofs.Forms.{turn_number, turn_err, end_none, end_some}
use Rattle.cues.proofs.reading.Words.numbers.Goals as goal

pub loop-number-preserved : goal.loop-number-preserved
loop-number-preserved g c =
    let l = c.loop-number in
    let told = c.in_ok-number.ensures in
    let n = c.in_ok-number.field-0 in
    let size = length-set l.number-items l.number-index n in
    let turn = turn_number _ l.number-items l.number-index _ _ _ _ (sym (ap (λ r. length r.now) l.invariant.0)) (omega arith) l.invariant.2 n told.number in
    (told.line ∙ l.invariant.0, size ∙ l.invariant.1, ap (λ (k : ℕ). numbers k (end c.args.self.now) (left c.args.self.now)) size ∙ turn)

pub returns-in_err-number : goal.returns-in_err-number
returns-in_err-number g c =
    let l = c.loop-number in
    let p = err_from_is_err_and c.from_residual.result c.from_residual.ensures.1 in
    let turn = turn_err _ l.number-items l.number-index _ _ _ _ (sym (ap (λ r. length r.now) l.invariant.0)) (omega arith) l.invariant.2 c.in_err-number.field-0.0 c.in_err-number.ensures.number in
    rw (p.1, p.2) (sym (ap (λ (k : ℕ). numbers k (end c.args.self.now) (left c.args.self.now)) (sym l.invariant.1) ∙ turn))

pub returns-in-None : goal.returns-in-None
returns-in-None g c =
    let l = c.loop-number in
    let read = end_none _ l.number-items l.self.line.now l.number-index _ l.self.at (omega arith) l.invariant.2 c.in-None.is in
    sym (ap (λ (k : ℕ). numbers k (end c.args.self.now) (left c.args.self.now)) (sym l.invariant.1) ∙ read)

pub returns-in-Some : goal.returns-in-Some
returns-in-Some g c =
    let l = c.loop-number in
    let read = end_some _ l.number-items l.self.line.now l.number-index _ l.self.at (omega arith) l.invariant.2 c.in-Some.place c.in-Some.is in
    sym (ap (λ (k : ℕ). numbers k (end c.args.self.now) (left c.args.self.now)) (sym l.invariant.1) ∙ read)
