use Rattle.std.proofs.Common.{rules}
use Rattle.std.proofs.lemmas.Result.{err_from_is_err_and}
use Rattle.cues.specs.Reading.{words_from}
use Rattle.cues.proofs.Cuts.{next_ok, next_err, some_from_ok, given_if}
use Rattle.cues.proofs.reading.Words.next.Goals as goal

pub returns-in_err-token-clause-next : goal.returns-in_err-token-clause-next
returns-in_err-token-clause-next c =
    let self = c.args.self.now in
    let line = self.line.now in
    let from = some_from_ok self.at _ c.in_ok-from.from c.in_ok-from.ensures.value in
    let p = err_from_is_err_and c.from_residual-in_err-token.result c.from_residual-in_err-token.ensures.1 in
    rw (p.1, p.2) (next_err line c.in_ok-from.from self.at c.in_err-token.field-0.0 (words_from line self.at) from c.in_err-token.ensures)

pub returns-clause-next : goal.returns-clause-next
returns-clause-next c =
    let self = c.args.self.now in
    let from = some_from_ok self.at _ c.in_ok-from.from c.in_ok-from.ensures.value in
    let after = given_if c.then-self.result _ _ c.then-self.ensures.variant (search rules) in
    next_ok self.line.now c.in_ok-from.from self.at c.then-self.result c.in_ok-token.token c.width.result from after c.in_ok-token.ensures c.width.ensures
