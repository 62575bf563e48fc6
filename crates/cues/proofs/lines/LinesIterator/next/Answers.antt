use Rattle.std.proofs.Common.{◌<◌, ap, length, arith}
use Rattle.std.proofs.lemmas.Bool.Decides.{nat_tests}
use Rattle.cues.proofs.Cuts.{lines_none, lines_step}
use Rattle.cues.proofs.lines.LinesIterator.next.Goals as goal

pub returns-then-is_empty-clause-steps : goal.returns-then-is_empty-clause-steps
returns-then-is_empty-clause-steps c =
    let none = lines_none c.args.self.now.rest.now (grind (arith, nat_tests)) in
    (none, none)

pub returns-clause-steps : goal.returns-clause-steps
returns-clause-steps c =
    let some : 0 < length c.args.self.now.rest.now = grind (arith, nat_tests) in
    lines_step c.args.self.now.rest.now c.front-line.result.now c.min-end.result some c.front-line.ensures c.min-end.ensures

pub returns-clause-goes : goal.returns-clause-goes
returns-clause-goes c =
    let some : 0 < length c.args.self.now.rest.now = grind (arith, nat_tests) in
    let fewer = ap length (lines_step c.args.self.now.rest.now c.front-line.result.now c.min-end.result some c.front-line.ensures c.min-end.ensures) in
    omega arith
