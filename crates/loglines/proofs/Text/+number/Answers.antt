use Rattle.std.proofs.Common.{sym, arith}
use Rattle.std.proofs.lemmas.Fmt.{decimal_digit, decimal_step}
use Rattle.loglines.proofs.Memory.{wrote_then, wrote_same}
use Rattle.loglines.proofs.Numbers.{length_digit, length_step}
use Rattle.loglines.proofs.Text.+number.Goals as goal

pub byte-requires : goal.byte-requires
byte-requires t c = omega (arith, length_digit c.args.number c.if-number-lt10.true)

pub returns-then-number-lt10-clause-wrote : goal.returns-then-number-lt10-clause-wrote
returns-then-number-lt10-clause-wrote t c = wrote_same (sym (decimal_digit c.args.number c.if-number-lt10.true)) c.byte.ensures.wrote

pub number-requires : goal.number-requires
number-requires t c = let s = length_step c.args.number c.if-number-lt10.false (omega arith) in (omega arith, omega arith)

pub byte-requires-2 : goal.byte-requires-2
byte-requires-2 t c = let s = length_step c.args.number c.if-number-lt10.false (omega arith) in omega arith

pub returns-clause-wrote : goal.returns-clause-wrote
returns-clause-wrote t c =
    let s = length_step c.args.number c.if-number-lt10.false (omega arith) in
    wrote_same (sym (decimal_step c.args.number c.if-number-lt10.false (omega arith))) (wrote_then (omega arith) c.number.ensures.wrote c.byte-2.ensures.wrote)
