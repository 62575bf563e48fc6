use Rattle.std.proofs.Common.{ℕ, arith, ap}
use Rattle.loglines.proofs.Memory.{wrote_then, wrote_same}
use Rattle.loglines.proofs.Numbers.{length_u32}
use Rattle.loglines.specs.Text.{opening}
use Rattle.loglines.proofs.Text.opening.Goals as goal

pub number-requires : goal.number-requires
number-requires c = let s = length_u32 c.from.result (omega arith) in omega arith

pub pair-requires : goal.pair-requires
pair-requires c = let s = length_u32 c.from.result (omega arith) in omega arith

pub returns-clause-wrote : goal.returns-clause-wrote
returns-clause-wrote c =
    let s = length_u32 c.from.result (omega arith) in
    wrote_same (ap (λ (n : ℕ). opening n c.args.letter) c.from.ensures) (wrote_then (omega arith) c.number.ensures.wrote c.pair.ensures.wrote)

pub returns-clause-short : goal.returns-clause-short
returns-clause-short c = let s = length_u32 c.from.result (omega arith) in omega arith
