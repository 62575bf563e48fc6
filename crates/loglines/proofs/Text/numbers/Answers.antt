use Rattle.std.proofs.Common.{ℕ, ◌∷◌, decimal, sym, refl, ap, ◌∙◌, arith, take_all, take, append_assoc, [], ◌++◌}
use Rattle.loglines.specs.Text.{spaced}
use Rattle.loglines.proofs.Memory.{wrote_none, wrote_then, wrote_same}
use Rattle.loglines.proofs.Numbers.{length_u32, spaced_more}
use Rattle.loglines.proofs.Text.numbers.Goals as goal

pub loop-number-init : goal.loop-number-init
loop-number-init c = (refl, wrote_none c.args.self.now.out.now c.args.self.now.len, omega arith)

pub spaced-requires : goal.spaced-requires
spaced-requires c =
    let s = length_u32 c.from.result (omega (arith, (c.type_inv.numbers c.loop-number.number-index).fits)) in
    omega (arith, c.loop-number.invariant.1.room)

pub loop-number-preserved : goal.loop-number-preserved
loop-number-preserved c =
    let l = c.loop-number in
    let ns = c.args.numbers.now in
    let i = l.number-index in
    let s = length_u32 c.from.result (omega (arith, (c.type_inv.numbers i).fits)) in
    let told = append_assoc (spaced (take i ns)) (32 ∷ []) (decimal c.from.result) in
    let more = ap (λ (n : ℕ). (spaced (take i ns) ++ 32 ∷ []) ++ decimal n) c.from.ensures ∙ sym (spaced_more ns i c.loop-number-test.true) in
    (c.spaced.ensures.same_memory ∙ l.invariant.0, wrote_same (sym told ∙ more) (wrote_then (omega arith) l.invariant.1 c.spaced.ensures.wrote), omega (arith, c.spaced.ensures.wrote.ends))

pub returns : goal.returns
returns c =
    let l = c.loop-number in
    let all = take_all l.number-index c.args.numbers.now c.loop-number-test.false in
    record { same_memory = l.invariant.0; wrote = wrote_same (ap spaced all) l.invariant.1; short = omega arith }
