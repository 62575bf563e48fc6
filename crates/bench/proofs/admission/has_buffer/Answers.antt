use Rattle.std.proofs.Common.{eqb, take, ap, ◌∙◌, rules, tests, arith}
use Rattle.std.proofs.lemmas.List.{take_min}
use Rattle.std.proofs.lemmas.Iterator.{YieldsList-from_slice}
use Rattle.std.proofs.lemmas.Iterator.Search.{any_from_yields_List}
use Rattle.history.specs.Bench.{has}
use Rattle.bench.proofs.Admits.{has_is}
use Rattle.bench.proofs.admission.has_buffer.Goals as goal

pub returns : goal.returns
returns c =
    let x = c.args.buffer in
    let bs = c.args.buffers.now in
    let m = c.min.result in
    any_from_yields_List (eqb x) _ _ _ c.any.ensures.ran (YieldsList-from_slice (take m bs) cc) (λ y b q k. search (rules, tests))
    ∙ has_is x (take m bs)
    ∙ ap (λ k. has x (take k bs)) (omega (arith, c.min.ensures))
    ∙ ap (has x) (take_min c.args.depth bs)
