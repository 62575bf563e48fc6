use Rattle.std.proofs.Common.{◌≡◌, ◌+◌, ◌*◌, ◌/◌, [], length, drop, ap, sym, ◌∙◌, arith, rules, append-nil, length-append, length-drop}
use Rattle.std.specs.Slice.Iter.{chunks_exact_rest}
use Rattle.std.proofs.lemmas.List.{length_push}
use Rattle.std.proofs.lemmas.Bool.Decides.{nat_tests}
use Rattle.image.specs.Sums.{sum_of}
use Rattle.image.proofs.Sums.{sum_none, sum_more, sum_is, sum_ends, next_word}
use Rattle.image.proofs.sum.sum.Goals as goal

pub loop-pair-init : goal.loop-pair-init
loop-pair-init c = (sym (sum_none c.args.bytes.now), search rules, search rules, search rules, omega arith)

pub loop-pair-preserved : goal.loop-pair-preserved
loop-pair-preserved c =
    let xs = c.args.bytes.now in
    let i = c.loop-pair.invariant in
    let k = length c.loop-pair.yielded in
    let came = c.in-Some.ensures.steps in
    let one = length_push c.loop-pair.yielded c.in-Some.pair in
    let long = ap length i.2 ∙ length-drop (2 * k) xs in
    let parts = ap length came.1.0 ∙ length-append c.in-Some.pair.now (chunks_exact_rest c.next.new.self) in
    let two : length c.in-Some.pair.now ≡ 2 = came.1.1 ∙ i.3 in
    let next = next_word xs (chunks_exact_rest c.loop-pair.pair-iterator) c.in-Some.pair.now (chunks_exact_rest c.next.new.self) k i.2 came.1.0 (omega (arith, two, parts)) in
    let more = sum_more xs k in
    let word = c.pair_word.ensures ∙ next.0 in
    let small = c.pair_word.type_inv in
    rw one (grind (arith, nat_tests), grind (arith, nat_tests), next.1, came.0 ∙ i.3, omega (arith, two, parts, long))

pub returns : goal.returns
returns c =
    let xs = c.args.bytes.now in
    let i = c.loop-pair.invariant in
    let k = length c.loop-pair.yielded in
    let none = c.in-None.ensures.steps.1.0 in
    let long = ap length i.2 ∙ length-drop (2 * k) xs in
    let half : k ≡ length xs / 2 = omega (arith, none, i, long) in
    let last = c.remainder-last.result.now in
    let at : last ≡ drop (2 * k) xs = c.remainder-last.ensures ∙ c.chunks_exact-pairs.ensures.remainder ∙ ap (λ n. drop n xs) (omega arith) in
    let few = ap length at ∙ length-drop (2 * k) xs in
    let next = next_word xs last last [] k at (sym (append-nil last)) (omega (arith, few)) in
    let word = c.pair_word-2.ensures ∙ next.0 in
    let small = c.pair_word-2.type_inv in
    let value : c.carry.result ≡ sum_of xs = c.carry.ensures ∙ grind (arith, sum_more xs k) ∙ sum_ends xs k half (omega arith) in
    record { value = value; bound = grind (arith, nat_tests); law = value ∙ sum_is xs (λ j. omega (arith, c.type_inv.bytes (2 * j), c.type_inv.bytes (2 * j + 1))) _ }
