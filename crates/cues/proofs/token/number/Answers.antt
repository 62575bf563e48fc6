use Rattle.std.proofs.Common.{◌≡◌, ◌+◌, ◌-◌, ◌*◌, ◌^◌, ◌≤◌, get_or, sym, ap, ◌∙◌, pow-suc, add-one, arith, lit<, take_all, below_more}
use native.Mathlib.Nat.{pow-le-pow_right}
use mir.Facts.{Fits-below}
use Rattle.std.proofs.lemmas.List.Sums.{fold_more}
use Rattle.std.proofs.lemmas.Bool.Decides.{nat_tests}
use Rattle.cues.specs.Words.{number_value}
use Rattle.cues.proofs.Words.{digits_from, digit_range, number_true, number_false}
use Rattle.cues.proofs.token.number.Goals as goal

pub overflow_mul-value : goal.overflow_mul-value
overflow_mul-value c =
    let p : 10 ^ c.loop-digit.digit-index ≤ 10 ^ 6 = pow-le-pow_right (lit< tt) {j = 6} (omega arith) in
    Fits-below {n = 99999999} tt (omega (arith, p))

pub overflow_add-value : goal.overflow_add-value
overflow_add-value c =
    let p : 10 ^ c.loop-digit.digit-index ≤ 10 ^ 6 = pow-le-pow_right (lit< tt) {j = 6} (omega arith) in
    Fits-below {n = 99999999} tt (omega (arith, p))

pub returns-then-not-is_ascii_digit : goal.returns-then-not-is_ascii_digit
returns-then-not-is_ascii_digit c = number_false c.args.word.now c.loop-digit.digit-index c.loop-digit-test.true (sym c.if-not-is_ascii_digit.ensures.value)

pub loop-digit-preserved : goal.loop-digit-preserved
loop-digit-preserved c =
    let l = c.loop-digit in
    let w = c.args.word.now in
    let i = l.digit-index in
    let d = digit_range (get_or w i 0) (sym c.if-not-is_ascii_digit.ensures.value) in
    let p : 10 ^ (i + 1) ≡ 10 ^ i * 10 = ap (λ k. 10 ^ k) (add-one i) ∙ pow-suc 10 i in (
      ap (λ m. m * 10 + (get_or w i 0 - 48)) l.invariant.0 ∙ sym (fold_more (λ n d. n * 10 + (d - 48)) 0 w i 0 c.loop-digit-test.true),
      omega (arith, p, l.invariant.1),
      below_more _ _ l.invariant.2 (sym c.if-not-is_ascii_digit.ensures.value),
    )

pub returns : goal.returns
returns c =
    let l = c.loop-digit in
    let w = c.args.word.now in
    let all = digits_from w (λ i h. l.invariant.2 i (omega arith)) in
    (number_true w (grind (arith, nat_tests)) (omega arith) c.else-word-eq48.either all, l.invariant.0 ∙ ap number_value (take_all l.digit-index w c.loop-digit-test.false))
