-- The sum, a word at a time.
use Rattle.std.proofs.Common.{◌≡◌, ℕ, zero, suc, ◌+◌, ◌-◌, ◌*◌, ◌/◌, ◌%◌, ◌<◌, ◌≤◌, min, List, ◌++◌, length, get_or, take, drop, sym, refl, ap, ◌∙◌, ⊎_elim, add-one, arith}
use Rattle.std.proofs.lemmas.Bool.{cases_eq, cases_lt}
use Rattle.std.proofs.lemmas.Bool.Decides.{nat_tests}
use Rattle.std.proofs.lemmas.List.{get_or-take, get_or-drop, get_or_past, drop-drop}
use Rattle.image.proofs.Parts.{front_part}
use Rattle.image.specs.Sums.{word_at, carried, sum_to, sum_of, total_to, ones_complement}

pub sum_none : (xs : List ℕ) → sum_to xs 0 ≡ 0
unfolding sum_to
sum_none xs = refl

pub sum_more : (xs : List ℕ) (k : ℕ) → sum_to xs (k + 1) ≡ carried (sum_to xs k + word_at xs k)
unfolding sum_to
sum_more xs k = rw (add-one k) refl

-- one word more, where the total so far is t
carried_is : (t w : ℕ) → w ≤ 65535 → carried (ones_complement t + w) ≡ ones_complement (t + w)
carried_is t w h =
    ⊎_elim
    (λ (z : t ≡ 0). ⊎_elim (λ (v : w ≡ 0). grind (arith, nat_tests)) (λ (v : w ≡ 0 → ⊥). let m : (t + w - 1) % 65535 + 1 ≡ w = omega arith in grind (arith, nat_tests)) (cases_eq w 0))
    (λ (z : t ≡ 0 → ⊥).
    ⊎_elim
    (λ (lt : (t - 1) % 65535 + 1 + w < 65536). let m : (t + w - 1) % 65535 + 1 ≡ (t - 1) % 65535 + 1 + w = omega arith in grind (arith, nat_tests))
    (λ (ge : 65536 ≤ (t - 1) % 65535 + 1 + w). let m : (t + w - 1) % 65535 + 1 ≡ (t - 1) % 65535 + 1 + w - 65535 = omega arith in grind (arith, nat_tests))
    (cases_lt ((t - 1) % 65535 + 1 + w) 65536))
    (cases_eq t 0)

-- the sum is the total in ones' complement
pub sum_is : (xs : List ℕ) → ((j : ℕ) → word_at xs j ≤ 65535) → (k : ℕ) → sum_to xs k ≡ ones_complement (total_to xs k)
unfolding sum_to total_to
sum_is xs h zero = refl
sum_is xs h (suc k) = ap (λ s. carried (s + word_at xs k)) (sum_is xs h k) ∙ carried_is (total_to xs k) (word_at xs k) (h k)

-- word k comes off the front of the bytes from it on
pub next_word : (xs rest pair left : List ℕ) (k : ℕ) → rest ≡ drop (2 * k) xs → rest ≡ pair ++ left → length pair ≡ min 2 (length rest) → (word_at pair 0 ≡ word_at xs k) × (left ≡ drop (2 * (k + 1)) xs)
next_word xs rest pair left k at e h =
    let f = front_part 2 rest pair left e h in
    let here : pair ≡ take 2 (drop (2 * k) xs) = sym f.0 ∙ ap (take 2) at in
    let high : get_or pair 0 0 ≡ get_or xs (2 * k) 0 = ap (λ l. get_or l 0 0) here ∙ get_or-take 2 (drop (2 * k) xs) 0 0 (omega arith) ∙ get_or-drop (2 * k) xs 0 0 ∙ ap (λ i. get_or xs i 0) (omega arith) in
    let low : get_or pair 1 0 ≡ get_or xs (2 * k + 1) 0 = ap (λ l. get_or l 1 0) here ∙ get_or-take 2 (drop (2 * k) xs) 1 0 (omega arith) ∙ get_or-drop (2 * k) xs 1 0 in
    ((λ i. high i * 256 + low i), sym f.1 ∙ ap (drop 2) at ∙ drop-drop 2 (2 * k) xs ∙ ap (λ j. drop j xs) (omega arith))

-- the last word, of one byte or of none, ends the sum
pub sum_ends : (xs : List ℕ) (k : ℕ) → k ≡ length xs / 2 → sum_to xs k < 65536 → sum_to xs (k + 1) ≡ sum_of xs
sum_ends xs k e small =
    ⊎_elim
    (λ (even : length xs % 2 ≡ 0).
    let high : get_or xs (2 * k) 0 ≡ 0 = get_or_past xs (2 * k) 0 (omega arith) in
    let low : get_or xs (2 * k + 1) 0 ≡ 0 = get_or_past xs (2 * k + 1) 0 (omega arith) in
    let all : k ≡ (length xs + 1) / 2 = omega arith in
    sum_more xs k ∙ grind (arith, nat_tests) ∙ ap (sum_to xs) all)
    (λ (odd : length xs % 2 ≡ 0 → ⊥). let all : k + 1 ≡ (length xs + 1) / 2 = omega arith in ap (sum_to xs) all)
    (cases_eq (length xs % 2) 0)
