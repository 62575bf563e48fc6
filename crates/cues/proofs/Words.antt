-- Words and digits, byte by byte.
use Rattle.std.specs.Prelude.{position, MatchOption}
use Rattle.std.specs.List.{position_or_len}
use Rattle.std.proofs.Common.{◌*◌, fold, not, Option, Some, None, ltb, ◌≡◌, ℕ, zero, suc, ◌+◌, ◌-◌, ◌<◌, ◌≤◌, Bool, true, false, cond, eqb, ◌⊎◌, ⊎_elim, List, [], ◌∷◌, length, get_or, take, take_all, sym, refl, ap, ◌∙◌, arith}
use Rattle.std.specs.Char.{is_ascii_digit}
use Rattle.std.specs.Str.{all_ascii_digits}
use Rattle.std.proofs.lemmas.Str.Parse.{IsNumeralModel, numerals_by_fold, tells_all_ascii_digits}
use Rattle.std.proofs.lemmas.Bool.{and_parts, and_from, cases_Bool, both_ways}
use Rattle.std.proofs.lemmas.Bool.Decides.{nat_tests}
use Rattle.std.proofs.lemmas.Bool.{ltb-false}
use Rattle.cues.specs.Words.{front, is_number, number_value}

-- the front ends at the first `mark`, or is the whole
front_take : (mark : ℕ) (xs : List ℕ) → front mark xs ≡ take (position_or_len (λ b. eqb b mark) xs) xs
front_take mark [] = refl
front_take mark (x ∷ xs) = by (eqb x mark) (front_take mark xs)
  where
    by : (b : Bool) → front mark xs ≡ take (position_or_len (λ b. eqb b mark) xs) xs
        → cond b [] (x ∷ front mark xs) ≡ take (cond (not b) (1 + position_or_len (λ b. eqb b mark) xs) 0) (x ∷ xs)
    by true e = refl
    by false e =
        let n : suc (position_or_len (λ b. eqb b mark) xs) ≡ 1 + position_or_len (λ b. eqb b mark) xs = omega arith in
        ap (λ (l : List ℕ). x ∷ l) e ∙ ap (λ (k : ℕ). take k (x ∷ xs)) n

pub front_found : (mark : ℕ) (xs : List ℕ) (r : Option ℕ) → r ≡ position (λ b. eqb b mark) xs → MatchOption r (xs ≡ front mark xs) (λ end. take end xs ≡ front mark xs)
front_found mark xs r e = by (position_or_len (λ b. eqb b mark) xs) _ refl (front_take mark xs) r e
  where
    by : (at : ℕ) (b : Bool) → ltb at (length xs) ≡ b → front mark xs ≡ take at xs → (r : Option ℕ) → r ≡ cond b (Some at) None → MatchOption r (xs ≡ front mark xs) (λ end. take end xs ≡ front mark xs)
    by at true t f (Some end) q = let same : end ≡ at = cc in ap (λ (k : ℕ). take k xs) same ∙ sym f
    by at true t f None q = absurd (cc)
    by at false t f (Some end) q = absurd (cc)
    by at false t f None q = sym (f ∙ take_all at xs (omega (arith, ltb-false)))

pub digit_range : (c : ℕ) → is_ascii_digit c ≡ true → (48 ≤ c) × (c ≤ 57)
digit_range c e = grind (arith, nat_tests)

digit_test : (w : List ℕ) (i : ℕ) → all_ascii_digits w ≡ true → i < length w → is_ascii_digit (get_or w i 0) ≡ true
digit_test [] i e h = absurd (omega arith)
digit_test (c ∷ cs) zero e h = (and_parts (is_ascii_digit c) (all_ascii_digits cs) e).0
digit_test (c ∷ cs) (suc i) e h = digit_test cs i (and_parts (is_ascii_digit c) (all_ascii_digits cs) e).1 (omega arith)

-- digits write the number of their value
pub own : IsNumeralModel (λ ds. all_ascii_digits ds ≡ true) number_value
own = numerals_by_fold _ tells_all_ascii_digits (λ n ds. fold (λ m c. m * 10 + (c - 48)) n ds) (record { empty = λ n. refl; more = λ n c cs h. refl })

pub digits_from : (w : List ℕ) → ((i : ℕ) → i < length w → is_ascii_digit (get_or w i 0) ≡ true) → all_ascii_digits w ≡ true
digits_from [] h = refl
digits_from (c ∷ cs) h = and_from (is_ascii_digit c) (all_ascii_digits cs) (h 0 (omega arith)) (digits_from cs (λ i l. h (suc i) (omega arith)))

module _ (w : List ℕ) where
  pub number_true : 0 < length w → length w ≤ 7 → ((get_or w 0 0 ≡ 48) × (length w ≤ 1)) ⊎ (get_or w 0 0 ≡ 48 → ⊥) → all_ascii_digits w ≡ true → is_number w ≡ true
  number_true a b z d = grind (arith, nat_tests)

  pub number_false : (i : ℕ) → i < length w → is_ascii_digit (get_or w i 0) ≡ false → is_number w ≡ false
  number_false i h e = ⊎_elim (λ d. absurd (both_ways (is_ascii_digit (get_or w i 0)) e (digit_test w i d h))) (λ d. grind (arith, nat_tests)) (cases_Bool (all_ascii_digits w))
