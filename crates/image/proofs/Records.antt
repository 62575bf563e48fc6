-- A record that is written is whole, and reads back as it was written.
use Rattle.std.proofs.Common.{◌≡◌, ℕ, ◌+◌, ◌*◌, ◌/◌, ◌%◌, ◌≤◌, Bool, true, false, List, [], ◌∷◌, ◌++◌, length, get_or, take, set, sym, refl, ap, ◌∙◌, arith}
use Rattle.std.proofs.lemmas.List.{length-append, set-append_right, get_or-append_right, take_at}
use Rattle.std.proofs.lemmas.Bool.Decides.{nat_tests}
use Rattle.image.specs.Sums.{check_of}
use Rattle.image.specs.Records.{Whole, whole, checked_of, data_of, record_of}

pub whole_true : (r : List ℕ) (i : ℕ) → Whole r i → whole r i ≡ true
whole_true r i w = grind (arith, nat_tests)

pub whole_tells : (r : List ℕ) (i : ℕ) → whole r i ≡ true → Whole r i
whole_tells r i t = record { size = grind (arith, nat_tests); mark = grind (arith, nat_tests); number = grind (arith, nat_tests); check = grind (arith, nat_tests) }

false_by : (t : Bool) (r : List ℕ) (i : ℕ) → whole r i ≡ t → (Whole r i → ⊥) → t ≡ false
false_by true r i e w = absurd (w (whole_tells r i e))
false_by false r i e w = refl

pub whole_false : (r : List ℕ) (i : ℕ) → (Whole r i → ⊥) → whole r i ≡ false
whole_false r i w = false_by (whole r i) r i refl w

-- the four bytes before the 64, written one by one
pub head_written : (p : List ℕ) (a b c d : ℕ) → 4 ≤ length p → take 4 (set (set (set (set p 0 a) 1 b) 2 c) 3 d) ≡ a ∷ b ∷ c ∷ d ∷ []
head_written [] a b c d h = absurd (omega arith)
head_written (x ∷ []) a b c d h = absurd (omega arith)
head_written (x ∷ y ∷ []) a b c d h = absurd (omega arith)
head_written (x ∷ y ∷ z ∷ []) a b c d h = absurd (omega arith)
head_written (x ∷ y ∷ z ∷ w ∷ p) a b c d h = refl

tail_written : (t : List ℕ) (e f : ℕ) → length t ≡ 2 → set (set t 0 e) 1 f ≡ e ∷ f ∷ []
tail_written [] e f l = absurd (omega arith)
tail_written (x ∷ []) e f l = absurd (omega arith)
tail_written (x ∷ y ∷ []) e f l = refl
tail_written (x ∷ y ∷ z ∷ t) e f l = absurd (omega arith)

module _ (xs t : List ℕ) (l : length xs ≡ 64) where
  -- the two bytes after them
  pub check_written : (a b c d e f : ℕ) → length t ≡ 2 → set (set (a ∷ b ∷ c ∷ d ∷ (xs ++ t)) 68 e) 69 f ≡ a ∷ b ∷ c ∷ d ∷ (xs ++ e ∷ f ∷ [])
  check_written a b c d e f s =
      let u = ap (λ ys. set ys 65 f) (set-append_right xs t 64 64 e l (omega arith)) ∙ set-append_right xs (set t 0 e) 64 65 f l (omega arith) ∙ ap (λ ys. xs ++ ys) (tail_written t e f s) in
      ap (λ ys. a ∷ b ∷ c ∷ d ∷ ys) u

  pub checked_is : (a b c d : ℕ) → checked_of (a ∷ b ∷ c ∷ d ∷ (xs ++ t)) ≡ c ∷ d ∷ xs
  checked_is a b c d = ap (λ ys. c ∷ d ∷ ys) (take_at xs t 64 l)

  data_is : (a b c d : ℕ) → data_of (a ∷ b ∷ c ∷ d ∷ (xs ++ t)) ≡ xs
  data_is a b c d = take_at xs t 64 l

-- what is written is whole, and reads back
pub written_reads_back : (i : ℕ) (xs : List ℕ) → length xs ≡ 64 → Whole (record_of i xs) i × (data_of (record_of i xs) ≡ xs)
written_reads_back i xs l =
    let n = check_of (i / 256 ∷ i % 256 ∷ xs) in
    let t : List ℕ = n / 256 ∷ n % 256 ∷ [] in
    let hi : get_or (record_of i xs) 68 0 ≡ n / 256 = get_or-append_right xs t 64 64 0 l (omega arith) in
    let lo : get_or (record_of i xs) 69 0 ≡ n % 256 = get_or-append_right xs t 64 65 0 l (omega arith) in
    let w : get_or (record_of i xs) 68 0 * 256 + get_or (record_of i xs) 69 0 ≡ n = omega arith in
    let size : length (record_of i xs) ≡ 70 = simp length-append (omega arith) in
    (record { size = size; mark = refl; number = omega arith; check = w ∙ ap check_of (sym (checked_is xs t l 0x4C 0x52 (i / 256) (i % 256))) }, data_is xs t l 0x4C 0x52 (i / 256) (i % 256))
