-- A record of an image: 70 bytes.
use Rattle.std.specs.Prelude.{◌≡◌, ℕ, ◌/◌, ◌%◌, Bool, cond, ◌&&◌, List, [], ◌∷◌, ◌++◌, length, take, drop, ◌==◌, nat_le}
use Rattle.image.specs.Sums.{word_at, check_of}

-- the number and the 64 bytes, which the check is of: 33 words
abbrev pub checked_of : List ℕ → List ℕ
checked_of r = take 66 (drop 2 r)

abbrev pub data_of : List ℕ → List ℕ
data_of r = take 64 (drop 4 r)

-- a record is whole as record i if mark, number and check are right
pub record Whole (r : List ℕ) (i : ℕ) : Type 0 where
  pub size : length r ≡ 70
  pub mark : word_at r 0 ≡ 0x4C52
  pub number : word_at r 1 ≡ i
  pub check : word_at r 34 ≡ check_of (checked_of r)

-- the same as a test
abbrev pub whole : List ℕ → ℕ → Bool
whole r i = length r == 70 && (word_at r 0 == 0x4C52 && (word_at r 1 == i && word_at r 34 == check_of (checked_of r)))

-- record i of 64 bytes xs
abbrev pub record_of : ℕ → List ℕ → List ℕ
record_of i xs = 0x4C ∷ 0x52 ∷ i / 256 ∷ i % 256 ∷ (xs ++ check_of (i / 256 ∷ i % 256 ∷ xs) / 256 ∷ check_of (i / 256 ∷ i % 256 ∷ xs) % 256 ∷ [])

-- what writing record i of n bytes to a place of m answers: 1 for a number above 4,095, then 7 for another length
abbrev pub write_number : ℕ → ℕ → ℕ → ℕ
write_number i n m = cond (nat_le i 4095) (cond (n == 64 && m == 70) 0 7) 1
