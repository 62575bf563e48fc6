-- Bytes cut into lines, and a line into words.
--     lines input     the lines, each ended by byte 10 or, with bytes left, by the input's end
--     words line      the words, which single spaces part: two spaces have an empty word between them
--     is_number w     1 to 7 digits, with no leading zero but in 0
use Rattle.std.specs.Prelude.{ℕ, ◌+◌, ◌-◌, ◌*◌, Bool, cond, not, ◌&&◌, ◌||◌, List, [], ◌∷◌, length, fold, ◌==◌, nat_le, slice_index}
use Rattle.std.specs.Char.{is_ascii_alphabetic}
use Rattle.std.specs.Str.{all_ascii_digits}

-- one byte more at the front of the first part
abbrev pub onto : ℕ → List (List ℕ) → List (List ℕ)
onto c [] = (c ∷ []) ∷ []
onto c (w ∷ ws) = (c ∷ w) ∷ ws

-- the parts between the bytes `mark`, where no bytes have the parts `none`
unfoldable pub cut : ℕ → List (List ℕ) → List ℕ → List (List ℕ)
cut mark none [] = none
cut mark none (c ∷ cs) = cond (c == mark) ([] ∷ cut mark none cs) (onto c (cut mark none cs))

abbrev pub lines : List ℕ → List (List ℕ)
lines input = cut 10 [] input

abbrev pub words : List ℕ → List (List ℕ)
words line = cut 32 ([] ∷ []) line

-- the bytes before the first `mark`
abbrev pub front : ℕ → List ℕ → List ℕ
front mark [] = []
front mark (c ∷ cs) = cond (c == mark) [] (c ∷ front mark cs)

abbrev pub is_number : List ℕ → Bool
is_number w = nat_le 1 (length w) && (nat_le (length w) 7 && ((not (slice_index w 0 == 48) || length w == 1) && all_ascii_digits w))

-- the number that digits write
abbrev pub number_value : List ℕ → ℕ
number_value w = fold (λ n c. n * 10 + (c - 48)) 0 w

-- what a word says
pub data Word : Type 0 where
  number : ℕ → Word
  letter : ℕ → Word
  neither : Word

abbrev pub word_of : List ℕ → Word
word_of w = cond (is_number w) (number (number_value w)) (cond (length w == 1 && is_ascii_alphabetic (slice_index w 0)) (letter (slice_index w 0)) neither)
