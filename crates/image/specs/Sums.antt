-- The sum of RFC 1071 over bytes.
use Rattle.std.specs.Prelude.{ℕ, zero, suc, ◌+◌, ◌-◌, ◌*◌, ◌/◌, ◌%◌, cond, List, length, ◌==◌, nat_lt, slice_index}

-- word k: two bytes, the high one first; past the end stand zeros
abbrev pub word_at : List ℕ → ℕ → ℕ
word_at xs k = slice_index xs (2 * k) * 256 + slice_index xs (2 * k + 1)

-- where the sum reaches 65,536, 65,535 is subtracted
abbrev pub carried : ℕ → ℕ
carried n = cond (nat_lt n 65536) n (n - 65535)

-- it starts at 0 and takes in the first k words
unfoldable pub sum_to : List ℕ → ℕ → ℕ
sum_to xs zero = 0
sum_to xs (suc k) = carried (sum_to xs k + word_at xs k)

-- the plain total of the first k words
unfoldable pub total_to : List ℕ → ℕ → ℕ
total_to xs zero = 0
total_to xs (suc k) = total_to xs k + word_at xs k

-- a total in ones' complement of 16 bits: 0 for 0, and else the number from 1 to 65,535 that differs from it by a
-- multiple of 65,535; so the order in which words are taken in and the carries made does not matter
abbrev pub ones_complement : ℕ → ℕ
ones_complement t = cond (t == 0) 0 ((t - 1) % 65535 + 1)

abbrev pub sum_of : List ℕ → ℕ
sum_of xs = sum_to xs ((length xs + 1) / 2)

abbrev pub total_of : List ℕ → ℕ
total_of xs = total_to xs ((length xs + 1) / 2)

-- the check is 65,535 less the sum
abbrev pub check_of : List ℕ → ℕ
check_of xs = 65535 - sum_of xs
