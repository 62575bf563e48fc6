-- Worked examples of the definitions, each with the value that it is to have.
use Rattle.std.specs.Prelude.{◌≡◌, ℕ, Bool, true, false, ◌&&◌, List, [], ◌∷◌, drop, replicate, ◌==◌}
use Rattle.disk.specs.Meaning.{ToCome, failures, dead}
use Rattle.image.specs.Records.{record_of}
use Rattle.layers.specs.Retries.{divided}

abbrev pub same : List ℕ → List ℕ → Bool
same [] [] = true
same [] (y ∷ ys) = false
same (x ∷ xs) [] = false
same (x ∷ xs) (y ∷ ys) = x == y && same xs ys

-- a number of failures to come; none of a dead block
abbrev pub number_coming : ToCome → List ℕ
number_coming (failures n) = n ∷ []
number_coming dead = []

-- the two bytes of a record's check
abbrev pub check_bytes : List ℕ → List ℕ
check_bytes r = drop 68 r

-- 5 failures below a retry with 2 calls are 2; record 0 of zeros has the check FFFF, and record 1 of bytes FF has FFFE
abbrev pub examples : List (List ℕ × List ℕ)
examples =
    (number_coming (divided 2 (failures 5)), 2 ∷ [])
    ∷ (check_bytes (record_of 0 (replicate 64 0)), 0xFF ∷ 0xFF ∷ [])
    ∷ (check_bytes (record_of 1 (replicate 64 0xFF)), 0xFF ∷ 0xFE ∷ [])
    ∷ []

abbrev pub all_hold : List (List ℕ × List ℕ) → Bool
all_hold [] = true
all_hold (e ∷ es) = same e.0 e.1 && all_hold es

abbrev pub ExamplesHold : Type 0
ExamplesHold = all_hold examples ≡ true
