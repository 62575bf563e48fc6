-- A cue as a line: its words with one space between them, a number by its decimal digits.
use Rattle.std.specs.Prelude.{◌≡◌, ℕ, ◌≤◌, Bool, false, List, [], ◌∷◌, ◌++◌, map, decimal}
use Rattle.std.specs.List.{AllByRecursion}
use Rattle.cues.specs.declared.Call.{Call}
use Rattle.cues.specs.declared.Call.TheVariants.{Order, Take, Give, Close}
use Rattle.cues.specs.declared.Cue.{Cue}
use Rattle.cues.specs.declared.Cue.TheVariants.{Plan, At}

abbrev pub spaced : List (List ℕ) → List ℕ
spaced [] = []
spaced (w ∷ []) = w
spaced (w ∷ v ∷ ws) = w ++ 32 ∷ spaced (v ∷ ws)

-- the letter of a call, and the numbers that follow it
abbrev pub call_letter : Call → ℕ
call_letter (Order head first count start period depth spare) = 111
call_letter (Take head block party) = 116
call_letter (Give party lease) = 103
call_letter (Close head) = 99

abbrev pub call_numbers : Call → List ℕ
call_numbers (Order head first count start period depth spare) = head ∷ first ∷ count ∷ start ∷ period ∷ depth ∷ spare ∷ []
call_numbers (Take head block party) = head ∷ block ∷ party ∷ []
call_numbers (Give party lease) = party ∷ lease ∷ []
call_numbers (Close head) = head ∷ []

abbrev pub cue_words : Cue → List (List ℕ)
cue_words (Plan block count) = (112 ∷ []) ∷ map decimal (block ∷ count ∷ [])
cue_words (At slot call) = decimal slot ∷ (call_letter call ∷ []) ∷ map decimal (call_numbers call)

abbrev pub cue_line : Cue → List ℕ
cue_line cue = spaced (cue_words cue)

-- a cue that a line may say: its numbers have at most 7 digits, and its slot is at most 1,000,000; no plan once a call
-- has come
abbrev pub Writable : Bool → Cue → Type 0
Writable begun (Plan block count) = (begun ≡ false) × AllByRecursion (λ n. n ≤ 9999999) (block ∷ count ∷ [])
Writable begun (At slot call) = (slot ≤ 1000000) × AllByRecursion (λ n. n ≤ 9999999) (call_numbers call)
