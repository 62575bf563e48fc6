-- The text of each line of the log: words parted by one space, and byte 10 at the end. A number is written by its
-- decimal digits.
use Rattle.std.specs.Prelude.{ℕ, cond, List, [], ◌∷◌, ◌++◌, Ok, Err, codes, decimal, Result, ◌==◌}
use Rattle.std.specs.List.{flat_map}
use Rattle.refusal.specs.Told.{refusal_number, answer_number, told}
use Rattle.refusal.specs.declared.Refusal.{Refusal}
use Rattle.loglines.specs.declared.LogLine.{LogLine}
use Rattle.loglines.specs.declared.LogLine.TheVariants.{Order, Take, Give, Close, Read, Failed, Ended, Done, BadList}

-- each number after a space
abbrev pub spaced : List ℕ → List ℕ
spaced ns = flat_map (λ n. 32 ∷ decimal n) ns

-- the slot and the letter of a line
abbrev pub opening : ℕ → ℕ → List ℕ
opening slot letter = decimal slot ++ (32 ∷ letter ∷ [])

-- an order's answer: 0 or the refusal's number; Crowded, 6, adds its span
abbrev pub order_told : Result (Unit {0}) Refusal → List ℕ
order_told (Ok x) = 0 ∷ []
order_told (Err e) = cond (refusal_number e == 6) (told e) (refusal_number e ∷ [])

-- a take's answer: 0 and the lease, or the refusal's number
abbrev pub take_told : Result ℕ Refusal → List ℕ
take_told (Ok lease) = 0 ∷ lease ∷ []
take_told (Err e) = refusal_number e ∷ []

-- the letters are those of the cues, r for read, f for failed and e for ended
abbrev pub log_text : LogLine → List ℕ
log_text (Order slot head answer) = opening slot 111 ++ spaced (head ∷ order_told answer)
log_text (Take slot head block party answer) = opening slot 116 ++ spaced (head ∷ block ∷ party ∷ take_told answer)
log_text (Give slot party lease answer) = opening slot 103 ++ spaced (party ∷ lease ∷ answer_number answer ∷ [])
log_text (Close slot head answer) = opening slot 99 ++ spaced (head ∷ answer_number answer ∷ [])
log_text (Read slot head block) = opening slot 114 ++ spaced (head ∷ block ∷ [])
log_text (Failed slot head block attempt) = opening slot 102 ++ spaced (head ∷ block ∷ attempt ∷ [])
log_text (Ended slot head cause) = opening slot 101 ++ spaced (head ∷ cause ∷ [])
log_text (Done slot attempts failed) = codes "done" ++ spaced (slot ∷ attempts ∷ failed ∷ [])
log_text (BadList number line place) = decimal number ++ spaced (line ∷ place ∷ [])

abbrev pub log_line : LogLine → List ℕ
log_line l = log_text l ++ 10 ∷ []
