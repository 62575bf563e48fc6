-- What a log tells of its lines as they were written: reading them gives it back.
use Rattle.std.specs.Prelude.{◌≡◌, ℕ, ◌≤◌, false, List, [], ◌∷◌, ◌++◌, map, Ok, slice_index}
use Rattle.std.specs.List.{flat_map, AllByRecursion}
use Rattle.refusal.specs.Told.{answer_number}
use Rattle.loglines.specs.Text.{order_told, take_told, log_text, log_line}
use Rattle.loglines.specs.declared.LogLine.{LogLine}
use Rattle.loglines.specs.declared.LogLine.TheVariants as line
use Rattle.charts.specs.Entries.{line_entry}
use Rattle.charts.specs.Logs.{is_end, log_read}
use Rattle.charts.specs.declared.entry.Entry.{Entry}
use Rattle.charts.specs.declared.entry.Entry.TheVariants.{Order, Take, Give, Close, Read, Failed, Ended, Done, Refused}

-- the entry of a line: its numbers, and of its answer what the line tells of it
abbrev pub told_entry : LogLine → Entry
told_entry (line.Order slot head answer) = Order slot head (slice_index (order_told answer) 0) (slice_index (order_told answer) 1) (slice_index (order_told answer) 2)
told_entry (line.Take slot head block party answer) = Take slot head block party (slice_index (take_told answer) 0) (slice_index (take_told answer) 1)
told_entry (line.Give slot party lease answer) = Give slot party lease (answer_number answer)
told_entry (line.Close slot head answer) = Close slot head (answer_number answer)
told_entry (line.Read slot head block) = Read slot head block
told_entry (line.Failed slot head block attempt) = Failed slot head block attempt
told_entry (line.Ended slot head cause) = Ended slot head cause
told_entry (line.Done slot attempts failed) = Done slot attempts failed
told_entry (line.BadList number ln place) = Refused number ln place

-- the numbers of a line
abbrev pub line_numbers : LogLine → List ℕ
line_numbers (line.Order slot head answer) = slot ∷ head ∷ order_told answer
line_numbers (line.Take slot head block party answer) = slot ∷ head ∷ block ∷ party ∷ take_told answer
line_numbers (line.Give slot party lease answer) = slot ∷ party ∷ lease ∷ answer_number answer ∷ []
line_numbers (line.Close slot head answer) = slot ∷ head ∷ answer_number answer ∷ []
line_numbers (line.Read slot head block) = slot ∷ head ∷ block ∷ []
line_numbers (line.Failed slot head block attempt) = slot ∷ head ∷ block ∷ attempt ∷ []
line_numbers (line.Ended slot head cause) = slot ∷ head ∷ cause ∷ []
line_numbers (line.Done slot attempts failed) = slot ∷ attempts ∷ failed ∷ []
line_numbers (line.BadList number ln place) = number ∷ ln ∷ place ∷ []

-- a line whose numbers have at most 7 digits
abbrev pub Short : LogLine → Type 0
Short l = AllByRecursion (λ n. n ≤ 9999999) (line_numbers l)

-- such a line, once written, reads as what it tells
abbrev pub WrittenLinesReadBack : Type 0
WrittenLinesReadBack = (l : LogLine) → Short l → line_entry (log_text l) ≡ Ok (told_entry l)

-- a line of a run, not one that ends the log
abbrev pub Running : LogLine → Type 0
Running l = is_end (told_entry l) ≡ false

-- the log of a job that ran, lines of its run and then its last, reads as what its lines tell; so does that of a job
-- that did not run
abbrev pub RunsReadBack : Type 0
RunsReadBack =
    (ls : List LogLine) (slot attempts failed : ℕ) → AllByRecursion (λ l. Running l × Short l) ls → Short (line.Done slot attempts failed)
    → log_read (flat_map log_line (ls ++ line.Done slot attempts failed ∷ [])) ≡ Ok (map told_entry (ls ++ line.Done slot attempts failed ∷ []))

abbrev pub RefusedListsReadBack : Type 0
RefusedListsReadBack =
    (number ln place : ℕ) → Short (line.BadList number ln place) → log_read (log_line (line.BadList number ln place)) ≡ Ok (Refused number ln place ∷ [])

pub record LogsReadBack : Type 0 where
  pub runs : RunsReadBack
  pub refused : RefusedListsReadBack
