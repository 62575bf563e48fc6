-- What a log says: its lines one after another, up to the first that is wrong. The line `done` is the last; a line that
-- tells why a job did not run stands alone.
use Rattle.std.specs.Prelude.{◌≡◌, ℕ, ◌+◌, Bool, true, false, cond, ◌||◌, List, [], ◌∷◌, Ok, Err, Result, nat_lt}
use Rattle.cues.specs.Words.{lines}
use Rattle.charts.specs.Entries.{line_entry}
use Rattle.charts.specs.declared.entry.Entry.{Entry}
use Rattle.charts.specs.declared.entry.Entry.TheVariants.{Order, Take, Give, Close, Read, Failed, Ended, Done, Refused}
use Rattle.charts.specs.declared.log.LogFault.{LogFault}

abbrev pub is_end : Entry → Bool
is_end (Order slot head answer l h) = false
is_end (Take slot head block party answer lease) = false
is_end (Give slot party lease answer) = false
is_end (Close slot head answer) = false
is_end (Read slot head block) = false
is_end (Failed slot head block attempt) = false
is_end (Ended slot head cause) = false
is_end (Done slot attempts failed) = true
is_end (Refused number line place) = true

abbrev pub is_misplaced : Entry → ℕ → Bool
is_misplaced (Order slot head answer l h) n = false
is_misplaced (Take slot head block party answer lease) n = false
is_misplaced (Give slot party lease answer) n = false
is_misplaced (Close slot head answer) n = false
is_misplaced (Read slot head block) n = false
is_misplaced (Failed slot head block attempt) n = false
is_misplaced (Ended slot head cause) n = false
is_misplaced (Done slot attempts failed) n = false
is_misplaced (Refused number line place) n = nat_lt 1 n

abbrev pub fault : ℕ → ℕ → LogFault
fault line place = record { line = line; place = place }

abbrev pub placed_entry : ℕ → Bool → Result Entry ℕ → Result Entry LogFault
placed_entry n over (Err place) = Err (fault n place)
placed_entry n over (Ok e) = cond (over || is_misplaced e n) (Err (fault n 0)) (Ok e)

-- line n of a log, where `over` tells whether the log had its last line
abbrev pub line_read : ℕ → Bool → List ℕ → Result Entry LogFault
line_read n over l = placed_entry n over (line_entry l)

abbrev pub and_then : Result Entry LogFault → (Entry → Result (List Entry) LogFault) → Result (List Entry) LogFault
and_then (Err f) next = Err f
and_then (Ok e) next = next e

abbrev pub onto : Entry → Result (List Entry) LogFault → Result (List Entry) LogFault
onto e (Ok es) = Ok (e ∷ es)
onto e (Err f) = Err f

-- the lines from line n on
unfoldable pub lines_read : ℕ → Bool → List (List ℕ) → Result (List Entry) LogFault
lines_read n over [] = Ok []
lines_read n over (l ∷ ls) = and_then (line_read n over l) (λ e. onto e (lines_read (n + 1) (is_end e) ls))

abbrev pub log_read : List ℕ → Result (List Entry) LogFault
log_read input = lines_read 1 false (lines input)

-- an answer with the entries of a log, or with its fault
abbrev pub Says : {V : Type 0} → (V → List Entry) → Result V LogFault → Result (List Entry) LogFault → Type 0
Says items (Ok v) said = said ≡ Ok (items v)
Says items (Err f) said = said ≡ Err f
