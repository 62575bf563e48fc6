-- What the log says of each call and its answer.
use Rattle.std.specs.Prelude.{ℕ, suc, cond, List, [], ◌∷◌, ◌++◌, drop, Some, None, codes, decimal, Option, ◌==◌, slice_index}
use Rattle.cues.specs.declared.Call.{Call}
use Rattle.cues.specs.declared.Call.TheVariants.{Order, Take, Give, Close}
use Rattle.history.specs.Calls.{Answer, refused, done, ticked, leased, slipped, shown, reported, cause_number}
use Rattle.history.specs.declared.Cause.{Cause}
use Rattle.history.specs.declared.Ticked.{Ticked}
use Rattle.history.specs.declared.Ticked.TheVariants.{Idle, Read, Failed}
use Rattle.loglines.specs.Text.{opening, spaced}

-- a slot, a letter and numbers
abbrev pub line : ℕ → ℕ → List ℕ → List ℕ
line slot letter ns = (opening slot letter ++ spaced ns) ++ 10 ∷ []

-- CUES

-- what a refusal tells: its number and what comes with it
abbrev pub refusal_told : Answer → List ℕ
refusal_told (refused ns) = ns
refusal_told done = []
refusal_told (ticked x) = []
refusal_told (leased m) = []
refusal_told (slipped s) = []
refusal_told (shown b) = []
refusal_told (reported r) = []

-- the refusal's number, or 0
abbrev pub number_of : Answer → ℕ
number_of a = slice_index (refusal_told a) 0

-- the span of one that is crowded
abbrev pub span_of : Answer → List ℕ
span_of a = cond (number_of a == 6) (drop 1 (refusal_told a)) []

-- the lease of a take that is granted
abbrev pub lease_of : Answer → List ℕ
lease_of (leased m) = m ∷ []
lease_of (refused ns) = []
lease_of done = []
lease_of (ticked x) = []
lease_of (slipped s) = []
lease_of (shown b) = []
lease_of (reported r) = []

-- a cue's numbers as it has them, and its answer
abbrev pub cue_line : ℕ → Call → Answer → List ℕ
cue_line slot (Order head first count start period depth spare) a = line slot 111 (head ∷ number_of a ∷ span_of a)
cue_line slot (Take head block party) a = line slot 116 (head ∷ block ∷ party ∷ number_of a ∷ lease_of a)
cue_line slot (Give party lease) a = line slot 103 (party ∷ lease ∷ number_of a ∷ [])
cue_line slot (Close head) a = line slot 99 (head ∷ number_of a ∷ [])

-- TICKS

-- a block that was read, or an attempt that failed; a slot without either says nothing
abbrev pub did_line : ℕ → Ticked → List ℕ
did_line slot Idle = []
did_line slot (Read head block) = line slot 114 (head ∷ block ∷ [])
did_line slot (Failed head block attempt fault) = line slot 102 (head ∷ block ∷ attempt ∷ [])

abbrev pub tick_line : ℕ → Answer → List ℕ
tick_line slot (ticked x) = did_line slot x
tick_line slot (refused ns) = []
tick_line slot done = []
tick_line slot (leased m) = []
tick_line slot (slipped s) = []
tick_line slot (shown b) = []
tick_line slot (reported r) = []

abbrev pub ended_line : ℕ → ℕ → Option Cause → List ℕ
ended_line slot head None = []
ended_line slot head (Some cause) = line slot 101 (head ∷ cause_number cause ∷ [])

-- a line for each lane that ended, by rising head, the first of them `head`
abbrev pub ended_lines : ℕ → ℕ → List (Option Cause) → List ℕ
ended_lines slot head [] = []
ended_lines slot head (c ∷ cs) = ended_line slot head c ++ ended_lines slot (suc head) cs

-- THE END

-- the last slot, the attempts and those that failed
abbrev pub done_line : ℕ → ℕ → ℕ → List ℕ
done_line slot attempts failed = (codes "done" ++ spaced (slot ∷ attempts ∷ failed ∷ [])) ++ 10 ∷ []

-- number, line and place of a fault
abbrev pub fault_line : ℕ → ℕ → ℕ → List ℕ
fault_line number at place = (decimal number ++ spaced (at ∷ place ∷ [])) ++ 10 ∷ []
