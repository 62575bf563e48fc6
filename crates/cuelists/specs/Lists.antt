-- What a cue list says: its lines one after another, up to the first fault.
use Rattle.std.specs.Prelude.{◌≡◌, ℕ, suc, min, Bool, true, false, cond, List, [], ◌∷◌, ◌++◌, length, decimal, Some, None, Ok, Err, Option, Result, MatchResult, ◌==◌, nat_lt}
use Rattle.std.specs.List.Sorted.{IsPermutation}
use Rattle.layers.specs.Entries.{add_number, add_after}
use Rattle.layers.specs.declared.plan.Entry.{Entry}
use Rattle.cues.specs.Forms.{line_cue}
use Rattle.cues.specs.Words.{lines}
use Rattle.cues.specs.declared.Cue.{Cue}
use Rattle.cues.specs.declared.Cue.TheVariants.{Plan, At}
use Rattle.cuelists.specs.declared.due.Due.{Due}
use Rattle.cuelists.specs.declared.list.ListFault.{ListFault}
use Rattle.cuelists.specs.declared.list.Reason.{Reason}
use Rattle.cuelists.specs.declared.list.Reason.TheVariants.{BadEntry, BadCue, Full}

abbrev pub reason_number : Reason → ℕ
reason_number BadEntry = 16
reason_number (BadCue place) = 17
reason_number Full = 18

-- what is told of a fault as a refusal: its number, and for a bad cue its line and place
abbrev pub reason_told : Reason → ℕ → List ℕ
reason_told BadEntry line = 16 ∷ []
reason_told (BadCue place) line = 17 ∷ line ∷ place ∷ []
reason_told Full line = 18 ∷ []

abbrev pub fault_told : ListFault → List ℕ
fault_told f = reason_told f.reason f.line

-- the byte of the line at which a bad cue is wrong, 0 for another fault
abbrev pub reason_place : Reason → ℕ
reason_place BadEntry = 0
reason_place (BadCue place) = place
reason_place Full = 0

abbrev pub fault_place : ListFault → ℕ
fault_place f = reason_place f.reason

-- number, line and place
abbrev pub fault_words : ListFault → List ℕ
fault_words f = decimal (reason_number f.reason) ++ (32 ∷ (decimal f.line ++ (32 ∷ decimal (fault_place f))))

abbrev pub fault : Reason → ℕ → ListFault
fault why line = record { reason = why; line = line }

-- the calls that a queue takes: its room, and no more than 512
abbrev pub most : ℕ → ℕ
most room = min room 512

-- what the lines so far left: a plan's entries, the calls that wait, the latest first, and whether the list has a call
pub record Sofar : Type 0 where
  pub entries : List Entry
  pub calls : List Due
  pub begun : Bool

abbrev pub sofar : List Entry → List Due → Bool → Sofar
sofar es cs b = record { entries = es; calls = cs; begun = b }

-- an entry is added to the plan
abbrev pub plan_read : ℕ → ℕ → ℕ → Sofar → Result Sofar ListFault
plan_read line block count s =
    cond (add_number s.entries block count == 0) (Ok (sofar (add_after s.entries block count) s.calls false)) (Err (fault BadEntry line))

-- a call waits with its line, where there is room
abbrev pub call_read : ℕ → Due → Sofar → Result Sofar ListFault
call_read room due s = cond (nat_lt (length s.calls) room) (Ok (sofar s.entries (due ∷ s.calls) true)) (Err (fault Full due.line))

abbrev pub cue_read : ℕ → ℕ → Result Cue ℕ → Sofar → Result Sofar ListFault
cue_read room line (Err place) s = Err (fault (BadCue place) line)
cue_read room line (Ok (Plan block count)) s = plan_read line block count s
cue_read room line (Ok (At slot call)) s = call_read room (record { slot = slot; line = line; call = call }) s

-- what the list left, and its first fault, where it has one
pub record Outcome : Type 0 where
  pub left : Sofar
  pub first_fault : Option ListFault

abbrev pub go_on : Sofar → Result Sofar ListFault → (Sofar → Outcome) → Outcome
go_on s (Ok t) next = next t
go_on s (Err f) next = record { left = s; first_fault = Some f }

-- lines from number `line` on
unfoldable pub lines_read : ℕ → ℕ → Sofar → List (List ℕ) → Outcome
lines_read room line s [] = record { left = s; first_fault = None }
lines_read room line s (l ∷ ls) = go_on s (cue_read room line (line_cue s.begun l) s) (λ t. lines_read room (suc line) t ls)

-- a list read into a plan with the entries es and a queue with the calls cs and room for as many in all
abbrev pub list_read : ℕ → List Entry → List Due → List ℕ → Outcome
list_read room es cs input =
    cond (nat_lt 65536 (length input)) (record { left = sofar es cs false; first_fault = Some (fault Full 0) })
    (lines_read (most room) 1 (sofar es cs false) (lines input))

-- r, the entries and the calls after one line are those of `step`; the queue holds its calls in any order
abbrev pub Took : Sofar → Result Sofar ListFault → Result Bool ListFault → List Entry → List Due → Type 0
Took s step r es cs = MatchResult step (λ t. (r ≡ Ok t.begun) × (es ≡ t.entries) × IsPermutation t.calls cs) (λ f. (r ≡ Err f) × (es ≡ s.entries) × (cs ≡ s.calls))

abbrev pub fault_of : Result (Unit {0}) ListFault → Option ListFault
fault_of (Ok x) = None
fault_of (Err f) = Some f

-- the answer, the entries and the calls after a list; the queue holds the calls in any order
pub record Reads (o : Outcome) (r : Result (Unit {0}) ListFault) (es : List Entry) (cs : List Due) : Type 0 where
  pub answer : fault_of r ≡ o.first_fault
  pub entries : es ≡ o.left.entries
  pub calls : IsPermutation o.left.calls cs
