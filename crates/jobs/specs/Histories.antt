-- The log as what a history of calls on a new bench tells, so that the laws over histories speak of what is printed.
use Rattle.std.specs.Prelude.{◌≡◌, ℕ, true, List, [], ◌∷◌, ◌++◌, length, replicate, Some, None, Option}
use Rattle.history.specs.Bench.{World}
use Rattle.history.specs.Calls.{Answer, ends}
use Rattle.history.specs.Laws.{BenchLaws}
use Rattle.history.specs.Told.{Call, admits, ticks, takes, gives, gives_slip, closes, answers, Told, nothing, tell, told, tally, attempt_made, attempt_failed, of_tick}
use Rattle.cuelists.specs.Lists.{Outcome, Sofar, list_read}
use Rattle.cuelists.specs.declared.list.ListFault.{ListFault}
use Rattle.jobs.specs.Lines.{line, number_of, span_of, lease_of, tick_line, ended_lines, done_line}
use Rattle.jobs.specs.Run.{image_fits, job_disk, job_bench}

-- what a run does: a call of the bench, or it finds that a cue's numbers make no order for head h
pub data Deed : Type 0 where
  calls : Call → Deed
  no_order : (h : ℕ) → Deed

abbrev pub history : List Deed → List Call
history [] = []
history (calls c ∷ ds) = c ∷ history ds
history (no_order h ∷ ds) = history ds

-- the lines of one call, by what the calls before it told and what it answered: an idle tick says nothing, and the lanes
-- that a tick ended come after it, at the new slot
abbrev pub call_lines : Told → Call → Answer → List ℕ
call_lines t (admits o v) a = line t.now 111 (o.head ∷ number_of a ∷ span_of a)
call_lines t (ticks f) a = tick_line t.now a ++ ended_lines (tell t (ticks f) a).now 0 (ends t.lanes (tell t (ticks f) a).lanes)
call_lines t (takes h i party slip) a = line t.now 116 (h ∷ i ∷ party ∷ number_of a ∷ lease_of a)
call_lines t (gives party m) a = line t.now 103 (party ∷ m ∷ number_of a ∷ [])
call_lines t (gives_slip s) a = []
call_lines t (closes h) a = line t.now 99 (h ∷ number_of a ∷ [])

-- of deeds one after the other and the answers of their calls; one that is no order has the number 1
abbrev pub lines_told : Told → List Deed → List Answer → List ℕ
lines_told t [] as' = []
lines_told t (no_order h ∷ ds) as' = line t.now 111 (h ∷ 1 ∷ []) ++ lines_told t ds as'
lines_told t (calls c ∷ ds) [] = []
lines_told t (calls c ∷ ds) (a ∷ as') = call_lines t c a ++ lines_told (tell t c a) ds as'

-- The log is the lines of some deeds on the new bench w, by the answers of their calls alone; and then, always, `done`
-- with the slot that they came to, the ticks that answered read or failed, and those that answered failed.
pub record TellsHistory (w : World) (log : List ℕ) : Type 0 where
  pub deeds : List Deed
  pub lines : log ≡ lines_told (nothing w.disk) deeds (answers w (history deeds))
      ++ done_line (told w (history deeds)).now (tally (of_tick attempt_made) (answers w (history deeds))) (tally (of_tick attempt_failed) (answers w (history deeds)))

abbrev pub ListTold : List ℕ → Sofar → Option ListFault → List ℕ → Type 0
ListTold image s (Some f) log = Unit {0}
ListTold image s None log = TellsHistory (job_bench image s.entries) log × BenchLaws 0 (job_disk image s.entries) (replicate 2048 0)

abbrev pub ReadTold : List ℕ → Outcome → List ℕ → Type 0
ReadTold image o log = ListTold image o.left o.first_fault log

-- The log of a good image and a list without fault tells a history, of a bench for which the laws hold.
abbrev pub JobTold : Option (List ℕ) → List ℕ → List ℕ → Type 0
JobTold None cues log = Unit {0}
JobTold (Some image) cues log = image_fits (length image) ≡ true → ReadTold image (list_read 512 [] [] cues) log
