-- Worked examples of the definitions.
use Rattle.std.specs.Prelude.{◌≡◌, ℕ, false, List, [], ◌∷◌, ◌++◌, map, take, replicate}
use Rattle.refusal.specs.declared.Fault.{Fault}
use Rattle.refusal.specs.declared.FaultKind.TheVariants.{ReadFailed}
use Rattle.disk.specs.Meaning.{Block, failures}
use Rattle.history.specs.declared.Asked.{Asked}
use Rattle.history.specs.declared.Stage.TheVariants.{Held}
use Rattle.history.specs.declared.Ticked.TheVariants.{Idle, Read, Failed}
use Rattle.history.specs.Bench.{Valid, World, lane_at}
use Rattle.history.specs.Calls.{Answer, refused, done, ticked, leased, shown, reported, new, admit, show}
use Rattle.history.specs.Told.{Call, admits, ticks, takes, gives, closes, after, answers}

abbrev pub block : ℕ → Block
block f = record { bytes = replicate 64 7; coming = failures f }

-- six blocks, the last with one failure to come
abbrev pub bed : World
bed = new 0 (replicate 5 (block 0) ++ block 1 ∷ []) (replicate 2048 0)

-- ORDERS

-- n blocks from the disk's first on for head h, from slot s on, a block a slot, through two buffers, with k spare attempts
abbrev pub order : ℕ → ℕ → ℕ → ℕ → Asked
order h n s k = record { head = h; first = 0; timing = record { count = n; start = s; period = 1; depth = 2; spare = k } }

abbrev pub crowded : ℕ → ℕ → Answer
crowded l h = refused (6 ∷ l ∷ h ∷ [])

-- the answers to orders, one after the other, on a new bench
abbrev pub admissions : World → List Asked → List Answer
admissions w [] = []
admissions w (o ∷ os) = (admit w o).1 ∷ admissions (admit w o).0 os

pub record Trial : Type 0 where
  pub orders : List Asked
  pub answers : List Answer

abbrev pub trials : List Trial
trials =
    record { orders = order 0 2 2 0 ∷ order 1 2 2 0 ∷ []; answers = done ∷ crowded 0 3 ∷ [] }
    ∷ record { orders = order 0 2 2 0 ∷ order 1 2 3 0 ∷ []; answers = done ∷ done ∷ [] }
    ∷ record { orders = order 0 3 10 0 ∷ order 1 3 10 0 ∷ []; answers = done ∷ crowded 11 12 ∷ [] }
    ∷ record { orders = order 0 3 10 0 ∷ order 1 3 11 0 ∷ []; answers = done ∷ done ∷ [] }
    ∷ record { orders = order 0 1 2 1 ∷ []; answers = done ∷ [] }
    ∷ record { orders = order 0 1 2 2 ∷ []; answers = crowded 0 2 ∷ [] }
    ∷ record { orders = order 0 1 0 0 ∷ []; answers = crowded 0 0 ∷ [] }
    ∷ []

-- every trial is answered as the table says
abbrev pub TrialsHold : Type 0
TrialsHold = map (λ t. admissions bed t.orders) trials ≡ map (λ t. t.answers) trials

-- A JOB

-- blocks 4 and 5 for head 0 from slot 3 on, a block every second slot, with one spare attempt
abbrev pub job : Asked
job = record { head = 0; first = 4; timing = record { count = 2; start = 3; period = 2; depth = 2; spare = 1 } }

-- the fault that the disk tells
abbrev pub fault : Fault
fault = record { kind = ReadFailed; tag = 3; block = 5 }

abbrev pub slot : Call
slot = ticks fault

abbrev pub job_calls : Valid job → List Call
job_calls v =
    admits job v ∷ slot ∷ slot ∷ slot
    ∷ takes 0 0 1 false ∷ slot
    ∷ gives 1 0 ∷ slot
    ∷ takes 0 1 1 false ∷ slot ∷ slot
    ∷ closes 0 ∷ []

abbrev pub job_answers : List Answer
job_answers =
    done ∷ ticked (Read 0 0) ∷ ticked (Failed 0 1 1 fault) ∷ ticked (Read 0 1)
    ∷ leased 0 ∷ ticked Idle
    ∷ done ∷ ticked Idle
    ∷ leased 0 ∷ ticked Idle ∷ ticked Idle
    ∷ reported (record { stage = Held; next = 2; failed = 0 }) ∷ []

pub record JobDone (v : Valid job) : Type 0 where
  pub answers : answers bed (job_calls v) ≡ job_answers
  pub now : (after bed (job_calls v)).now ≡ 7
  pub attempts : (after bed (job_calls v)).attempts ≡ 3
  pub failures : (after bed (job_calls v)).failures ≡ 1
  -- the lease on its last block was not given back by the end of the burn
  pub cause : (lane_at (after bed (take 11 (job_calls v))).lanes 0).stage ≡ Held
  pub shown : (show (after bed (job_calls v)) 1 0).1 ≡ shown (replicate 64 7)
