-- What the parts of a tick do: the requests that are put, and one read.
use Rattle.std.specs.Prelude.{◌≡◌, ℕ, suc, ◌+◌, ◌-◌, ◌%◌, ◌<◌, ◌≤◌, Bool, true, false, cond, ◌&&◌, List, length, Some, None, Ok, Err, Option, Result, ◌==◌, nat_le, slice_index_or}
use Rattle.refusal.specs.declared.Fault.{Fault}
use Rattle.refusal.specs.declared.FaultKind.TheVariants.{ReadFailed}
use Rattle.refusal.specs.declared.Refusal.{Refusal}
use Rattle.disk.specs.Meaning.{Block, block_at, read_number, read_after}
use Rattle.queue.specs.declared.ordered.Ordered.{Ghosts}
use Rattle.queue.specs.declared.state.Queue.{Queue}
use Rattle.queue.specs.declared.request.ReadRequest.{ReadRequest}
use Rattle.queue.specs.Held.{held, room}
use Rattle.queue.specs.Keys.{by_keys}
use Rattle.queue.specs.Requests.{request_keys}
use Rattle.schedule.specs.declared.Timing.{Timing}
use Rattle.history.specs.declared.Event.TheVariants.{FailedAttempt, BlockRead}
use Rattle.history.specs.declared.Lane.{Lane}
use Rattle.history.specs.declared.Tick.{Tick}
use Rattle.history.specs.declared.Ticked.{Ticked}
use Rattle.history.specs.declared.Ticked.TheVariants.{Idle, Read, Failed}
use Rattle.history.specs.Bench.{is_live, lane_at, buffer_of, written}
use Rattle.history.specs.Calls.{due, happens, next_block, next_deadline, how_ended}
use Rattle.history.specs.declared.Cause.{Cause}
use Rattle.history.specs.Requests.{Requested}

-- THE CHOICE

abbrev pub request_before : ReadRequest → ReadRequest → Bool
request_before = by_keys request_keys

abbrev pub deadline_of : ReadRequest → ℕ
deadline_of q = q.deadline

abbrev pub head_of : ReadRequest → ℕ
head_of q = q.head

-- q is the request of the lane l of head h, which is due at slot t
pub record RequestOf (t h : ℕ) (l : Lane) (q : ReadRequest) : Type 0 where
  pub is_due : due t l ≡ true
  pub head : q.head ≡ h
  pub deadline : q.deadline ≡ next_deadline l

-- a queue to which head h, with o on it, was offered: its request is put if its lane is due
pub record Offered {G : Ghosts ReadRequest} (t h : ℕ) (o : Option Lane) (q q' : Queue ReadRequest G) : Type 0 where
  pub room : room q' ≡ room q
  pub few : length (held q') ≤ suc (length (held q))
  pub requested : (ls : List (Option Lane)) → slice_index_or ls h None ≡ o → Requested deadline_of head_of t ls h (held q) → Requested deadline_of head_of t ls (h + 1) (held q')

-- head and deadline of a request
abbrev pub chosen_by : Option ReadRequest → Option (ℕ × ℕ)
chosen_by None = None
chosen_by (Some q) = Some (q.head, q.deadline)

-- THE READ

-- what stands for the fault where there is none
abbrev pub no_fault : Fault
no_fault = record { kind = ReadFailed; tag = 0; block = 0 }

-- the fault that an answer tells
abbrev pub fault_in : Ticked → Fault
fault_in Idle = no_fault
fault_in (Read h i) = no_fault
fault_in (Failed h i a f) = f

abbrev pub tick_fault : Result Tick Refusal → Fault
tick_fault (Ok t) = fault_in t.did
tick_fault (Err e) = no_fault

abbrev pub failures_in : Ticked → ℕ
failures_in Idle = 0
failures_in (Read h i) = 0
failures_in (Failed h i a f) = 1

-- if the answer tells a fault, it is of head h and one of P
abbrev pub FaultAt : ℕ → (Fault → Type 0) → Ticked → Type 0
FaultAt h P Idle = Unit {0}
FaultAt h P (Read g i) = Unit {0}
FaultAt h P (Failed g i a f) = (g ≡ h) × P f

-- if a tick tells a fault, it is one of the disk's for the lowest unread block of the head that it tells
abbrev pub ToldFrom : (ℕ → Fault → Type 0) → List (Option Lane) → Result Ticked Refusal → Type 0
ToldFrom P ls (Ok Idle) = Unit {0}
ToldFrom P ls (Ok (Read h i)) = Unit {0}
ToldFrom P ls (Ok (Failed h i a f)) = P (next_block (lane_at ls h)) f
ToldFrom P ls (Err e) = Unit {0}

abbrev pub ToldBy : (ℕ → Fault → Type 0) → List (Option Lane) → Ticked → Type 0
ToldBy P ls r = ToldFrom P ls (Ok r)

abbrev pub TickToldFrom : (ℕ → Fault → Type 0) → List (Option Lane) → Result Tick Refusal → Type 0
TickToldFrom P ls (Ok t) = ToldBy P ls t.did
TickToldFrom P ls (Err e) = Unit {0}

-- the lowest unread block of l reads from the disk m
abbrev pub readable : List Block → Lane → Bool
readable m l = read_number m (next_block l) 64 == 0

-- one read for the lane l of head h, from the disk m into the pool mem, answers r; disk, lane and pool after it
pub record Attempted (m : List Block) (l : Lane) (h : ℕ) (mem : List ℕ) (r : Ticked) (m' : List Block) (l' : Lane) (mem' : List ℕ) : Type 0 where
  pub answer : r ≡ cond (readable m l) (Read h l.next) (Failed h l.next (suc l.failed) (fault_in r))
  pub lane : l' ≡ cond (readable m l) (happens l BlockRead) (happens l (FailedAttempt (fault_in r)))
  pub disk : m' ≡ read_after m (next_block l) 64
  pub pool : mem' ≡ cond (readable m l) (written mem (buffer_of l l.next) (block_at m (next_block l)).bytes) mem

-- THE LANES THAT END

-- bs are true of the heads that have a live lane
abbrev pub Alive : List (Option Lane) → List Bool → Type 0
Alive ls bs = (h : ℕ) → h < 8 → slice_index_or bs h false ≡ is_live (lane_at ls h).stage

-- r tells how the lanes that were live have ended, now that lanes are ls
abbrev pub EndedSince : List Bool → List (Option Lane) → List (Option Cause) → Type 0
EndedSince was ls r = (h : ℕ) → h < 8 → slice_index_or r h None ≡ how_ended (slice_index_or was h false) (slice_index_or ls h None)

-- THE BURNS THAT END

-- slot t is a whole number of periods after the start
abbrev pub may_end : ℕ → Timing → Bool
may_end t o = nat_le o.start t && (t - o.start) % o.period == 0
