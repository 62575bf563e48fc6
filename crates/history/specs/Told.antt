-- What a list of calls and its answers tell of a bench, with no look inside it.
use Rattle.std.specs.Prelude.{ℕ, suc, ◌+◌, Bool, true, false, cond, List, [], ◌∷◌, replicate, Some, None, Option, slice_set}
use Rattle.refusal.specs.declared.Fault.{Fault}
use Rattle.disk.specs.Meaning.{Block, read_after}
use Rattle.history.specs.declared.Asked.{Asked}
use Rattle.history.specs.declared.Event.{Event}
use Rattle.history.specs.declared.Event.TheVariants.{FailedAttempt, BlockRead}
use Rattle.history.specs.declared.Lane.{Lane}
use Rattle.history.specs.declared.Lease.{Lease}
use Rattle.history.specs.declared.Ticked.{Ticked}
use Rattle.history.specs.declared.Ticked.TheVariants.{Idle, Read, Failed}
use Rattle.history.specs.Bench.{Valid, World, lane_at, free}
use Rattle.history.specs.Calls.{Slip, Answer, refused, done, ticked, leased, slipped, shown, reported, happens, new_lane, all_aged, new_lease, admit, tick, take_block, give, give_slip, close}

-- HISTORIES

-- a tick comes with the fault that the disk tells if its read fails
pub data Call : Type 0 where
  admits : (o : Asked) → Valid o → Call
  ticks : Fault → Call
  takes : (head block party : ℕ) (slip : Bool) → Call
  gives : (party lease : ℕ) → Call
  gives_slip : Slip → Call
  closes : (head : ℕ) → Call

abbrev pub call : World → Call → World × Answer
call w (admits o v) = admit w o
call w (ticks f) = tick w f
call w (takes h i party slip) = take_block w h i party slip
call w (gives party m) = give w party m
call w (gives_slip s) = give_slip w s
call w (closes h) = close w h

-- the bench after a list of calls
abbrev pub after : World → List Call → World
after w [] = w
after w (c ∷ cs) = after (call w c).0 cs

abbrev pub answers : World → List Call → List Answer
answers w [] = []
answers w (c ∷ cs) = (call w c).1 ∷ answers (call w c).0 cs

-- WHAT THEY TELL

-- the slot, the lanes, the leases out, and what the disk has come to
pub record Told : Type 0 where
  pub now : ℕ
  pub lanes : List (Option Lane)
  pub leases : List (Option Lease)
  pub disk : List Block

-- of a new bench over that disk
abbrev pub nothing : List Block → Told
nothing disk = record { now = 0; lanes = replicate 8 None; leases = replicate 16 None; disk = disk }

abbrev pub lane_of : Told → ℕ → Lane
lane_of t h = lane_at t.lanes h

abbrev pub put_lane : Told → ℕ → Option Lane → Told
put_lane t h o = record { now = t.now; lanes = slice_set t.lanes h o; leases = t.leases; disk = t.disk }

abbrev pub put_lease : Told → ℕ → Option Lease → Told
put_lease t m o = record { now = t.now; lanes = t.lanes; leases = slice_set t.leases m o; disk = t.disk }

-- a lane begins at its granted admit, with the lowest buffers that no live lane has and no lease is out on
abbrev pub begun : Told → Asked → Lane
begun t o = new_lane t.now (free t.lanes t.leases) o

-- the disk was asked for block i of head h's lane, and that lane has an event
abbrev pub asked_for : Told → ℕ → ℕ → Event → Told
asked_for t h i e = record {
  now = t.now;
  lanes = slice_set t.lanes h (Some (happens (lane_of t h) e));
  leases = t.leases;
  disk = read_after t.disk ((lane_of t h).order.first + i) 64;
}

-- one slot passes, and ends the lanes that it ends
abbrev pub pass : Told → Told
pass t = record { now = suc t.now; lanes = all_aged (suc t.now) t.leases t.lanes; leases = t.leases; disk = t.disk }

-- a tick tells of a block that is read, of an attempt that failed, or of neither
abbrev pub tell_ticked : Told → Ticked → Told
tell_ticked t Idle = pass t
tell_ticked t (Read h i) = pass (asked_for t h i BlockRead)
tell_ticked t (Failed h i a f) = pass (asked_for t h i (FailedAttempt f))

abbrev pub tell_tick : Told → Answer → Told
tell_tick t (ticked x) = tell_ticked t x
tell_tick t (refused ns) = t
tell_tick t done = t
tell_tick t (leased m) = t
tell_tick t (slipped s) = t
tell_tick t (shown b) = t
tell_tick t (reported r) = t

-- a take tells the number of the lease that is now out on its block
abbrev pub tell_take : Told → (ℕ → Told) → Answer → Told
tell_take t f (leased m) = f m
tell_take t f (slipped s) = f s.lease
tell_take t f (refused ns) = t
tell_take t f done = t
tell_take t f (ticked x) = t
tell_take t f (shown b) = t
tell_take t f (reported r) = t

-- an admit, a give or a close is granted
abbrev pub granted : Answer → Bool
granted done = true
granted (reported r) = true
granted (refused ns) = false
granted (ticked x) = false
granted (leased m) = false
granted (slipped s) = false
granted (shown b) = false

abbrev pub tell : Told → Call → Answer → Told
tell t (admits o v) a = cond (granted a) (put_lane t o.head (Some (begun t o))) t
tell t (ticks f) a = tell_tick t a
tell t (takes h i party slip) a = tell_take t (λ m. put_lease t m (Some (new_lease (lane_of t h) h i party slip))) a
tell t (gives party m) a = cond (granted a) (put_lease t m None) t
tell t (gives_slip s) a = cond (granted a) (put_lease t s.lease None) t
tell t (closes h) a = cond (granted a) (put_lane t h None) t

abbrev pub tell_all : Told → List Call → List Answer → Told
tell_all t [] as' = t
tell_all t (c ∷ cs) [] = t
tell_all t (c ∷ cs) (a ∷ as') = tell_all (tell t c a) cs as'

-- what a list of calls on a new bench tells
abbrev pub told : World → List Call → Told
told w cs = tell_all (nothing w.disk) cs (answers w cs)

-- the fault that a tick's answer tells, if its read failed
abbrev pub fault_in : Ticked → Option Fault
fault_in Idle = None
fault_in (Read h i) = None
fault_in (Failed h i a f) = Some f

abbrev pub fault_told : Answer → Option Fault
fault_told (ticked x) = fault_in x
fault_told (refused ns) = None
fault_told done = None
fault_told (leased m) = None
fault_told (slipped s) = None
fault_told (shown b) = None
fault_told (reported r) = None

-- the answers of which p holds
abbrev pub tally : (Answer → Bool) → List Answer → ℕ
tally p [] = 0
tally p (a ∷ as') = cond (p a) 1 0 + tally p as'

abbrev pub attempt_made : Ticked → Bool
attempt_made Idle = false
attempt_made (Read h i) = true
attempt_made (Failed h i a f) = true

abbrev pub attempt_failed : Ticked → Bool
attempt_failed Idle = false
attempt_failed (Read h i) = false
attempt_failed (Failed h i a f) = true

abbrev pub of_tick : (Ticked → Bool) → Answer → Bool
of_tick p (ticked x) = p x
of_tick p (refused ns) = false
of_tick p done = false
of_tick p (leased m) = false
of_tick p (slipped s) = false
of_tick p (shown b) = false
of_tick p (reported r) = false
