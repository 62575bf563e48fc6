-- The calls of a bench, each with its checks in order.
use Rattle.std.specs.Prelude.{ℕ, suc, ◌+◌, ◌-◌, Bool, true, false, cond, not, ◌&&◌, ◌||◌, List, [], ◌∷◌, ◌++◌, map, length, take, replicate, is_some, Some, None, Ok, Err, Option, Result, ◌==◌, nat_le, nat_lt, slice_index_or, slice_set}
use Rattle.std.specs.List.{range_with_len}
use Rattle.refusal.specs.Told.{told}
use Rattle.refusal.specs.declared.Fault.{Fault}
use Rattle.refusal.specs.declared.Refusal.{Refusal}
use Rattle.refusal.specs.declared.Refusal.TheVariants.{Bounds, HeadTaken, Past, OffDisk, PoolShort, Crowded, WrongSize, LastSlot, NotThere, LeasesOut, NotHeld, HeadEmpty}
use Rattle.disk.specs.Meaning.{Block, block_at, read_number, read_after}
use Rattle.windows.specs.Windows.{Window, tried}
use Rattle.schedule.specs.Orders.{deadline, release, charged}
use Rattle.schedule.specs.declared.Work.{Work}
use Rattle.history.specs.declared.Asked.{Asked}
use Rattle.history.specs.declared.Cause.{Cause}
use Rattle.history.specs.declared.Cause.TheVariants.{Live as CauseLive, Finished as CauseFinished, Faulted as CauseFaulted, Held as CauseHeld, Closed as CauseClosed}
use Rattle.history.specs.declared.Event.{Event}
use Rattle.history.specs.declared.Event.TheVariants.{FailedAttempt, BlockRead, BurnEnd, Close}
use Rattle.history.specs.declared.Lane.{Lane}
use Rattle.history.specs.declared.Lease.{Lease}
use Rattle.history.specs.declared.Report.{Report}
use Rattle.history.specs.declared.Stage.{Stage}
use Rattle.history.specs.declared.Stage.TheVariants.{Live, Finished, Faulted, Held, Closed}
use Rattle.history.specs.declared.Ticked.{Ticked}
use Rattle.history.specs.declared.Ticked.TheVariants.{Idle, Read, Failed}
use Rattle.history.specs.Bench.{World, some_and, any, is_live, lane_in, lane_at, burn_end, buffer_of, bytes_in, written, free, works}

-- what a take by slip hands out: the lease, and the bench and the party that may show and give it
pub record Slip : Type 0 where
  pub lease : ℕ
  pub bench : ℕ
  pub party : ℕ

-- what a call answers; a refusal by its number and the values that come with it
pub data Answer : Type 0 where
  refused : List ℕ → Answer
  done : Answer
  ticked : Ticked → Answer
  leased : ℕ → Answer
  slipped : Slip → Answer
  shown : List ℕ → Answer
  reported : Report → Answer

abbrev pub refuse : Refusal → Answer
refuse r = refused (told r)

-- what is answered by a result: f of what it holds, or the refusal
abbrev pub answered : {T : Type 0} → (T → Answer) → Result T Refusal → Answer
answered f (Ok x) = f x
answered f (Err e) = refuse e

-- the first check that fails refuses, and leaves all as it is
abbrev pub checked : World → List (Bool × Answer) → World × Answer → World × Answer
checked w [] r = r
checked w (c ∷ cs) r = cond c.0 (w, c.1) (checked w cs r)

abbrev pub with_lanes : World → List (Option Lane) → World
with_lanes w ls = record {
  number = w.number;
  now = w.now;
  lanes = ls;
  leases = w.leases;
  disk = w.disk;
  pool = w.pool;
  attempts = w.attempts;
  failures = w.failures;
}

abbrev pub with_leases : World → List (Option Lease) → World
with_leases w es = record {
  number = w.number;
  now = w.now;
  lanes = w.lanes;
  leases = es;
  disk = w.disk;
  pool = w.pool;
  attempts = w.attempts;
  failures = w.failures;
}

-- a new bench: slot 0, no lane, no lease, tallies 0
abbrev pub new : ℕ → List Block → List ℕ → World
new number disk pool = record {
  number = number;
  now = 0;
  lanes = replicate 8 None;
  leases = replicate 16 None;
  disk = disk;
  pool = pool;
  attempts = 0;
  failures = 0;
}

-- WHAT HAPPENS TO A LANE

-- the lane with its lowest unread block, the failed attempts on it and its stage changed
abbrev pub moved : Lane → ℕ → ℕ → Stage → Lane
moved l i f s = record { order = l.order; admitted = l.admitted; next = i; failed = f; stage = s; buffers = l.buffers }

abbrev pub ended : Lane → Stage → Lane
ended l s = moved l l.next l.failed s

-- to one that is live: failure number 1 + spare on a block ends it, and so does a burn's end with a lease of the lane
-- out on that block, or else that of the last block
abbrev pub on_live : Lane → Event → Lane
on_live l (FailedAttempt f) = moved l l.next (suc l.failed) (cond (nat_lt l.failed l.order.timing.spare) l.stage (Faulted f))
on_live l BlockRead = moved l (suc l.next) 0 l.stage
on_live l (BurnEnd held last) = ended l (cond held Held (cond last Finished l.stage))
on_live l Close = ended l Closed

-- one that has ended stays as it is
abbrev pub happens : Lane → Event → Lane
happens l e = cond (is_live l.stage) (on_live l e) l

-- ADMIT

-- the lane of an order that is admitted now: the depth lowest of the free buffers, and zeros up to eight places
abbrev pub new_lane : ℕ → List ℕ → Asked → Lane
new_lane now frees o = record {
  order = o;
  admitted = now;
  next = 0;
  failed = 0;
  stage = Live;
  buffers = take o.timing.depth frees ++ replicate (8 - o.timing.depth) 0;
}

-- what is left of an order that is to be admitted now: all of it
abbrev pub new_work : ℕ → Asked → Work
new_work now o = record { timing = o.timing; admitted = now; next = 0; failed = 0 }

-- the attempts charged at slot now, the order's own first
abbrev pub charged_with : ℕ → List (Option Lane) → Asked → List Window
charged_with now ls o = charged now (new_work now o ∷ works ls)

abbrev pub span_told : Option (ℕ × ℕ) → Answer
span_told None = done
span_told (Some s) = refuse (Crowded (record { l = s.0; h = s.1 }))

abbrev pub before_crowded : World → Asked → List (Bool × Answer)
before_crowded w o =
    (is_some (slice_index_or w.lanes o.head None), refuse HeadTaken)
    ∷ (nat_lt o.timing.start w.now, refuse Past)
    ∷ (nat_lt (length w.disk) (o.first + o.timing.count), refuse OffDisk)
    ∷ (nat_lt (length (free w.lanes w.leases)) o.timing.depth, refuse PoolShort)
    ∷ []

-- the overfull span of smallest end and then largest start, if there is one
abbrev pub no_room : World → Asked → Bool × Answer
no_room w o = (is_some (tried (charged_with w.now w.lanes o)), span_told (tried (charged_with w.now w.lanes o)))

abbrev pub admit_checks : World → Asked → List (Bool × Answer)
admit_checks w o = before_crowded w o ++ no_room w o ∷ []

abbrev pub admitted : World → Asked → World
admitted w o = with_lanes w (slice_set w.lanes o.head (Some (new_lane w.now (free w.lanes w.leases) o)))

unfoldable pub admit : World → Asked → World × Answer
admit w o = checked w (admit_checks w o) (admitted w o, done)

-- TICK

-- a live lane's lowest unread block is released
abbrev pub due : ℕ → Lane → Bool
due now l = is_live l.stage && (nat_lt l.next l.order.timing.count && nat_le (release l.order.timing l.admitted l.next) now)

abbrev pub next_deadline : Lane → ℕ
next_deadline l = deadline l.order.timing l.next

-- the head before the others, whose deadline is d, or that of the others, counted from one earlier, if it is sooner
abbrev pub sooner : ℕ → Option (ℕ × ℕ) → Option (ℕ × ℕ)
sooner d None = Some (0, d)
sooner d (Some c) = cond (nat_lt c.1 d) (Some (suc c.0, c.1)) (Some (0, d))

abbrev pub later : Option (ℕ × ℕ) → Option (ℕ × ℕ)
later None = None
later (Some c) = Some (suc c.0, c.1)

-- the head of the earliest deadline among the lanes that are due, ties to the lower head, with that deadline
unfoldable pub choice : ℕ → List (Option Lane) → Option (ℕ × ℕ)
choice now [] = None
choice now (o ∷ os) = cond (due now (lane_in o)) (sooner (next_deadline (lane_in o)) (choice now os)) (later (choice now os))

abbrev pub next_block : Lane → ℕ
next_block l = l.order.first + l.next

-- one read for head h's lowest unread block, that succeeds
abbrev pub read_done : World → ℕ → Lane → World
read_done w h l = record {
  number = w.number;
  now = w.now;
  lanes = slice_set w.lanes h (Some (happens l BlockRead));
  leases = w.leases;
  disk = read_after w.disk (next_block l) 64;
  pool = written w.pool (buffer_of l l.next) (block_at w.disk (next_block l)).bytes;
  attempts = suc w.attempts;
  failures = w.failures;
}

-- and one that fails, with the fault f that the disk tells
abbrev pub read_failed : World → ℕ → Lane → Fault → World
read_failed w h l f = record {
  number = w.number;
  now = w.now;
  lanes = slice_set w.lanes h (Some (happens l (FailedAttempt f)));
  leases = w.leases;
  disk = read_after w.disk (next_block l) 64;
  pool = w.pool;
  attempts = suc w.attempts;
  failures = suc w.failures;
}

abbrev pub attempted : World → Fault → ℕ → Lane → World × Answer
attempted w f h l = cond (read_number w.disk (next_block l) 64 == 0)
    (read_done w h l, ticked (Read h l.next))
    (read_failed w h l f, ticked (Failed h l.next (suc l.failed) f))

-- a lease taken in this lane on a block whose burn ends at slot t
abbrev pub holds_up : ℕ → Lane → Lease → Bool
holds_up t l e = e.head == l.order.head && (e.admitted == l.admitted && burn_end l.order.timing e.index == t)

-- a lane at the new slot t, with the leases es out
abbrev pub aged : ℕ → List (Option Lease) → Lane → Lane
aged t es l = happens l (BurnEnd (any (holds_up t l) es) (deadline l.order.timing l.order.timing.count == t))

abbrev pub changed : {A : Type 0} → (A → A) → Option A → Option A
changed f None = None
changed f (Some a) = Some (f a)

abbrev pub all_aged : ℕ → List (Option Lease) → List (Option Lane) → List (Option Lane)
all_aged t es ls = map (changed (aged t es)) ls

-- one slot passes
abbrev pub passed : World → World
passed w = record {
  number = w.number;
  now = suc w.now;
  lanes = all_aged (suc w.now) w.leases w.lanes;
  leases = w.leases;
  disk = w.disk;
  pool = w.pool;
  attempts = w.attempts;
  failures = w.failures;
}

abbrev pub served : World → Fault → Option (ℕ × ℕ) → World × Answer
served w f None = (passed w, ticked Idle)
served w f (Some c) = let r : World × Answer = attempted w f c.0 (lane_at w.lanes c.0) in (passed r.0, r.1)

abbrev pub wrong_pool : World → Bool × Answer
wrong_pool w = (not (length w.pool == 2048), refuse WrongSize)

abbrev pub tick_checks : World → List (Bool × Answer)
tick_checks w = wrong_pool w ∷ ((w.now == 1000000), refuse LastSlot) ∷ []

-- f is the fault that the disk tells if the read fails
unfoldable pub tick : World → Fault → World × Answer
tick w f = checked w (tick_checks w) (served w f (choice w.now w.lanes))

-- TAKE

-- block i of a lane is there: the lane is live, the block is read and its burn has not ended
abbrev pub there : ℕ → Lane → ℕ → Bool
there now l i = is_live l.stage && (nat_lt i l.next && nat_lt now (burn_end l.order.timing i))

-- the lowest number that is free, or how many there are
abbrev pub vacant : List (Option Lease) → ℕ
vacant [] = 0
vacant (None ∷ es) = 0
vacant (Some e ∷ es) = suc (vacant es)

abbrev pub new_lease : Lane → ℕ → ℕ → ℕ → Bool → Lease
new_lease l h i party slip = record {
  party = party;
  head = h;
  admitted = l.admitted;
  index = i;
  block = l.order.first + i;
  buffer = buffer_of l i;
  slip = slip;
}

abbrev pub take_checks : World → ℕ → ℕ → ℕ → List (Bool × Answer)
take_checks w h i party =
    (nat_lt 7 h || (nat_lt 4095 i || nat_lt 3 party), refuse Bounds)
    ∷ (not (is_some (slice_index_or w.lanes h None)), refuse HeadEmpty)
    ∷ (not (there w.now (lane_at w.lanes h) i), refuse NotThere)
    ∷ (nat_le 16 (vacant w.leases), refuse LeasesOut)
    ∷ []

abbrev pub taken : World → ℕ → ℕ → ℕ → Bool → World
taken w h i party slip = with_leases w (slice_set w.leases (vacant w.leases) (Some (new_lease (lane_at w.lanes h) h i party slip)))

abbrev pub lease_told : ℕ → ℕ → ℕ → Bool → Answer
lease_told bench m party slip = cond slip (slipped (record { lease = m; bench = bench; party = party })) (leased m)

-- by slip or by number
unfoldable pub take_block : World → ℕ → ℕ → ℕ → Bool → World × Answer
take_block w h i party slip = checked w (take_checks w h i party) (taken w h i party slip, lease_told w.number (vacant w.leases) party slip)

-- SHOW AND GIVE, by number and by slip

-- lease m is out to that party, by slip or not
abbrev pub is_out : World → ℕ → ℕ → Bool → Bool
is_out w party m slip = some_and (λ e. (e.party == party) && cond slip e.slip (not e.slip)) (slice_index_or w.leases m None)

abbrev pub beyond : ℕ → ℕ → Bool × Answer
beyond party m = (nat_lt 3 party || nat_lt 15 m, refuse Bounds)

abbrev pub not_held : World → ℕ → ℕ → Bool × Answer
not_held w party m = (not (is_out w party m false), refuse NotHeld)

-- the slip is this bench's, and its lease is out by slip to its party
abbrev pub honours : World → Slip → Bool
honours w s = s.bench == w.number && is_out w s.party s.lease true

abbrev pub no_slip_of : World → Slip → Bool × Answer
no_slip_of w s = (not (s.bench == w.number && is_out w s.party s.lease true), refuse NotHeld)

abbrev pub buffer_in : Option Lease → ℕ
buffer_in None = 0
buffer_in (Some e) = e.buffer

abbrev pub shows : World → ℕ → Answer
shows w m = shown (bytes_in w.pool (buffer_in (slice_index_or w.leases m None)))

unfoldable pub show : World → ℕ → ℕ → World × Answer
show w party m = checked w (beyond party m ∷ wrong_pool w ∷ not_held w party m ∷ []) (w, shows w m)

unfoldable pub show_slip : World → Slip → World × Answer
show_slip w s = checked w (wrong_pool w ∷ no_slip_of w s ∷ []) (w, shows w s.lease)

abbrev pub given : World → ℕ → World
given w m = with_leases w (slice_set w.leases m None)

unfoldable pub give : World → ℕ → ℕ → World × Answer
give w party m = checked w (beyond party m ∷ not_held w party m ∷ []) (given w m, done)

unfoldable pub give_slip : World → Slip → World × Answer
give_slip w s = checked w (no_slip_of w s ∷ []) (given w s.lease, done)

-- CLOSE AND REPORT

abbrev pub cause_of : Stage → Cause
cause_of Live = CauseLive
cause_of Finished = CauseFinished
cause_of (Faulted f) = CauseFaulted
cause_of Held = CauseHeld
cause_of Closed = CauseClosed

abbrev pub cause_number : Cause → ℕ
cause_number CauseLive = 0
cause_number CauseFinished = 1
cause_number CauseFaulted = 2
cause_number CauseHeld = 3
cause_number CauseClosed = 4

abbrev pub report_of : Lane → Report
report_of l = record { stage = l.stage; next = l.next; failed = l.failed }

abbrev pub close_checks : World → ℕ → List (Bool × Answer)
close_checks w h = (nat_lt 7 h, refuse Bounds) ∷ (not (is_some (slice_index_or w.lanes h None)), refuse HeadEmpty) ∷ []

abbrev pub closed : World → ℕ → World
closed w h = with_lanes w (slice_set w.lanes h None)

unfoldable pub close : World → ℕ → World × Answer
close w h = checked w (close_checks w h) (closed w h, reported (report_of (happens (lane_at w.lanes h) Close)))

unfoldable pub report : World → ℕ → World × Answer
report w h = checked w (close_checks w h) (w, reported (report_of (lane_at w.lanes h)))

-- WHICH LANES A SLOT ENDED

-- how the lane of a head ended, if it did: whether it was live, and what it is now
abbrev pub how_ended : Bool → Option Lane → Option Cause
how_ended was None = None
how_ended was (Some l) = cond (was && not (is_live l.stage)) (Some (cause_of l.stage)) None

-- of each head, by rising number
abbrev pub ends : List (Option Lane) → List (Option Lane) → List (Option Cause)
ends ls ls' = map (λ h. how_ended (is_live (lane_at ls h).stage) (slice_index_or ls' h None)) (range_with_len 0 8)
