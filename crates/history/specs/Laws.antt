-- What holds after every history of calls on a new bench.
use Rattle.std.specs.Prelude.{◌≡◌, ℕ, suc, ◌+◌, ◌<◌, ◌≤◌, Bool, true, false, cond, ◌&&◌, List, [], ◌∷◌, ◌++◌, length, get_or, Some, None, Option, MatchOption, ◌≢◌, nat_lt, slice_index_or}
use Rattle.refusal.specs.declared.Fault.{Fault}
use Rattle.refusal.specs.declared.Refusal.TheVariants.{Crowded, NotHeld}
use Rattle.disk.specs.Meaning.{Block, ToCome, failures, dead, block_at, Proper}
use Rattle.windows.specs.Windows.{Window, Assigned, FirstOverfull}
use Rattle.schedule.specs.Choice.{Choice}
use Rattle.schedule.specs.Orders.{deadline, release}
use Rattle.history.specs.declared.Asked.{Asked}
use Rattle.history.specs.declared.Lane.{Lane}
use Rattle.history.specs.declared.Lease.{Lease}
use Rattle.history.specs.declared.Ticked.{Ticked}
use Rattle.history.specs.declared.Ticked.TheVariants.{Idle, Read, Failed}
use Rattle.history.specs.Bench.{Valid, World, is_live, lane_at, Out, burn_end, buffer_of, free}
use Rattle.history.specs.Calls.{Slip, Answer, refused, done, ticked, leased, slipped, shown, reported, refuse, charged_with, due, next_deadline, choice, there, new, lease_told, honours, tick, admit, take_block, show, show_slip, give, give_slip, close, report}
use Rattle.history.specs.Told.{Call, admits, ticks, takes, gives, gives_slip, closes, call, after, answers, Told, lane_of, granted, told, tally, attempt_made, attempt_failed, of_tick}

-- a disk, and a pool of 2,048 bytes, whatever they hold
pub record Start (disk : List Block) (pool : List ℕ) : Type 0 where
  pub proper : Proper disk
  pub size : length pool ≡ 2048

-- ORDERS

-- the checks before Crowded, of what is told: the head has no lane, the order does not start before now, its blocks are
-- on the disk of that size, and there are buffers enough that no live lane has and no lease is out on
pub record PassesEarlierChecks (size : ℕ) (t : Told) (o : Asked) : Type 0 where
  pub head : get_or t.lanes o.head None ≡ None
  pub start : t.now ≤ o.timing.start
  pub on_disk : o.first + o.timing.count ≤ size
  pub buffers : o.timing.depth ≤ length (free t.lanes t.leases)

-- an assignment gives each attempt a slot in its window, and no slot twice
abbrev pub Assignable : List Window → Type 0
Assignable ws = (ss : List ℕ) × Assigned ws ss

-- An order that passes the earlier checks is refused as Crowded exactly when no assignment gives every charged attempt,
-- its own included, a slot in its window; and then with the overfull span of smallest end and then largest start.
abbrev pub CrowdedExactlyWhenNoAssignment : ℕ → List Block → List ℕ → Type 0
CrowdedExactlyWhenNoAssignment number disk pool =
    let w : World = new number disk pool in
    (cs : List Call) (o : Asked) → Valid o → PassesEarlierChecks (length disk) (told w cs) o
    → let ws : List Window = charged_with (told w cs).now (told w cs).lanes o in
    (Assignable ws → (admit (after w cs) o).1 ≡ done)
    × ((Assignable ws → ⊥) → (l h : ℕ) × ((admit (after w cs) o).1 ≡ refuse (Crowded (record { l = l; h = h }))) × FirstOverfull ws (l, h))

-- BLOCKS

-- at most k failures to come
abbrev pub AtMost : ℕ → ToCome → Type 0
AtMost k (failures f) = f ≤ k
AtMost k dead = ⊥

abbrev pub count_out : List (Option Lease) → ℕ
count_out [] = 0
count_out (None ∷ es) = count_out es
count_out (Some e ∷ es) = suc (count_out es)

-- the lane of order o, admitted after the calls `before`, at the end of the calls `since` then
module _ (number : ℕ) (disk : List Block) (pool : List ℕ) (before : List Call) (o : Asked) (v : Valid o) where
  abbrev pub upto : List Call → List Call
  upto cs = before ++ admits o v ∷ cs

  -- no block of it had more failures to come than its spare attempts
  abbrev pub SpareEnough : Type 0
  SpareEnough = (i : ℕ) → i < o.timing.count → AtMost o.timing.spare (block_at (told (new number disk pool) before).disk (o.first + i)).coming

  -- no call closed it
  abbrev pub NeverClosed : List Call → Type 0
  NeverClosed since = (x y : List Call) → since ≡ x ++ closes o.head ∷ y
      → granted (close (after (new number disk pool) (upto x)) o.head).1 ≢ true

  -- none of its leases was still out when its block's burn ended
  abbrev pub NeverHeld : List Call → Type 0
  NeverHeld since = (x y : List Call) → since ≡ x ++ y
      → let t : Told = told (new number disk pool) (upto x) in
      (m : ℕ) (e : Lease) → Out t.leases m e → e.head ≡ o.head → e.admitted ≡ (told (new number disk pool) before).now
      → t.now < burn_end o.timing e.index

-- Then, while the burn of one of its blocks lasts and fewer than sixteen leases are out, take of that block is granted to
-- every party.
abbrev pub TakenWhileItBurns : ℕ → List Block → List ℕ → Type 0
TakenWhileItBurns number disk pool =
    let w : World = new number disk pool in
    (before : List Call) (o : Asked) (v : Valid o) (since : List Call)
    → let t : Told = told w (upto number disk pool before o v since) in
    (admit (after w before) o).1 ≡ done
    → SpareEnough number disk pool before o v → NeverClosed number disk pool before o v since → NeverHeld number disk pool before o v since
    → (i party : ℕ) (slip : Bool) → i < o.timing.count → party ≤ 3
    → deadline o.timing i ≤ t.now → t.now < burn_end o.timing i → count_out t.leases < 16
    → (m : ℕ) × ((take_block (after w (upto number disk pool before o v since)) o.head i party slip).1 ≡ lease_told number m party slip)

-- Show of a lease that is out, by its slip if it has one and else by its party, answers the bytes that the disk holds for
-- its block: those of the disk that the bench began with, and still those of the disk as it is now.
abbrev pub ShownAsOnDisk : ℕ → List Block → List ℕ → Type 0
ShownAsOnDisk number disk pool =
    let w : World = new number disk pool in
    (cs : List Call) (m : ℕ) (e : Lease) → Out (told w cs).leases m e
    → (e.block < length disk)
    × (e.slip ≡ false → (show (after w cs) e.party m).1 ≡ shown (block_at disk e.block).bytes)
    × (e.slip ≡ true
    → (show_slip (after w cs) (record { lease = m; bench = number; party = e.party })).1 ≡ shown (block_at disk e.block).bytes)
    × ((block_at (told w cs).disk e.block).bytes ≡ (block_at disk e.block).bytes)

-- A lease that was taken by slip is neither shown nor given by its number, and the slip of another bench does neither.
abbrev pub BySlipAlone : ℕ → List Block → List ℕ → Type 0
BySlipAlone number disk pool =
    let w : World = new number disk pool in
    (cs : List Call)
    → ((m party : ℕ) (e : Lease) → Out (told w cs).leases m e → e.slip ≡ true → party ≤ 3
    → ((show (after w cs) party m).1 ≡ refuse NotHeld) × ((give (after w cs) party m).1 ≡ refuse NotHeld))
    × ((s : Slip) → (s.bench ≢ number) → ((show_slip (after w cs) s).1 ≡ refuse NotHeld) × ((give_slip (after w cs) s).1 ≡ refuse NotHeld))

-- another call than the give of that lease by slip
abbrev pub GivesNot : ℕ → Call → Type 0
GivesNot m (gives_slip s) = s.lease ≡ m → ⊥
GivesNot m (admits o v) = Unit {0}
GivesNot m (ticks f) = Unit {0}
GivesNot m (takes h i party slip) = Unit {0}
GivesNot m (gives party n) = Unit {0}
GivesNot m (closes h) = Unit {0}

-- A slip is honoured until it is given back, whatever is called between, and one that is honoured can be given back.
abbrev pub HonouredUntilGiven : Type 0
HonouredUntilGiven = (w : World) (s : Slip) → honours w s ≡ true
    → ((give_slip w s).1 ≡ done) × ((c : Call) → GivesNot s.lease c → honours (call w c).0 s ≡ true)

-- A lease that is out was taken in a lane that was admitted before now: head and slot of admission tell that lane from
-- every later one of the head.
abbrev pub SlotTellsLane : ℕ → List Block → List ℕ → Type 0
SlotTellsLane number disk pool =
    let w : World = new number disk pool in
    (cs : List Call) (m : ℕ) (e : Lease) → Out (told w cs).leases m e → e.admitted < (told w cs).now

-- TICKS

-- of the lanes L that are due, that of head h has the earliest deadline, ties to the lower head; its lowest unread block is i
abbrev pub Earliest : ℕ → (ℕ → Lane) → ℕ → ℕ → Type 0
Earliest now L h i = (due now (L h) ≡ true) × ((L h).next ≡ i)
    × ((g : ℕ) → due now (L g) ≡ true → (next_deadline (L h) ≤ next_deadline (L g)) × (next_deadline (L h) ≡ next_deadline (L g) → h ≤ g))

abbrev pub ServesTicked : ℕ → (ℕ → Lane) → Ticked → Type 0
ServesTicked now L Idle = (g : ℕ) → due now (L g) ≡ false
ServesTicked now L (Read h i) = Earliest now L h i
ServesTicked now L (Failed h i a f) = Earliest now L h i × (a ≡ suc (L h).failed)

-- what a tick's answer says of the lanes before it
abbrev pub Serves : ℕ → (ℕ → Lane) → Answer → Type 0
Serves now L (ticked x) = ServesTicked now L x
Serves now L (refused ns) = now ≡ 1000000
Serves now L done = ⊥
Serves now L (leased m) = ⊥
Serves now L (slipped s) = ⊥
Serves now L (shown b) = ⊥
Serves now L (reported r) = ⊥

-- The read of each slot is that of the earliest deadline, ties to the lower head; the slot is idle only where no lane is
-- due, and a tick is refused only at the last slot.
abbrev pub ReadsEarliestDeadline : ℕ → List Block → List ℕ → Type 0
ReadsEarliestDeadline number disk pool =
    let w : World = new number disk pool in
    (cs : List Call) (f : Fault) → Serves (told w cs).now (lane_of (told w cs)) (tick (after w cs) f).1

-- when head j's lowest unread block may be read; not by slot t where there is none
abbrev pub ready : ℕ → List (Option Lane) → ℕ → ℕ
ready t ls j =
    let l : Lane = lane_at ls j in
    cond (is_live l.stage && nat_lt l.next l.order.timing.count) (release l.order.timing l.admitted l.next) (suc t)

-- Tick's choice is that of the deadline-driven rule.
abbrev pub ChoiceIsTheRule : Type 0
ChoiceIsTheRule = (t : ℕ) (ls : List (Option Lane))
    → MatchOption (choice t ls) ((j : ℕ) → t < ready t ls j) (λ c. Choice t (length ls) (ready t ls) (λ j. next_deadline (lane_at ls j)) c.0)

-- The tally of attempts is the number of ticks that answered read or failed, and that of failed attempts the number of
-- those that answered failed.
abbrev pub TalliesCountTicks : ℕ → List Block → List ℕ → Type 0
TalliesCountTicks number disk pool =
    let w : World = new number disk pool in
    (cs : List Call)
    → ((after w cs).attempts ≡ tally (of_tick attempt_made) (answers w cs))
    × ((after w cs).failures ≡ tally (of_tick attempt_failed) (answers w cs))

-- REFUSALS AND BUFFERS

-- A refused call leaves everything unaltered.
abbrev pub RefusedAltersNothing : Type 0
RefusedAltersNothing = (w : World) (c : Call) (ns : List ℕ) → (call w c).1 ≡ refused ns → (call w c).0 ≡ w

-- Neither a show nor a report alters anything.
abbrev pub LooksAlterNothing : Type 0
LooksAlterNothing = (w : World)
    → ((party m : ℕ) → (show w party m).0 ≡ w) × ((s : Slip) → (show_slip w s).0 ≡ w) × ((h : ℕ) → (report w h).0 ≡ w)

-- no two blocks that are there lie in one buffer
abbrev pub BlocksApart : Told → Type 0
BlocksApart t = (h g i j : ℕ) → there t.now (lane_of t h) i ≡ true → there t.now (lane_of t g) j ≡ true
    → buffer_of (lane_of t h) i ≡ buffer_of (lane_of t g) j → (h ≡ g) × (i ≡ j)

-- where a block that is there lies in the buffer of a lease that is out, the lease was taken in that lane on that block
abbrev pub LeasesOnTheirBlocks : Told → Type 0
LeasesOnTheirBlocks t = (m h i : ℕ) (e : Lease) → Out t.leases m e → there t.now (lane_of t h) i ≡ true
    → buffer_of (lane_of t h) i ≡ e.buffer → (e.head ≡ h) × (e.admitted ≡ (lane_of t h).admitted) × (e.index ≡ i)

-- Neither buffers nor leases are shared: besides, a take answers a lease number that was not out.
abbrev pub NothingShared : ℕ → List Block → List ℕ → Type 0
NothingShared number disk pool =
    let w : World = new number disk pool in
    (cs : List Call) → BlocksApart (told w cs) × LeasesOnTheirBlocks (told w cs)
    × ((h i party m : ℕ) (slip : Bool) → (take_block (after w cs) h i party slip).1 ≡ lease_told number m party slip → slice_index_or (told w cs).leases m None ≡ None)

-- what the call that performs a list of calls on a new bench promises
pub record BenchLaws (number : ℕ) (disk : List Block) (pool : List ℕ) : Type 0 where
  pub crowded_law : CrowdedExactlyWhenNoAssignment number disk pool
  pub taken_law : TakenWhileItBurns number disk pool
  pub shown_law : ShownAsOnDisk number disk pool
  pub slip_law : BySlipAlone number disk pool
  pub honoured_law : HonouredUntilGiven
  pub lane_law : SlotTellsLane number disk pool
  pub rule_law : ReadsEarliestDeadline number disk pool
  pub choice_law : ChoiceIsTheRule
  pub tally_law : TalliesCountTicks number disk pool
  pub refused_law : RefusedAltersNothing
  pub looks_law : LooksAlterNothing
  pub shared_law : NothingShared number disk pool
