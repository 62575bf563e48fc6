-- A bench at one moment: its lanes, leases, disk and pool, the buffers that are free, and what its live lanes charge.
use Rattle.std.specs.Prelude.{◌≡◌, ℕ, ◌+◌, ◌*◌, ◌%◌, ◌<◌, Bool, true, false, cond, not, ◌&&◌, ◌||◌, List, [], ◌∷◌, ◌++◌, take, drop, Some, None, filter, Option, ◌==◌, nat_eq, slice_index, slice_index_or}
use Rattle.std.specs.List.{range_with_len}
use Rattle.disk.specs.Meaning.{Block}
use Rattle.schedule.specs.Orders.{WithinLimits, burn}
use Rattle.schedule.specs.declared.Timing.{Timing}
use Rattle.schedule.specs.declared.Work.{Work}
use Rattle.history.specs.declared.Asked.{Asked}
use Rattle.history.specs.declared.Lane.{Lane}
use Rattle.history.specs.declared.Lease.{Lease}
use Rattle.history.specs.declared.Stage.{Stage}
use Rattle.history.specs.declared.Stage.TheVariants.{Live, Finished, Faulted, Held, Closed}

-- the limits of every order
pub record Valid (o : Asked) : Type 0 where
  pub head : o.head < 8
  pub first : o.first < 4096
  pub timing : WithinLimits o.timing

-- the bench of that number at slot now, with its eight heads, its sixteen leases, its disk, its pool, and its tallies of
-- attempts and of those that failed
pub record World : Type 0 where
  pub number : ℕ
  pub now : ℕ
  pub lanes : List (Option Lane)
  pub leases : List (Option Lease)
  pub disk : List Block
  pub pool : List ℕ
  pub attempts : ℕ
  pub failures : ℕ

-- p of what is there, if something is
abbrev pub some_and : {A : Type 0} → (A → Bool) → Option A → Bool
some_and p None = false
some_and p (Some a) = p a

abbrev pub any : {A : Type 0} → (A → Bool) → List (Option A) → Bool
any p [] = false
any p (o ∷ os) = some_and p o || any p os

-- LANES AND LEASES

abbrev pub is_live : Stage → Bool
is_live Live = true
is_live Finished = false
is_live (Faulted f) = false
is_live Held = false
is_live Closed = false

-- some lane is live
abbrev pub running : List (Option Lane) → Bool
running ls = any (λ l. is_live l.stage) ls

-- what stands for the lane of a head that has none: one that has ended
abbrev pub no_lane : Lane
no_lane = record {
  order = record { head = 0; first = 0; timing = record { count = 0; start = 0; period = 0; depth = 0; spare = 0 } };
  admitted = 0;
  next = 0;
  failed = 0;
  stage = Finished;
  buffers = [];
}

abbrev pub lane_in : Option Lane → Lane
lane_in None = no_lane
lane_in (Some l) = l

abbrev pub lane_at : List (Option Lane) → ℕ → Lane
lane_at ls h = lane_in (slice_index_or ls h None)

-- lease number m is out, as e
abbrev pub Out : List (Option Lease) → ℕ → Lease → Type 0
Out es m e = slice_index_or es m None ≡ Some e

-- the slot at which the burn of block i has ended
abbrev pub burn_end : Timing → ℕ → ℕ
burn_end o i = (burn o i).end

-- BUFFERS

-- the buffers of a lane that is live
abbrev pub own_buffers : Lane → List ℕ
own_buffers l = take l.order.timing.depth l.buffers

-- the buffer of block i
abbrev pub buffer_of : Lane → ℕ → ℕ
buffer_of l i = slice_index l.buffers (i % l.order.timing.depth)

abbrev pub bytes_in : List ℕ → ℕ → List ℕ
bytes_in pool x = take 64 (drop (64 * x) pool)

abbrev pub written : List ℕ → ℕ → List ℕ → List ℕ
written pool x bytes = take (64 * x) pool ++ (bytes ++ drop (64 * x + 64) pool)

abbrev pub has : ℕ → List ℕ → Bool
has x [] = false
has x (y ∷ ys) = x == y || has x ys

-- a live lane has buffer x, or a lease is out on it
abbrev pub in_use : List (Option Lane) → List (Option Lease) → ℕ → Bool
in_use ls es x = any (λ l. is_live l.stage && has x (own_buffers l)) ls || any (λ e. nat_eq x e.buffer) es

-- the other buffers of the 32, by rising number
unfoldable pub free : List (Option Lane) → List (Option Lease) → List ℕ
free ls es = filter (λ x. not (in_use ls es x)) (range_with_len 0 32)

-- WHAT IS CHARGED

-- what is left of a lane
abbrev pub work : Lane → Work
work l = record { timing = l.order.timing; admitted = l.admitted; next = l.next; failed = l.failed }

-- what is left of each live lane, by rising head
abbrev pub works : List (Option Lane) → List Work
works [] = []
works (None ∷ ls) = works ls
works (Some l ∷ ls) = cond (is_live l.stage) (work l ∷ works ls) (works ls)
