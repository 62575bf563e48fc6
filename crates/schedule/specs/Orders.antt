-- An order's blocks, and what the lanes of a bench charge: a window for each attempt that is still owed.
use Rattle.std.specs.Prelude.{ℕ, ◌+◌, ◌-◌, ◌*◌, ◌≤◌, cond, List, map, ◌==◌, nat_lt}
use Rattle.windows.specs.Lanes.{Lane, attempts}
use Rattle.windows.specs.Windows.{Window, since}
use Rattle.schedule.specs.declared.Timing.{Timing}
use Rattle.schedule.specs.declared.Work.{Work}

-- the limits of an order
pub record WithinLimits (o : Timing) : Type 0 where
  pub count_some : 1 ≤ o.count
  pub count_most : o.count ≤ 4096
  pub start_most : o.start ≤ 1000000
  pub period_some : 1 ≤ o.period
  pub period_most : o.period ≤ 10000
  pub depth_least : 2 ≤ o.depth
  pub depth_most : o.depth ≤ 8
  pub spare_most : o.spare ≤ 15
  pub ends : o.start + o.count * o.period ≤ 1000000

-- block i burns from its deadline up to, not including, the deadline of the next one
abbrev pub deadline : Timing → ℕ → ℕ
deadline o i = o.start + i * o.period

abbrev pub burn : Timing → ℕ → Window
burn o i = record { start = deadline o i; end = deadline o (i + 1) }

-- the first slot at which block i may be read, where the lane was admitted at slot a: the end of the burn of block
-- i - depth, whose buffer it takes
abbrev pub release : Timing → ℕ → ℕ → ℕ
release o a i = cond (nat_lt i o.depth) a (o.start + (i - o.depth + 1) * o.period)

-- what can be left of a lane
pub record Proper (w : Work) : Type 0 where
  pub timing : WithinLimits w.timing
  pub admitted : w.admitted ≤ w.timing.start
  pub next : w.next ≤ w.timing.count
  pub failed : w.failed ≤ w.timing.spare

-- the attempts still owed to block i: one and the spare ones, less those that failed on the lowest unread block
abbrev pub owed : Work → ℕ → ℕ
owed w i = cond (nat_lt i w.next) 0 (1 + w.timing.spare - cond (i == w.next) w.failed 0)

abbrev pub lane : Work → Lane
lane w = record { blocks = w.timing.count; release = release w.timing w.admitted; deadline = deadline w.timing; owed = owed w }

-- the charged attempts at slot t: the window of each runs from the larger of t and its block's release up to, not
-- including, its block's deadline
abbrev pub charged : ℕ → List Work → List Window
charged t ws = since t (attempts (map lane ws))
