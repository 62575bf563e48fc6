-- What the type of a bench keeps of its lanes and leases, as tests, so that its calls are safe.
use Rattle.std.specs.Prelude.{ℕ, ◌+◌, ◌*◌, Bool, true, not, ◌&&◌, ◌||◌, List, [], ◌∷◌, Some, None, Option, nat_le, nat_lt}
use Rattle.schedule.specs.declared.Timing.{Timing}
use Rattle.history.specs.Bench.{is_live}
use Rattle.history.specs.declared.Asked.{Asked}
use Rattle.history.specs.declared.Lane.{Lane}
use Rattle.history.specs.declared.Lease.{Lease}

-- p of each that is there
abbrev pub every : {A : Type 0} → (A → Bool) → List (Option A) → Bool
every p [] = true
every p (None ∷ os) = every p os
every p (Some a ∷ os) = p a && every p os

abbrev pub timing_ok : Timing → Bool
timing_ok t = nat_le 1 t.count && (nat_le t.count 4096 && (nat_le t.start 1000000 && (nat_le 1 t.period && (nat_le t.period 10000 && (nat_le 2 t.depth && (nat_le t.depth 8 && (nat_le t.spare 15 && nat_le (t.start + t.count * t.period) 1000000)))))))

abbrev pub order_ok : Asked → Bool
order_ok o = nat_lt o.head 8 && (nat_lt o.first 4096 && timing_ok o.timing)

abbrev pub all_below : ℕ → List ℕ → Bool
all_below n [] = true
all_below n (x ∷ xs) = nat_lt x n && all_below n xs

-- what is left of a live lane can be, and its buffers are the pool's
abbrev pub live_ok : Lane → Bool
live_ok l = order_ok l.order && (nat_le l.admitted l.order.timing.start && (nat_le l.next l.order.timing.count && (nat_le l.failed l.order.timing.spare && all_below 32 l.buffers)))

abbrev pub lane_ok : Lane → Bool
lane_ok l = nat_le l.next 4096 && (nat_le l.failed 16 && (not (is_live l.stage) || live_ok l))

abbrev pub lease_ok : Lease → Bool
lease_ok e = nat_lt e.buffer 32
