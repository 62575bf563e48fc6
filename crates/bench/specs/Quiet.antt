-- What a bench keeps so that a slot in which nothing happens costs next to nothing.
use Rattle.std.specs.Prelude.{ℕ, suc, ◌+◌, Bool, cond, not, ◌&&◌, ◌||◌, true, List, [], ◌∷◌, Some, None, Option, min, ◌==◌, nat_le, nat_lt}
use Rattle.schedule.specs.Orders.{deadline, release}
use Rattle.history.specs.Bench.{World, is_live, burn_end}
use Rattle.history.specs.Calls.{all_aged, with_lanes}
use Rattle.history.specs.declared.Lane.{Lane}
use Rattle.history.specs.declared.Lease.{Lease}
use Rattle.bench.specs.Sound.{every}

-- a slot that ends before slot q makes no read for the lane, and is not its last
abbrev pub rests : ℕ → Lane → Bool
rests q l = not (is_live l.stage) || ((nat_le l.order.timing.count l.next || nat_le q (suc (release l.order.timing l.admitted l.next))) && nat_le q (deadline l.order.timing l.order.timing.count))

-- the lease does not hold the lane up at a slot from `now` on that comes before slot t
abbrev pub later : ℕ → ℕ → Lane → Lease → Bool
later now t l e = not (is_live l.stage) || (not (e.head == l.order.head && e.admitted == l.admitted) || (nat_le t (burn_end l.order.timing e.index) || nat_lt (burn_end l.order.timing e.index) now))

abbrev pub all_later : ℕ → ℕ → List (Option Lane) → List (Option Lease) → Bool
all_later now t ls es = every (λ l. every (later now t l) es) ls

-- each lane lies at the place of its head, where the first of them is h's
abbrev pub placed : ℕ → List (Option Lane) → Bool
placed h [] = true
placed h (None ∷ ls) = placed (suc h) ls
placed h (Some l ∷ ls) = l.order.head == h && placed (suc h) ls

-- the lanes as they are at the slot that the bench is at
abbrev pub settled : World → World
settled w = with_lanes w (all_aged w.now w.leases w.lanes)

-- WHERE NEVER IS A SLOT AFTER EVERY OTHER

-- the slot at which the burn of the lease's block has ended, if it was taken in this lane
abbrev pub lent_until : Lane → Lease → Option ℕ
lent_until l e = cond (e.head == l.order.head && e.admitted == l.admitted) (Some (burn_end l.order.timing e.index)) None

abbrev pub end_from : ℕ → ℕ → Option ℕ → ℕ
end_from never now None = never
end_from never now (Some t) = cond (nat_le now t) t never

-- a slot before which, from `now` on, the lease does not hold the lane up
abbrev pub lapse_of : ℕ → ℕ → Lane → Lease → ℕ
lapse_of never now l e = cond (is_live l.stage) (end_from never now (lent_until l e)) never

-- a slot such that none that ends before it makes a read for the lane, or is its last
abbrev pub quiet_of : ℕ → Lane → ℕ
quiet_of never l =
    let end : ℕ = deadline l.order.timing l.order.timing.count in
    cond (is_live l.stage) (cond (nat_le l.order.timing.count l.next) end (min end (release l.order.timing l.admitted l.next + 1))) never
