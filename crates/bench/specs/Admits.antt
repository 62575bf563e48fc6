-- The buffers that admission chooses from, and the works that it counts.
use Rattle.std.specs.Prelude.{◌≡◌, ℕ, ◌-◌, ◌<◌, ◌≤◌, Bool, true, ◌&&◌, List, ◌++◌, length, take, replicate, Option, MatchOption, ◌==◌}
use Rattle.history.specs.Bench.{is_live, has, own_buffers, works}
use Rattle.history.specs.declared.Asked.{Asked}
use Rattle.history.specs.declared.Lane.{Lane}
use Rattle.history.specs.declared.Lease.{Lease}
use Rattle.bench.specs.Sound.{every, lane_ok, order_ok}

-- a live lane has buffer x
abbrev pub lane_uses : ℕ → Lane → Bool
lane_uses x l = is_live l.stage && has x (own_buffers l)

-- a lease is out on buffer x
abbrev pub lease_uses : ℕ → Lease → Bool
lease_uses x e = x == e.buffer

-- the n lowest of them, with zeros up to eight places; none exactly where there are fewer
abbrev pub LowestOrTooFew : List ℕ → ℕ → Option (List ℕ) → Type 0
LowestOrTooFew frees n r = MatchOption r (length frees < n) (λ bs. (n ≤ length frees) × (bs ≡ take n frees ++ replicate (8 - n) 0))

-- the order can be admitted at that slot, beside what is left of at most seven live lanes
pub record CanBeTried (slot : ℕ) (o : Asked) (ls : List (Option Lane)) : Type 0 where
  pub time : slot ≤ 1000000
  pub order : order_ok o ≡ true
  pub start : slot ≤ o.timing.start
  pub safe : every lane_ok ls ≡ true
  pub seven : length (works ls) ≤ 7
