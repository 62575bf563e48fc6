-- What is left of a lane, as the search uses it, and how many of its attempts lie in a span.
use Rattle.std.specs.Prelude.{◌≡◌, ℕ, zero, suc, ◌+◌, ◌-◌, ◌*◌, ◌<◌, ◌≤◌, min, max, cond, ◌&&◌, List, [], ◌∷◌, length, Result, MatchResult, ◌==◌, nat_le, nat_lt}
use Rattle.std.proofs.Common.{arith, mul-le-mul_right, lit<, lit≤}
use Rattle.refusal.specs.declared.Refusal.{Refusal}
use Rattle.refusal.specs.declared.Refusal.TheVariants.{Bounds}
use Rattle.std.specs.List.{AllByRecursion}
use Rattle.schedule.specs.Orders.{Proper}
use Rattle.schedule.specs.declared.Work.{Work}
use Rattle.schedule.specs.declared.rest.Rest.{Rest}

-- r is what is left of w
pub record IsRestOf (w : Work) (r : Rest) : Type 0 where
  pub start : r.start ≡ w.timing.start
  pub period : r.period ≡ w.timing.period
  pub early : r.early ≡ w.timing.depth
  pub admitted : r.admitted ≡ w.admitted
  pub lead : r.lead ≡ (w.timing.depth - 1) * w.timing.period
  pub next : r.next ≡ w.next
  pub blocks : r.blocks ≡ w.timing.count
  pub left : r.left ≡ 1 + w.timing.spare - w.failed
  pub each : r.each ≡ 1 + w.timing.spare

-- what is left of a work that is proper; another is refused
abbrev pub RestIfProper : Work → Result Rest Refusal → Type 0
RestIfProper w r = MatchResult r (λ out. Proper w × IsRestOf w out) (λ e. (e ≡ Bounds) × (Proper w → ⊥))

-- the slot by which block j must be read, the first at which it may be, and the attempts owed to it
abbrev pub deadline_of : Rest → ℕ → ℕ
deadline_of w j = w.start + j * w.period

abbrev pub release_of : Rest → ℕ → ℕ
release_of w j = cond (nat_lt j w.early) w.admitted (deadline_of w j - w.lead)

abbrev pub owed_of : Rest → ℕ → ℕ
owed_of w j = cond (nat_lt j w.next) 0 (cond (j == w.next) w.left w.each)

-- the release and the deadline of the next block, or what is later than every slot
abbrev pub ready : Rest → ℕ
ready w = cond (nat_lt w.next w.blocks) (release_of w w.next) 2000000

abbrev pub due : Rest → ℕ
due w = cond (nat_lt w.next w.blocks) (deadline_of w w.next) 2000000

-- a lane with nothing left
abbrev pub done : Rest
done = record {
  start = 0;
  period = 1;
  early = 0;
  admitted = 0;
  lead = 0;
  next = 0;
  blocks = 0;
  left = 1;
  each = 1;
  period_some = lit< tt;
  admitted_first = lit≤ tt;
  lead_within = lit≤ tt;
  ends = lit≤ tt;
  left_some = lit< tt;
  left_few = lit≤ tt;
  each_some = lit< tt;
  each_few = lit≤ tt;
}

-- w after m attempts on its next block
pub left_some_served : (l e m : ℕ) → 0 < l → 0 < e → 0 < cond (l - m == 0) e (l - m)
left_some_served l e m p q = grind arith

pub left_few_served : (l e m : ℕ) → l ≤ 16 → e ≤ 16 → cond (l - m == 0) e (l - m) ≤ 16
left_few_served l e m p q = grind arith

abbrev pub served : Rest → ℕ → Rest
served w m = record {
  start = w.start;
  period = w.period;
  early = w.early;
  admitted = w.admitted;
  lead = w.lead;
  next = cond (w.left - m == 0) (w.next + 1) w.next;
  blocks = w.blocks;
  left = cond (w.left - m == 0) w.each (w.left - m);
  each = w.each;
  period_some = w.period_some;
  admitted_first = w.admitted_first;
  lead_within = w.lead_within;
  ends = w.ends;
  left_some = left_some_served w.left w.each m w.left_some w.each_some;
  left_few = left_few_served w.left w.each m w.left_few w.each_few;
  each_some = w.each_some;
  each_few = w.each_few;
}

-- w without its blocks from n on
pub ends_shortened : (s b p n : ℕ) → s + b * p ≤ 1000000 → s + min n b * p ≤ 1000000
ends_shortened s b p n e = omega (arith, mul-le-mul_right {m = min n b} {n = b} p (omega arith))

abbrev pub shortened : Rest → ℕ → Rest
shortened w n = record {
  start = w.start;
  period = w.period;
  early = w.early;
  admitted = w.admitted;
  lead = w.lead;
  next = w.next;
  blocks = min n w.blocks;
  left = w.left;
  each = w.each;
  period_some = w.period_some;
  admitted_first = w.admitted_first;
  lead_within = w.lead_within;
  ends = ends_shortened w.start w.blocks w.period n w.ends;
  left_some = w.left_some;
  left_few = w.left_few;
  each_some = w.each_some;
  each_few = w.each_few;
}

-- the attempts of the first n blocks, and of all lanes, whose windows at slot t lie in the span (l, h)
abbrev pub inside : ℕ → ℕ → ℕ → Rest → ℕ → ℕ
inside t l h w zero = 0
inside t l h w (suc j) = cond (nat_le l (max t (release_of w j)) && nat_le (deadline_of w j) h) (owed_of w j) 0 + inside t l h w j

abbrev pub total : ℕ → ℕ → ℕ → List Rest → ℕ
total t l h [] = 0
total t l h (w ∷ ws) = inside t l h w w.blocks + total t l h ws

-- some span that ends at h is overfull at slot t
pub record OverAt (t h : ℕ) (ws : List Rest) : Type 0 where
  pub low : ℕ
  pub within : low ≤ h
  pub over : h < low + total t low h ws

-- what is left of each of ws in turn, and then lanes with nothing left
abbrev pub LeftOf : List Work → List Rest → Type 0
LeftOf [] rs = AllByRecursion (λ r. r.blocks ≡ 0) rs
LeftOf (w ∷ ws) [] = ⊥
LeftOf (w ∷ ws) (r ∷ rs) = IsRestOf w r × LeftOf ws rs

-- what is left of eight lanes, the first of which are those of works that are all proper; others are refused
abbrev pub RestsOf : List Work → Result (List Rest) Refusal → Type 0
RestsOf ws r = MatchResult r (λ out. AllByRecursion Proper ws × (length out ≡ 8) × LeftOf ws out) (λ e. (e ≡ Bounds) × (AllByRecursion Proper ws → ⊥))
