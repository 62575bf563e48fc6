-- The step lemma: earliest end first keeps, and reflects, which ends have an overfull span.

use Rattle.std.proofs.Common.{ℕ, suc, ◌<◌, ◌≤◌, max, List, inl, inr, arith}
use Rattle.std.specs.List.{AllByRecursion}
use Rattle.std.proofs.ByRecursion.{All-weaker}
use Rattle.windows.specs.Windows.{Window, clip, since, OverfullAt, Pick, idle, serve, RuleKeepsOverfullEnds}
use Rattle.windows.proofs.Counts.{count_le, count_pick, bounds}

-- until the first start, a span counts the same at each time
waits : (t u h : ℕ) (ws : List Window) → AllByRecursion (λ w. max t u ≤ w.start) ws → OverfullAt h (since t ws) → OverfullAt h (since u ws)
waits t u h ws q o = (o.0, (o.1.0, omega (arith, count_le _ (clip t) (clip u) o.0 h o.0 h (λ w e. grind arith) ws q)))

-- c is given the slot t: a span that held c begins one later, or one earlier, and any other stays
module _ (t h : ℕ) (c : Window) (ws rest : List Window) (p : Pick c ws rest) (rel : c.start ≤ t) (fresh : t < c.end)
    (q : AllByRecursion (λ w. w.start ≤ t → c.end ≤ w.end) rest) where
  serve_on : OverfullAt h (since t ws) → OverfullAt h (since (suc t) rest)
  serve_on o =
      let l : ℕ = o.0 in
      let n = count_pick (clip t) l h p in
      elim (bounds l t c.end h) [
        | inl b ↦ (suc t, (omega arith, grind (arith, count_le _ (clip t) (clip (suc t)) l h (suc t) h (λ w e. grind arith) rest q)))
        | inr b ↦ (l, (o.1.0, grind (arith, count_le _ (clip t) (clip (suc t)) l h l h (λ w e. grind arith) rest q)))
      ]

  serve_back : OverfullAt h (since (suc t) rest) → OverfullAt h (since t ws)
  serve_back o =
      let l : ℕ = o.0 in
      elim (bounds l (suc t) c.end h) [
        | inl b ↦ (t, (omega arith, grind (arith, count_pick (clip t) t h p, count_le _ (clip (suc t)) (clip t) l h t h (λ w e. grind arith) rest q)))
        | inr b ↦ (l, (o.1.0, grind (arith, count_pick (clip t) l h p, count_le _ (clip (suc t)) (clip t) l h l h (λ w e. grind arith) rest q)))
      ]

pub step : RuleKeepsOverfullEnds
step t ws rest (idle q) h =
    let a : AllByRecursion (λ w. suc t ≤ w.start) ws = q in
    (waits t (suc t) h ws (All-weaker _ _ (λ w k. omega arith) ws a), waits (suc t) t h ws (All-weaker _ _ (λ w k. omega arith) ws a))
step t ws rest (serve c p rel fresh q) h = (serve_on t h c ws rest p rel fresh q, serve_back t h c ws rest p rel fresh q)
