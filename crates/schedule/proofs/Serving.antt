-- Attempts on one block.
use Rattle.std.proofs.Common.{◌≡◌, ℕ, zero, suc, ◌+◌, ◌<◌, ◌≤◌, max, Bool, true, false, cond, ◌&&◌, leb, List, length, get_or, set, refl, ap, inl, inr, arith}
use Rattle.std.specs.List.{AllByRecursion}
use Rattle.std.proofs.lemmas.Bool.{cases_eq}
use Rattle.schedule.specs.declared.rest.Rest.{Rest}
use Rattle.schedule.specs.Rests.{release_of, deadline_of, owed_of, served, inside, total, OverAt}
use Rattle.schedule.proofs.Totals.{total_set, total_le, Into}
use Rattle.windows.proofs.Counts.{bounds}
use Rattle.std.proofs.ByRecursion.{All-weaker}

pub tries_below : (w : Rest) (m j : ℕ) → j < w.next → owed_of w j ≡ owed_of (served w m) j
tries_below w m j lt = grind arith

pub tries_above : (w : Rest) (m j : ℕ) → w.next < j → owed_of w j ≡ owed_of (served w m) j
tries_above w m j lt = grind arith

pub tries_at : (w : Rest) (m j : ℕ) → j ≡ w.next → m ≤ w.left → owed_of w j ≡ m + owed_of (served w m) j
tries_at w m j e le = grind arith

-- m attempts leave the span that holds the block's window
module _ (t l h : ℕ) (w : Rest) (m : ℕ) (few : m ≤ w.left) where
  inside_kept : (n : ℕ) → n ≤ w.next → inside t l h w n ≡ inside t l h (served w m) n
  inside_kept zero e = refl
  inside_kept (suc j) e = omega (arith, inside_kept j (omega arith), ap (λ x. cond (leb l (max t (release_of w j)) && leb (deadline_of w j) h) x 0) (tries_below w m j (omega arith)))

  abbrev In : ℕ → ℕ
  In j = cond (leb l (max t (release_of w j)) && leb (deadline_of w j) h) m 0

  cond_sum : (b : Bool) (x y z : ℕ) → x ≡ y + z → cond b x 0 ≡ cond b y 0 + cond b z 0
  cond_sum true x y z e = e
  cond_sum false x y z e = omega arith

  inside_served : (n : ℕ) → w.next < n → inside t l h w n ≡ In w.next + inside t l h (served w m) n
  inside_served zero lt = absurd (omega arith)
  inside_served (suc j) lt = elim (cases_eq j w.next) [
    | inl e ↦
        let k = inside_kept j (omega arith) in
        let s = cond_sum (leb l (max t (release_of w j)) && leb (deadline_of w j) h) (owed_of w j) m (owed_of (served w m) j) (tries_at w m j e few) in
        omega (arith, k, s, ap In e)
    | inr e ↦
        omega (
          arith,
          inside_served j (omega arith),
          ap (λ x. cond (leb l (max t (release_of w j)) && leb (deadline_of w j) h) x 0) (tries_above w m j (omega arith)),
        )
  ]

  pub total_served : w.next < w.blocks → (ws : List Rest) (k : ℕ) → k < length ws → w ≡ get_or ws k w
      → total t l h ws ≡ cond (leb l (max t (release_of w w.next)) && leb (deadline_of w w.next) h) m 0 + total t l h (set ws k (served w m))
  total_served some ws k lt r = total_set t l h (In w.next) w (served w m) (inside_served w.blocks some) ws k lt r

-- what is released before u is due at d or later
abbrev pub Calm : ℕ → ℕ → Rest → Type 0
Calm u d w = (j : ℕ) → w.next ≤ j → j < w.blocks → release_of w j < u → d ≤ deadline_of w j

-- m slots from t on go to the block of earliest deadline d: which ends have an overfull span stays
module _ (t m d h : ℕ) (ws : List Rest) (k : ℕ) (w : Rest) (lt : k < length ws) (r : w ≡ get_or ws k w)
    (some : w.next < w.blocks) (few : m ≤ w.left) (rel : release_of w w.next ≤ t) (at : deadline_of w w.next ≡ d) (fresh : t + m ≤ d)
    (calm : AllByRecursion (Calm (t + m) d) (set ws k (served w m))) where
  abbrev Left : List Rest
  Left = set ws k (served w m)

  taken : (l : ℕ) → total t l h ws ≡ cond (leb l (max t (release_of w w.next)) && leb (deadline_of w w.next) h) m 0 + total t l h Left
  taken l = total_served t l h w m few some ws k lt r

  le : (t' l l' t'' : ℕ) → ((v : Rest) → Calm (t + m) d v → Into t' l h t'' l' h v) → total t' l h Left ≤ total t'' l' h Left
  le t' l l' t'' f = total_le t' l h t'' l' h Left (All-weaker _ _ f Left calm)

  pub serve_on : OverAt t h ws → OverAt (t + m) h Left
  serve_on o =
      let l : ℕ = o.low in
      let n = taken l in
      elim (bounds l t d h) [
        | inl b ↦ record { low = t + m; within = omega arith; over = grind (arith, le t l (t + m) (t + m) (λ v c j from to p q. (omega arith, q))) }
        | inr b ↦ record { low = l; within = o.within; over = grind (arith, le t l l (t + m) (λ v c j from to p q. (omega arith, q))) }
      ]

  pub serve_back : OverAt (t + m) h Left → OverAt t h ws
  serve_back o =
      let l : ℕ = o.low in
      elim (bounds l (t + m) d h) [
        | inl b ↦ record { low = t; within = omega arith; over = grind (arith, taken t, le (t + m) l t t (λ v c j from to p q. (omega arith, q))) }
        | inr b ↦ record { low = l; within = o.within; over = grind (arith, taken l, le (t + m) l l t (λ v c j from to p q. (grind (arith, c j from to), q))) }
      ]
