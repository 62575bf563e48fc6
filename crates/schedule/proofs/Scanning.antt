-- The scan for the largest start, from the latest block down.
use Rattle.std.proofs.Common.{◌≡◌, ℕ, suc, ◌+◌, ◌-◌, ◌<◌, ◌≤◌, min, max, cond, ◌&&◌, eqb, leb, List, Some, None, Option, length, get_or, set, sym, refl, ap, ◌∙◌, subst, inl, inr, arith}
use Rattle.std.specs.List.{AllByRecursion}
use Rattle.std.specs.Option.{IsSome}
use Rattle.std.proofs.ByRecursion.{All-get_or, All-set, All-from_get_or, all_from_every, All-weaker}
use Rattle.std.proofs.lemmas.List.{get_or_default, length-set}
use Rattle.std.proofs.lemmas.Bool.{cases_lt}
use Rattle.schedule.specs.declared.rest.Rest.{Rest}
use Rattle.schedule.specs.declared.scan.Top.{Top}
use Rattle.schedule.specs.Rests.{release_of, deadline_of, owed_of, shortened, inside, total, OverAt, done}
use Rattle.schedule.specs.Scan.{CutTo, DueBy, Latest, LastStart, Scanning, top_start}
use Rattle.schedule.proofs.Times.{release_mono}
use Rattle.schedule.proofs.Totals.{total_set, total_none, inside_shortened}

-- before the first turn
pub scan_starts : (t h : ℕ) (ws lanes : List Rest) → CutTo h ws lanes → Scanning t h ws lanes 0
scan_starts t h ws lanes c = record {
  low = h;
  within = omega arith;
  eight = c.eight;
  sum = λ l le. omega (arith, c.same t l);
  room = omega arith;
  clear = λ l lt le. absurd (omega arith);
  due = c.due;
  under = all_from_every _ lanes (λ k d lo hi some. omega arith);
}

module _ (t h : ℕ) (ws lanes : List Rest) (counted : ℕ) (s : Scanning t h ws lanes counted) where
  -- something is left while a span is overfull
  pub scan_goes : OverAt t h ws → (top : Option Top) → Latest t h lanes 8 top → IsSome top
  scan_goes o (Some b) a = refl
  scan_goes o None a =
      let all : AllByRecursion (λ w. w.blocks ≤ w.next) lanes = All-from_get_or _ lanes done (λ k lt. a k (omega (arith, s.eight))) in
      let none : (l : ℕ) → total t l h lanes ≡ 0 = λ l. total_none t l h lanes (All-weaker _ _ (λ w f j from to p. absurd (omega arith)) lanes all) in
      elim (cases_lt s.low o.low) [
        | inl p ↦ absurd (omega (arith, s.clear o.low p o.within, o.over))
        | inr p ↦ absurd (omega (arith, s.sum o.low p, none o.low, s.room, o.over))
      ]

  -- the last block of lane best starts at low, and none that is left starts later
  module _ (r : Option Top) (top : Top) (found : r ≡ Some top) (a : Latest t h lanes 8 r) (d : Rest) where
    known : Latest t h lanes 8 (Some top)
    known = subst (Latest t h lanes 8) found a

    abbrev best : ℕ
    best = top.head

    in' : best < length lanes
    in' = omega (arith, known.0, s.eight)

    abbrev w : Rest
    w = get_or lanes best d

    is : w ≡ get_or lanes best done
    is = get_or_default lanes best d done in'

    pub left_w : w.next < w.blocks
    left_w = rw is known.1

    low_is : top.low ≡ top_start t h w
    low_is = rw is known.2

    most : AllByRecursion (λ v. v.next < v.blocks → top_start t h v ≤ top_start t h w) lanes
    most = All-from_get_or _ lanes done (λ k lt some. omega (arith, low_is, known.3 k (omega (arith, s.eight)) some))

    abbrev low : ℕ
    low = top_start t h w

    -- no block that is left starts after low
    starts : AllByRecursion (λ v. (j : ℕ) → v.next ≤ j → j < v.blocks → min h (max t (release_of v j)) ≤ low) lanes
    starts = All-weaker _ _ (λ v m j from to. omega (arith, m (omega arith), release_mono v j (v.blocks - 1) (omega arith))) lanes most

    -- past low only what is counted lies
    bare : (l : ℕ) → low < l → l ≤ s.low → total t l h lanes ≡ 0
    bare l lt le = total_none t l h lanes (All-weaker _ _ (λ v f j from to p. absurd (omega (arith, f j from to, s.within))) lanes starts)

    clears : (l : ℕ) → low < l → l ≤ h → l + total t l h ws ≤ h
    clears l lt le = elim (cases_lt s.low l) [
      | inl p ↦ s.clear l p le
      | inr p ↦ omega (arith, s.sum l p, bare l lt p, s.room)
    ]

    due_w : DueBy h w
    due_w = rw is (All-get_or (DueBy h) lanes best done in' s.due)

    under_w : low ≤ s.low
    under_w =
        let u : w.next < w.blocks → low ≤ s.low = rw is (All-get_or (λ v. v.next < v.blocks → top_start t h v ≤ s.low) lanes best done in' s.under) in
        u left_w

    abbrev v : Rest
    v = shortened w (w.blocks - 1)

    module _ (x : ℕ) (is_x : x ≡ cond (eqb (w.blocks - 1) w.next) w.left w.each) where
      -- the last block counts in the spans that start at low or before
      last : (l : ℕ) → l ≤ low → inside t l h w w.blocks ≡ x + inside t l h v v.blocks
      last l le =
          let j : ℕ = w.blocks - 1 in
          let e : w.blocks ≡ suc j = omega (arith, left_w) in
          let b : v.blocks ≡ j = omega arith in
          let d : deadline_of w j ≤ h = due_w j (omega (arith, left_w)) (omega (arith, left_w)) in
          let p : l ≤ max t (release_of w j) = omega arith in
          let y : owed_of w j ≡ x = grind (arith, left_w, is_x) in
          ap (inside t l h w) e ∙ omega (arith, counts l (max t (release_of w j)) (deadline_of w j) (owed_of w j) p d, y, inside_shortened t l h w j j, ap (inside t l h v) b) where
            counts : (l m d n : ℕ) → l ≤ m → d ≤ h → cond (leb l m && leb d h) n 0 ≡ n
            counts l m d n p q = grind arith

      sums : (l : ℕ) → l ≤ low → total t l h ws ≡ counted + x + total t l h (set lanes best v)
      sums l le =
          omega (arith, s.sum l (omega (arith, under_w)), total_set t l h x w v (last l le) lanes best in' (is ∙ get_or_default lanes best done w in'))

      pub few_x : x ≤ 16
      few_x = grind (arith, is_x, w.left_few, w.each_few)

      pub some_x : 0 < x
      some_x = grind (arith, is_x, w.left_some, w.each_some)

      pub scan_ends : h - top.low < counted + x → LastStart t h ws top.low
      scan_ends over = subst (LastStart t h ws) (sym low_is) (record { within = omega arith; over = omega (arith, low_is, sums low (omega arith)); clear = clears })

      pub scan_again : counted + x ≤ h - top.low → (l : Rest) → l ≡ v → Scanning t h ws (set lanes best l) (counted + x)
      scan_again room l e = rw e (record {
        low = low;
        within = omega arith;
        eight = simp length-set s.eight;
        sum = sums;
        room = omega (arith, low_is);
        clear = clears;
        due = All-set (DueBy h) lanes best v (λ j from to. due_w j from (omega arith)) s.due;
        under = All-set _ lanes best v (λ some. omega (arith, release_mono w (v.blocks - 1) (w.blocks - 1) (omega arith)))
            (All-weaker _ _ (λ u f some. f (u.blocks - 1) (omega arith) (omega arith)) lanes starts);
      })
