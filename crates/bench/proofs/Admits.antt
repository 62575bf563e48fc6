-- What admission does to a bench.
use Rattle.std.proofs.Common.{◌≡◌, ℕ, zero, suc, ◌+◌, ◌-◌, ◌<◌, ◌≤◌, Bool, true, false, cond, not, ◌||◌, eqb, ltb, List, [], ◌∷◌, ◌++◌, length, get_or, take, drop, replicate, is_some, Some, None, Ok, filter, Option, sym, refl, ap, ◌∙◌, subst, arith}
use Rattle.std.specs.List.{range_with_len, AllByRecursion, list_any}
use Rattle.std.proofs.Math.Seq.{take-append_seam}
use Rattle.std.proofs.lemmas.List.{length-append, at_drop_more, take-append-drop, take_all}
use Rattle.std.proofs.lemmas.Bool.{lt-ltb, le-ltb, and_from}
use Rattle.std.proofs.lemmas.Bool.Decides.{nat_tests}
use Rattle.refusal.specs.declared.Refusal.TheVariants.{HeadTaken, Past, OffDisk, PoolShort, Crowded}
use Rattle.refusal.specs.declared.Span.{Span}
use Rattle.std.proofs.lemmas.List.FromFn.{get_or-range_with_len}
use Rattle.std.proofs.lemmas.List.Elements.{filter_more, filter-append}
use Rattle.history.specs.Bench.{has, in_use, free, is_live, work, works}
use Rattle.history.specs.Bench.{World}
use Rattle.history.specs.Calls.{Answer, done, refuse, checked, new_lane, new_work, charged_with, span_told, before_crowded, no_room, admitted, admit}
use Rattle.history.proofs.Buffers.{free_small}
use Rattle.history.proofs.Checks.{Passes, last_decides}
use Rattle.history.proofs.Spans.{ends, tried_is}
use Rattle.history.specs.declared.Asked.{Asked}
use Rattle.history.specs.declared.Stage.TheVariants.{Live}
use Rattle.schedule.specs.Answers.{Limits, FirstOverfullOrNone}
use Rattle.schedule.specs.Orders.{Proper, WithinLimits}
use Rattle.schedule.specs.declared.Timing.{Timing}
use Rattle.schedule.specs.declared.Work.{Work}
use Rattle.bench.specs.Admits.{CanBeTried}
use Rattle.bench.specs.Sound.{every, timing_ok, order_ok, all_below, live_ok, lane_ok}
use Rattle.history.specs.declared.Lane.{Lane}
use Rattle.history.specs.declared.Lease.{Lease}

-- THE FREE BUFFERS

pub has_is : (x : ℕ) (ys : List ℕ) → list_any (eqb x) ys ≡ has x ys
has_is x [] = refl
has_is x (y ∷ ys) = ap (λ b. eqb x y || b) (has_is x ys)

module _ (ls : List (Option Lane)) (es : List (Option Lease)) where
  abbrev is_free : ℕ → Bool
  is_free x = not (in_use ls es x)

  -- the free ones of the first n
  abbrev below : ℕ → List ℕ
  below n = filter is_free (take n (range_with_len 0 32))

  pub free_more : (k : ℕ) → k < 32 → (b : Bool) → in_use ls es k ≡ b → below (k + 1) ≡ below k ++ cond (not b) (k ∷ []) []
  free_more k h b e =
      subst (λ x. below (k + 1) ≡ below k ++ cond (is_free x) (x ∷ []) []) (get_or-range_with_len 0 32 k 0 h ∙ omega arith) (filter_more is_free (range_with_len 0 32) k 0 h)
      ∙ ap (λ b. below k ++ cond (not b) (k ∷ []) []) e

  module _ (k n : ℕ) (xs : List ℕ) where
    -- where they are n, they are the n lowest of all
    pub free_first : xs ≡ below k → length xs ≡ n → xs ≡ take n (free ls es)
    unfolding free
    free_first is long =
        let rest : List ℕ = filter is_free (drop k (range_with_len 0 32)) in
        let whole : below k ++ rest ≡ free ls es = sym (filter-append is_free (take k (range_with_len 0 32)) (drop k (range_with_len 0 32))) ∙ ap (filter is_free) (take-append-drop k (range_with_len 0 32)) in
        is ∙ sym (take-append_seam (below k) rest) ∙ ap (λ m. take m (below k ++ rest)) (sym (ap length is) ∙ long) ∙ ap (take n) whole

    pub free_all : k ≡ 32 → xs ≡ below k → length xs ≤ n → xs ≡ take n (free ls es)
    unfolding free
    free_all last is few = let all : xs ≡ free ls es = is ∙ ap below last in sym (take_all n xs few) ∙ ap (take n) all

-- WHAT IS CHARGED

within_limits : (t : Timing) → timing_ok t ≡ true → WithinLimits t
within_limits t e = record {
  count_some = grind (arith, nat_tests);
  count_most = grind (arith, nat_tests);
  start_most = grind (arith, nat_tests);
  period_some = grind (arith, nat_tests);
  period_most = grind (arith, nat_tests);
  depth_least = grind (arith, nat_tests);
  depth_most = grind (arith, nat_tests);
  spare_most = grind (arith, nat_tests);
  ends = grind (arith, nat_tests);
}

order_limits : (o : Asked) → order_ok o ≡ true → WithinLimits o.timing
order_limits o e = within_limits o.timing (grind (arith, nat_tests))

live_proper : (l : Lane) → live_ok l ≡ true → Proper (work l)
live_proper l e = record {
  timing = order_limits l.order (grind (arith, nat_tests));
  admitted = grind (arith, nat_tests);
  next = grind (arith, nat_tests);
  failed = grind (arith, nat_tests);
}

lane_proper : (l : Lane) → lane_ok l ≡ true → is_live l.stage ≡ true → Proper (work l)
lane_proper l e p = live_proper l (grind (arith, nat_tests))

proper_more : (l : Lane) (ws : List Work) → lane_ok l ≡ true → AllByRecursion Proper ws → (b : Bool) → is_live l.stage ≡ b → AllByRecursion Proper (cond b (work l ∷ ws) ws)
proper_more l ws e q true p = (lane_proper l e p, q)
proper_more l ws e q false p = q

works_proper : (ls : List (Option Lane)) → every lane_ok ls ≡ true → AllByRecursion Proper (works ls)
works_proper [] e = tt
works_proper (None ∷ ls) e = works_proper ls e
works_proper (Some l ∷ ls) e = proper_more l (works ls) (grind (arith, nat_tests)) (works_proper ls (grind (arith, nat_tests))) (is_live l.stage) refl

-- what is tried at admission is within the limits of trying
pub tried_within : (slot : ℕ) (o : Asked) (ls : List (Option Lane)) → CanBeTried slot o ls → Limits slot (new_work slot o ∷ works ls)
tried_within slot o ls c = record {
  slot = c.time;
  eight = omega (arith, c.seven);
  proper = (record { timing = order_limits o c.order; admitted = c.start; next = omega arith; failed = omega arith }, works_proper ls c.safe);
}

-- where another lane is live, there is room for it
pub works_room : (ls : List (Option Lane)) (k : ℕ) (l : Lane) (xs ws : List Work) → k < length ls → get_or ls k None ≡ Some l → l.stage ≡ Live → xs ++ works (drop k ls) ≡ ws → length ws ≤ 8 → length xs < 8
works_room ls k l xs ws lt is live e few =
    let next : works (drop k ls) ≡ work l ∷ works (drop (k + 1) ls) =
    at_drop_more works ls k None lt ∙ ap (λ x. works (x ∷ drop (k + 1) ls)) is ∙ ap (λ s. cond (is_live s) (work l ∷ works (drop (k + 1) ls)) (works (drop (k + 1) ls))) live in
    omega (arith, ap length e, length-append xs (works (drop k ls)), ap length next)

-- a head without a lane leaves at most seven live ones
works_few : (ls : List (Option Lane)) → length (works ls) ≤ length ls
works_few [] = omega arith
works_few (None ∷ ls) = omega (arith, works_few ls)
works_few (Some l ∷ ls) = let r = works_few ls in by (is_live l.stage) r
  where
    by : (b : Bool) → length (works ls) ≤ length ls → length (cond b (work l ∷ works ls) (works ls)) ≤ suc (length ls)
    by true r = omega arith
    by false r = omega arith

pub works_fewer : (ls : List (Option Lane)) (h : ℕ) → h < length ls → get_or ls h None ≡ None → length (works ls) < length ls
works_fewer [] h lt e = absurd (omega arith)
works_fewer (None ∷ ls) zero lt e = omega (arith, works_few ls)
works_fewer (None ∷ ls) (suc h) lt e = omega (arith, works_fewer ls h (omega arith) e)
works_fewer (Some l ∷ ls) zero lt e = absurd (let z : ◌≡◌ {A = ℕ} 0 1 = cc in omega arith)
works_fewer (Some l ∷ ls) (suc h) lt e = let r = works_fewer ls h (omega arith) e in by (is_live l.stage) r
  where
    by : (b : Bool) → length (works ls) < length ls → length (cond b (work l ∷ works ls) (works ls)) < suc (length ls)
    by true r = omega arith
    by false r = omega arith

-- THE NEW LANE

all_below_from : (n : ℕ) (xs : List ℕ) → ((i : ℕ) → i < length xs → get_or xs i 0 < n) → all_below n xs ≡ true
all_below_from n [] q = refl
all_below_from n (x ∷ xs) q = and_from _ _ (lt-ltb x n (q 0 (omega arith))) (all_below_from n xs (λ i h. q (suc i) (omega arith)))

all_below_take : (n k : ℕ) (xs ys : List ℕ) → all_below n xs ≡ true → all_below n ys ≡ true → all_below n (take k xs ++ ys) ≡ true
all_below_take n zero xs ys p q = q
all_below_take n (suc k) [] ys p q = q
all_below_take n (suc k) (x ∷ xs) ys p q = let r = all_below_take n k xs ys (grind (arith, nat_tests)) q in grind (arith, nat_tests)

all_below_zeros : (n k : ℕ) → 0 < n → all_below n (replicate k 0) ≡ true
all_below_zeros n zero p = refl
all_below_zeros n (suc k) p = and_from _ _ (lt-ltb 0 n p) (all_below_zeros n k p)

pub new_lane_ok : (ls : List (Option Lane)) (es : List (Option Lease)) (now : ℕ) (o : Asked) → order_ok o ≡ true → now ≤ o.timing.start → lane_ok (new_lane now (free ls es) o) ≡ true
new_lane_ok ls es now o ok early =
    let below : all_below 32 (take o.timing.depth (free ls es) ++ replicate (8 - o.timing.depth) 0) ≡ true =
    all_below_take 32 o.timing.depth (free ls es) (replicate (8 - o.timing.depth) 0) (all_below_from 32 (free ls es) (free_small ls es)) (all_below_zeros 32 (8 - o.timing.depth) (omega arith)) in
    grind (arith, nat_tests)

-- the lane with those buffers is the new one
pub new_lane_is : (now : ℕ) (frees : List ℕ) (o : Asked) (bs : List ℕ) → bs ≡ take o.timing.depth frees ++ replicate (8 - o.timing.depth) 0
    → ◌≡◌ {A = Lane} (record { order = o; admitted = now; next = 0; failed = 0; stage = Live; buffers = bs }) (new_lane now frees o)
new_lane_is now frees o bs e = ap (λ (x : List ℕ). record { order = o; admitted = now; next = 0; failed = 0; stage = Live; buffers = x }) e

-- WHAT IS ANSWERED, check by check

-- where the checks before it pass, one that fails refuses
refused_by : (w : World) (cs : List (Bool × Answer)) (c : Bool × Answer) (ds : List (Bool × Answer)) (r : World × Answer) → Passes cs → c.0 ≡ true → checked w (cs ++ c ∷ ds) r ≡ (w, c.1)
refused_by w [] c ds r q e = ap (λ b. cond b (w, c.1) (checked w ds r)) e
refused_by w (x ∷ cs) c ds r q e = ap (λ b. cond b (w, x.1) (checked w (cs ++ c ∷ ds) r)) q.0 ∙ refused_by w cs c ds r q.1 e

module _ (w : World) (o : Asked) where
  abbrev taken : Bool × Answer
  taken = (is_some (get_or w.lanes o.head None), refuse HeadTaken)

  abbrev past : Bool × Answer
  past = (ltb o.timing.start w.now, refuse Past)

  abbrev off_disk : Bool × Answer
  off_disk = (ltb (length w.disk) (o.first + o.timing.count), refuse OffDisk)

  abbrev short : Bool × Answer
  short = (ltb (length (free w.lanes w.leases)) o.timing.depth, refuse PoolShort)

  abbrev grant : World × Answer
  grant = (admitted w o, done)

  pub admit_taken : (l : Lane) → get_or w.lanes o.head None ≡ Some l → admit w o ≡ (w, refuse HeadTaken)
  unfolding admit
  admit_taken l e = refused_by w [] taken (past ∷ off_disk ∷ short ∷ no_room w o ∷ []) grant tt (ap is_some e)

  module _ (empty : get_or w.lanes o.head None ≡ None) where
    pub admit_past : o.timing.start < w.now → admit w o ≡ (w, refuse Past)
    unfolding admit
    admit_past lt = refused_by w (taken ∷ []) past (off_disk ∷ short ∷ no_room w o ∷ []) grant (ap is_some empty, tt) (lt-ltb _ _ lt)

    module _ (early : w.now ≤ o.timing.start) where
      pub admit_off_disk : length w.disk < o.first + o.timing.count → admit w o ≡ (w, refuse OffDisk)
      unfolding admit
      admit_off_disk lt = refused_by w (taken ∷ past ∷ []) off_disk (short ∷ no_room w o ∷ []) grant (ap is_some empty, (le-ltb _ _ early, tt)) (lt-ltb _ _ lt)

      module _ (on : o.first + o.timing.count ≤ length w.disk) where
        pub admit_pool_short : length (free w.lanes w.leases) < o.timing.depth → admit w o ≡ (w, refuse PoolShort)
        unfolding admit
        admit_pool_short lt =
            refused_by w (taken ∷ past ∷ off_disk ∷ []) short (no_room w o ∷ []) grant (ap is_some empty, (le-ltb _ _ early, (le-ltb _ _ on, tt))) (lt-ltb _ _ lt)

        module _ (enough : o.timing.depth ≤ length (free w.lanes w.leases)) where
          passed : Passes (before_crowded w o)
          passed = (ap is_some empty, (le-ltb _ _ early, (le-ltb _ _ on, (le-ltb _ _ enough, tt))))

          by_tried : (x : Option Span) → FirstOverfullOrNone (charged_with w.now w.lanes o) (Ok x) → admit w o ≡ cond (is_some (ends x)) (w, span_told (ends x)) grant
          unfolding admit
          by_tried x p =
              last_decides w (before_crowded w o) (no_room w o) grant passed
              ∙ ap (λ (y : Option (ℕ × ℕ)). cond (is_some y) (w, span_told y) grant) (tried_is (charged_with w.now w.lanes o) x p)

          pub admit_crowded : (s : Span) → FirstOverfullOrNone (charged_with w.now w.lanes o) (Ok (Some s)) → admit w o ≡ (w, refuse (Crowded s))
          admit_crowded s p = by_tried (Some s) p

          pub admit_done : FirstOverfullOrNone (charged_with w.now w.lanes o) (Ok None) → admit w o ≡ grant
          admit_done p = by_tried None p
