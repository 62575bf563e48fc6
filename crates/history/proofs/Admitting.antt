-- A bench stays sound where a lane is admitted or closed.
use Rattle.std.proofs.Common.{◌≡◌, ℕ, ◌+◌, ◌-◌, ◌<◌, ◌≤◌, true, false, List, [], ◌∷◌, ◌++◌, length, get_or, take, set, replicate, is_some, Some, None, Option, sym, refl, ◌∙◌, subst, arith, MatchOption}
use Rattle.std.proofs.lemmas.List.{length-append, length-take-le, get_or_append_left, get_or-take, map-set, length-map, get_or-map}
use Rattle.std.proofs.lemmas.Bool.{both_ways, ltb-false}
use Rattle.disk.specs.Meaning.{Block}
use Rattle.windows.specs.Windows.{Window, NoneOverfull, count, since, tried, FirstOverfull}
use Rattle.windows.specs.Lanes as work
use Rattle.windows.proofs.Find.{decision}
use Rattle.schedule.specs.Orders.{lane}
use Rattle.history.specs.declared.Asked.{Asked}
use Rattle.history.specs.declared.Lane.{Lane}
use Rattle.history.specs.Bench.{Valid, World, lane_in, lane_at, no_lane, free}
use Rattle.history.specs.Calls.{new_lane, new_work, admitted, before_crowded, charged_with, no_room, closed}
use Rattle.history.specs.Told.{admits, closes}
use Rattle.history.proofs.Buffers.{free_rises, free_small, free_of_lanes, free_of_leases}
use Rattle.history.proofs.Charges.{whole, charge, charges, windows_of, charged_in, charged_with_works, fits_less, count_set, count-since-++}
use Rattle.history.proofs.Checks.{Passes, Granted, all_split}
use Rattle.history.proofs.Sound.{IsLive, Steady, Puts, Base, Sound, put_lane}

none_case : {A : Type 0} (N : Type 0) (P : A → Type 0) (x : Option A) → is_some x ≡ false → MatchOption x N P → N
none_case N P None e c = c
none_case N P (Some a) e c = absurd (both_ways true e refl)

fits_none : (ws : List Window) → is_some (tried ws) ≡ false → NoneOverfull ws
fits_none ws e = none_case (NoneOverfull ws) (FirstOverfull ws) (tried ws) e (decision ws).0

-- the attempts charged where one lane is changed
pub count_charges : (t l h : ℕ) (ls : List (Option Lane)) (k : ℕ) (o : Option Lane) → k < length ls
    → count l h (since t (work.attempts (charges (set ls k o)))) + count l h (windows_of t (lane_at ls k))
    ≡ count l h (charged_in t ls) + count l h (windows_of t (lane_in o))
count_charges t l h ls k o in' =
    let f : Option Lane → work.Lane = λ x. charge (lane_in x) in
    let inside : k < length (charges ls) = rw length-map in' in
    subst (λ as'. count l h (since t (work.attempts as')) + count l h (windows_of t (lane_at ls k)) ≡ count l h (charged_in t ls) + count l h (windows_of t (lane_in o)))
    (sym (map-set f ls k o))
    (subst (λ a. count l h (since t (work.attempts (set (charges ls) k (f o)))) + count l h (since t (whole a)) ≡ count l h (charged_in t ls) + count l h (windows_of t (lane_in o)))
    (get_or-map f ls k None (f None) in') (count_set t l h (charges ls) k (f o) (f None) inside))

module _ (d : List Block) (w : World) (s : Sound d w) where
  abbrev b : Base d w
  b = s.base

  no_live : IsLive no_lane → ⊥
  no_live alive = both_ways false refl alive

  closed_sound : (k : ℕ) → k < 8 → Sound d (closed w k)
  closed_sound k in' = record {
    base = put_lane d w b k None w.pool (record {
      place = in';
      steady = λ a. absurd (no_live a);
      once = λ i j a. absurd (no_live a);
      apart = λ g i j a. absurd (no_live a);
      guards = λ m e out j a. absurd (no_live a);
      size = b.pool;
      lanes_kept = λ _ _ _ _ _. refl;
      leases_kept = λ _ _ _. refl;
    })
        w.disk w.attempts w.failures b.disk;
    fits = fits_less _ (charged_in w.now w.lanes) (λ l h. omega (arith, count_charges w.now l h w.lanes k None (omega (arith, b.heads)))) s.fits;
  }

  pub close_sound : (h : ℕ) → Granted (Sound d) w (closes h)
  close_sound h es = closed_sound h (omega (arith, ltb-false 7 h es.0))

  module _ (o : Asked) (valid : Valid o) (pass : Passes (before_crowded w o)) where
    abbrev frees : List ℕ
    frees = free w.lanes w.leases

    abbrev l : Lane
    l = new_lane w.now frees o

    enough : o.timing.depth ≤ length frees
    enough = ltb-false _ _ pass.1.1.1.0

    fresh : (i : ℕ) → i < o.timing.depth → get_or l.buffers i 0 ≡ get_or frees i 0
    fresh i e =
        get_or_append_left (take o.timing.depth frees) (replicate (8 - o.timing.depth) 0) 0 i (omega (arith, length-take-le o.timing.depth frees enough))
        ∙ get_or-take o.timing.depth frees i 0 e

    long : o.timing.depth ≤ length l.buffers
    long = omega (arith, length-append (take o.timing.depth frees) (replicate (8 - o.timing.depth) 0), length-take-le o.timing.depth frees enough)

    steady : Steady d w.now w.pool o.head l
    steady =
        let room : o.timing.depth ≤ length frees = enough in
        record {
          settled = record {
            valid = valid;
            home = refl;
            early = ltb-false _ _ pass.1.0;
            on_disk = omega (arith, ltb-false _ _ pass.1.1.0, b.disk.size);
            long = long;
            placed = λ i e. subst (λ x. x < 32) (sym (fresh i e)) (free_small w.lanes w.leases i (omega arith));
          };
          upto = omega arith;
          spared = omega arith;
          released = λ i e. absurd (omega arith);
          bytes = λ i e. absurd (omega arith);
        }

    puts : Puts d w o.head l w.pool
    puts =
        let room : o.timing.depth ≤ length frees = enough in
        record {
          place = valid.head;
          steady = λ _. steady;
          once = λ i j _ _ ii jj same. (refl, grind (arith, fresh i ii, fresh j jj, free_rises w.lanes w.leases i j, free_rises w.lanes w.leases j i));
          apart = λ g i j _ alive ii jj same. absurd (free_of_lanes w.lanes w.leases i g j (omega arith) alive jj (b.lanes g alive).settled.long (sym same ∙ fresh i ii));
          guards = λ m e out j _ jj same. absurd (free_of_leases w.lanes w.leases j m e (omega arith) out (sym (fresh j jj) ∙ same));
          size = b.pool;
          lanes_kept = λ _ _ _ _ _. refl;
          leases_kept = λ _ _ _. refl;
        }

    admitted_base : Base d (admitted w o)
    admitted_base = put_lane d w b o.head (Some l) w.pool puts w.disk w.attempts w.failures b.disk

    admitted_fits : is_some (tried (charged_with w.now w.lanes o)) ≡ false → NoneOverfull (charged_in w.now (admitted w o).lanes)
    admitted_fits none =
        fits_less _ (since w.now (whole (lane (new_work w.now o)) ++ work.attempts (charges w.lanes)))
        (λ x h. omega (
          arith,
          count_charges w.now x h w.lanes o.head (Some l) (omega (arith, b.heads, valid.head)),
          count-since-++ w.now x h (whole (charge l)) (work.attempts (charges w.lanes)),
        ))
        (subst NoneOverfull (charged_with_works w.now w.lanes o) (fits_none (charged_with w.now w.lanes o) none))

  pub admit_sound : (o : Asked) (v : Valid o) → Granted (Sound d) w (admits o v)
  admit_sound o v es =
      let p = all_split (λ c. c.0 ≡ false) (before_crowded w o) (no_room w o ∷ []) es in
      record { base = admitted_base o v p.0; fits = admitted_fits o v p.0 p.1.0 }
