-- A bench is sound after every list of calls, and what follows from that.
use Rattle.std.proofs.Common.{◌≡◌, ℕ, zero, suc, ◌<◌, ◌≤◌, Bool, true, false, cond, not, ◌&&◌, eqb, List, [], ◌∷◌, length, get_or, replicate, is_some, Some, None, Option, sym, refl, ap, ◌∙◌, subst, arith, MatchOption}
use Rattle.std.proofs.lemmas.Bool.{both_ways, eqb-true, and_from, or_from, not_from_true, not_from_false, le-ltb, eq-eqb, cond_both}
use Rattle.refusal.specs.declared.Fault.{Fault}
use Rattle.refusal.specs.declared.Refusal.TheVariants.{Crowded}
use Rattle.disk.specs.Meaning.{Block, block_at, read_number}
use Rattle.windows.specs.Windows.{Window, Assigned, NoneOverfull, tried, FirstOverfull}
use Rattle.windows.proofs.Find.{decision}
use Rattle.history.specs.declared.Asked.{Asked}
use Rattle.history.specs.declared.Lease.{Lease}
use Rattle.history.specs.Bench.{World, Out, some_and, lane_at, bytes_in}
use Rattle.history.specs.Calls.{Slip, Answer, done, shown, refuse, span_told, new, admitted, before_crowded, no_room, charged_with, admit, is_out, buffer_in, beyond, wrong_pool, not_held, no_slip_of, shows, show, show_slip, choice, passed, next_deadline, next_block, served, tick, tick_checks}
use Rattle.history.specs.Told.{Call, admits, ticks, takes, gives, gives_slip, closes, call, after, lane_of}
use Rattle.history.specs.Laws.{Start, PassesEarlierChecks, Assignable, Earliest, Serves, ReadsEarliestDeadline, CrowdedExactlyWhenNoAssignment, ShownAsOnDisk}
use Rattle.history.proofs.Admitting.{admit_sound, close_sound}
use Rattle.history.proofs.Checks.{Passes, passes, checked_cases, last_decides, Granted, call_keeps, after_keeps}
use Rattle.history.proofs.Choosing.{Idle, Chosen, chosen}
use Rattle.history.proofs.Leases.{take_sound, give_sound, give_slip_sound, out_small}
use Rattle.history.proofs.Sound.{IsLive, Kept, Sound}
use Rattle.history.proofs.Telling.{view, told_is}
use Rattle.history.proofs.Ticking.{tick_sound}

pub same_at : {A : Type 0} (n h : ℕ) (x : A) → get_or (replicate n x) h x ≡ x
same_at zero h x = refl
same_at (suc n) zero x = refl
same_at (suc n) (suc h) x = same_at n h x

pub new_sound : (number : ℕ) (disk : List Block) (pool : List ℕ) → Start disk pool → Sound disk (new number disk pool)
new_sound number disk pool s = record {
  base = record {
    heads = refl;
    numbers = refl;
    pool = s.size;
    full = λ b e. s.proper.whole b e;
    disk = record { size = refl; bytes = λ _. refl };
    lanes = λ h alive. absurd (empty h alive);
    apart = λ h g i j alive. absurd (empty h alive);
    leases = λ m e out. absurd (let z : None ≡ Some e = sym (same_at 16 m None) ∙ out in let y : ◌≡◌ {A = ℕ} 0 1 = cc in omega arith);
  };
  fits = λ h o. omega arith;
}
  where
    empty : (h : ℕ) → IsLive (lane_at (replicate 8 None) h) → ⊥
    empty h alive = both_ways false refl (subst (λ o. IsLive (lane_at (o ∷ []) 0)) (same_at 8 h None) alive)

granted_sound : (d : List Block) (w : World) (c : Call) → Sound d w → Granted (Sound d) w c
granted_sound d w (admits o v) s = admit_sound d w s o v
granted_sound d w (ticks f) s = tick_sound d w f s
granted_sound d w (takes h i party slip) s = take_sound d w s h i party slip
granted_sound d w (gives party m) s = give_sound d w s party m
granted_sound d w (gives_slip x) s = give_slip_sound d w s x
granted_sound d w (closes h) s = close_sound d w s h

pub call_sound : (d : List Block) (w : World) (c : Call) → Sound d w → Sound d (call w c).0
call_sound d w c s = call_keeps (Sound d) w c s (granted_sound d w c s)

pub after_sound : (d : List Block) (w : World) (cs : List Call) → Sound d w → Sound d (after w cs)
after_sound d = after_keeps (Sound d) (granted_sound d)

decides : (ws : List Window) (w : World) (r : World) (o : Option (ℕ × ℕ)) → MatchOption o (NoneOverfull ws) (FirstOverfull ws) → (o ≡ None → Assignable ws) → ((ss : List ℕ) → Assigned ws ss → o ≡ None)
    → (Assignable ws → (cond {A = World × Answer} (is_some o) (w, span_told o) (r, done)).1 ≡ done)
    × ((Assignable ws → ⊥) → (l h : ℕ) × ((cond {A = World × Answer} (is_some o) (w, span_told o) (r, done)).1 ≡ refuse (Crowded (record { l = l; h = h }))) × FirstOverfull ws (l, h))
decides ws w r None c f g = ((λ a. refl), λ n. absurd (n (f refl)))
decides ws w r (Some s) c f g = ((λ a. absurd (let e = g a.0 a.1 in let z : ◌≡◌ {A = ℕ} 0 1 = cc in omega arith)), λ n. (s.0, s.1, refl, c))

passes_earlier : (w : World) (o : Asked) (n : ℕ) → length w.disk ≡ n → PassesEarlierChecks n (view w) o → Passes (before_crowded w o)
passes_earlier w o n size p = (ap is_some p.head, (le-ltb _ _ p.start, (le-ltb _ _ (omega (arith, p.on_disk)), (le-ltb _ _ p.buffers, tt))))

pub crowded_law : (number : ℕ) (disk : List Block) (pool : List ℕ) → Start disk pool → CrowdedExactlyWhenNoAssignment number disk pool
unfolding admit
crowded_law number disk pool start cs o v =
    let w : World = after (new number disk pool) cs in
    let size = (after_sound disk (new number disk pool) cs (new_sound number disk pool start)).base.disk.size in
    let Law : List Window → World × Answer → Type 0 = λ ws r. (Assignable ws → r.1 ≡ done) × ((Assignable ws → ⊥) → (l h : ℕ) × (r.1 ≡ refuse (Crowded (record { l = l; h = h }))) × FirstOverfull ws (l, h)) in
    let ws : List Window = charged_with w.now w.lanes o in
    let q = decision ws in
    subst (λ t. PassesEarlierChecks (length disk) t o → Law (charged_with t.now t.lanes o) (admit w o)) (sym (told_is number disk pool cs))
    (λ p. subst (Law ws) (sym (last_decides w (before_crowded w o) (no_room w o) (admitted w o, done) (passes_earlier w o (length disk) size p)))
    (decides ws w (admitted w o) (tried ws) q.0 q.1 q.2))

-- the same bench, no earlier than slot t
abbrev pub Onward : ℕ → ℕ → World → Type 0
Onward n t x = (x.number ≡ n) × (t ≤ x.now)

pub after_onward : (w : World) (cs : List Call) → Onward w.number w.now (after w cs)
after_onward w cs = after_keeps (Onward w.number w.now) granted_onward w cs (refl, omega arith)
  where
    ticked : (x : World) → Onward w.number w.now x → (f : Fault) (c : Option (ℕ × ℕ)) → Onward w.number w.now (served x f c).0
    ticked x p f None = (p.0, omega arith)
    ticked x p f (Some c) = cond_both _ _ _ (λ (r : World × Answer). Onward w.number w.now (passed r.0)) (λ _. (p.0, omega arith)) (λ _. (p.0, omega arith))

    granted_onward : (x : World) (c : Call) → Onward w.number w.now x → Granted (Onward w.number w.now) x c
    granted_onward x (admits o v) p = λ _. p
    granted_onward x (ticks f) p = λ _. ticked x p f (choice x.now x.lanes)
    granted_onward x (takes h i party slip) p = λ _. p
    granted_onward x (gives party m) p = λ _. p
    granted_onward x (gives_slip y) p = λ _. p
    granted_onward x (closes h) p = λ _. p

pub pool_sized : (d : List Block) (w : World) (s : Sound d w) → (wrong_pool w).0 ≡ false
pool_sized d w s = not_from_true _ (eq-eqb _ 2048 s.base.pool)

module _ (d : List Block) (w : World) (s : Sound d w) (m : ℕ) (e : Lease) (out : Out w.leases m e) where
  kept : Kept d w.now w.pool w.lanes e
  kept = s.base.leases m e out

  shows_it : shows w m ≡ shown (block_at d e.block).bytes
  shows_it = ap (λ o. shown (bytes_in w.pool (buffer_in o))) out ∙ ap shown kept.bytes

  held_by : (slip : Bool) → e.slip ≡ slip → is_out w e.party m slip ≡ true
  held_by slip q =
      subst (λ o. some_and (λ x. eqb x.party e.party && cond slip x.slip (not x.slip)) o ≡ true) (sym out)
      (and_from _ _ (eq-eqb e.party e.party refl) (by slip e.slip q))
    where
      by : (a c : Bool) → c ≡ a → cond a c (not c) ≡ true
      by true c q = q
      by false c q = not_from_false c q

  pub out_below : m < 16
  out_below = out_small d w s (λ _. true) m (subst (λ o. some_and (λ _. true) o ≡ true) (sym out) refl)

  shown_by_number : e.slip ≡ false → (show w e.party m).1 ≡ shown (block_at d e.block).bytes
  unfolding show
  shown_by_number q =
      ap (λ r. r.1) (passes w (beyond e.party m ∷ wrong_pool w ∷ not_held w e.party m ∷ []) (w, shows w m)
      (or_from _ _ (le-ltb 3 e.party kept.party) (le-ltb 15 m (omega (arith, out_below))), (pool_sized d w s, (not_from_true _ (held_by false q), tt))))
      ∙ shows_it

  shown_by_slip : e.slip ≡ true → (show_slip w (record { lease = m; bench = w.number; party = e.party })).1 ≡ shown (block_at d e.block).bytes
  unfolding show_slip
  shown_by_slip q =
      let x : Slip = record { lease = m; bench = w.number; party = e.party } in
      ap (λ r. r.1) (passes w (wrong_pool w ∷ no_slip_of w x ∷ []) (w, shows w m)
      (pool_sized d w s, (not_from_true _ (and_from _ _ (eq-eqb w.number w.number refl) (held_by true q)), tt)))
      ∙ shows_it

pub shown_law : (number : ℕ) (disk : List Block) (pool : List ℕ) → Start disk pool → ShownAsOnDisk number disk pool
shown_law number disk pool start cs m e =
    let w : World = after (new number disk pool) cs in
    let s : Sound disk w = after_sound disk (new number disk pool) cs (new_sound number disk pool start) in
    subst (λ t. Out t.leases m e → (e.block < length disk) × (e.slip ≡ false → (show w e.party m).1 ≡ shown (block_at disk e.block).bytes)
    × (e.slip ≡ true → (show_slip w (record { lease = m; bench = number; party = e.party })).1 ≡ shown (block_at disk e.block).bytes)
    × ((block_at t.disk e.block).bytes ≡ (block_at disk e.block).bytes)) (sym (told_is number disk pool cs)) (λ out. (
      (s.base.leases m e out).on_disk,
      shown_by_number disk w s m e out,
      subst (λ n. e.slip ≡ true → (show_slip w (record { lease = m; bench = n; party = e.party })).1 ≡ shown (block_at disk e.block).bytes)
          (after_onward (new number disk pool) cs).0 (shown_by_slip disk w s m e out),
      s.base.disk.bytes e.block,
    ))

served_serves : (w : World) (f : Fault) (c : Option (ℕ × ℕ)) → MatchOption c (Idle w.now w.lanes) (Chosen w.now w.lanes) → Serves w.now (lane_at w.lanes) (served w f c).1
served_serves w f None q = q
served_serves w f (Some c) q =
    let is : Earliest w.now (lane_at w.lanes) c.0 (lane_at w.lanes c.0).next =
    (q.is_due, refl, λ g yes. subst (λ d. (d ≤ next_deadline (lane_at w.lanes g)) × (d ≡ next_deadline (lane_at w.lanes g) → c.0 ≤ g)) (sym q.is) (q.first g yes)) in
    cond_both (eqb (read_number w.disk (next_block (lane_at w.lanes c.0)) 64) 0) _ _ (λ (r : World × Answer). Serves w.now (lane_at w.lanes) r.1) (λ _. is) (λ _. (is, refl))

pub rule_law : (number : ℕ) (disk : List Block) (pool : List ℕ) → Start disk pool → ReadsEarliestDeadline number disk pool
unfolding tick
rule_law number disk pool start cs f =
    let w : World = after (new number disk pool) cs in
    let s : Sound disk w = after_sound disk (new number disk pool) cs (new_sound number disk pool start) in
    let law : Serves w.now (lane_at w.lanes) (tick w f).1 =
    checked_cases (λ r. Serves w.now (lane_at w.lanes) r.1) w (tick_checks w) (served w f (choice w.now w.lanes))
    ((λ e. absurd (both_ways _ (pool_sized disk w s) e)), ((λ e. eqb-true w.now 1000000 e), tt))
    (λ _. served_serves w f (choice w.now w.lanes) (chosen w.now w.lanes)) in
    subst (λ t. Serves t.now (lane_of t) (tick w f).1) (sym (told_is number disk pool cs)) law
