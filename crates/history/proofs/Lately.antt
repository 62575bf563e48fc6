-- Every lease that is out was taken in a lane admitted before now.
use Rattle.std.proofs.Common.{◌≡◌, ℕ, zero, suc, ◌<◌, ◌≤◌, Bool, true, ltb, List, [], ◌∷◌, get_or, set, Some, None, Option, sym, refl, subst, arith}
use Rattle.std.proofs.lemmas.Bool.{cond_both, and_parts, ltb-true, not-false}
use Rattle.refusal.specs.declared.Fault.{Fault}
use Rattle.disk.specs.Meaning.{Block}
use Rattle.history.specs.declared.Event.{Event}
use Rattle.history.specs.declared.Event.TheVariants.{FailedAttempt, BlockRead, BurnEnd, Close}
use Rattle.history.specs.declared.Lane.{Lane}
use Rattle.history.specs.declared.Lease.{Lease}
use Rattle.history.specs.Bench.{World, Out, is_live, lane_in, lane_at, free}
use Rattle.history.specs.Calls.{Answer, new, on_live, happens, new_lane, all_aged, passed, choice, served, there, taken, vacant}
use Rattle.history.specs.Told.{Call, admits, ticks, takes, gives, gives_slip, closes}
use Rattle.history.specs.Laws.{SlotTellsLane}
use Rattle.history.proofs.Checks.{Granted, after_keeps}
use Rattle.history.proofs.Histories.{same_at}
use Rattle.history.proofs.Leases.{some_is}
use Rattle.history.proofs.Passing.{aged_at, aged_cases}
use Rattle.history.proofs.Telling.{told_is}

-- a lane with a block read was admitted before now
abbrev LateLane : ℕ → Lane → Type 0
LateLane now l = (l.admitted ≤ now) × (0 < l.next → l.admitted < now)

abbrev LateLease : ℕ → Option Lease → Type 0
LateLease now o = (e : Lease) → o ≡ Some e → e.admitted < now

record Late (w : World) : Type 0 where
  lanes : (h : ℕ) → LateLane w.now (lane_at w.lanes h)
  leases : (m : ℕ) → LateLease w.now (get_or w.leases m None)

set_any : {A : Type 0} (P : A → Type 0) (xs : List A) (k g : ℕ) (a d : A) → P a → P (get_or xs g d) → P (get_or (set xs k a) g d)
set_any P [] k g a d new old = old
set_any P (x ∷ xs) zero zero a d new old = new
set_any P (x ∷ xs) zero (suc g) a d new old = old
set_any P (x ∷ xs) (suc k) zero a d new old = old
set_any P (x ∷ xs) (suc k) (suc g) a d new old = set_any P xs k g a d new old

happens_admitted : (l : Lane) (e : Event) → (happens l e).admitted ≡ l.admitted
happens_admitted l e = cond_both (is_live l.stage) (on_live l e) l (λ x. x.admitted ≡ l.admitted) (λ _. by e) (λ _. refl)
  where
    by : (e : Event) → (on_live l e).admitted ≡ l.admitted
    by (FailedAttempt f) = refl
    by BlockRead = refl
    by (BurnEnd held last) = refl
    by Close = refl

none_late : (now : ℕ) → LateLease now None
none_late now e q = absurd (let z : ◌≡◌ {A = ℕ} 0 1 = cc in omega arith)

module _ (w : World) (s : Late w) where
  put_lane : (k : ℕ) (o : Option Lane) → LateLane w.now (lane_in o) → (h : ℕ) → LateLane w.now (lane_at (set w.lanes k o) h)
  put_lane k o new h = set_any (λ x. LateLane w.now (lane_in x)) w.lanes k h o None new (s.lanes h)

  put_lease : (k : ℕ) (o : Option Lease) → LateLease w.now o → (m : ℕ) → LateLease w.now (get_or (set w.leases k o) m None)
  put_lease k o new m = set_any (LateLease w.now) w.leases k m o None new (s.leases m)

  -- a slot passes after lanes that were admitted by now
  passes_on : (ls : List (Option Lane)) → ((h : ℕ) → (lane_at ls h).admitted ≤ w.now)
      → (h : ℕ) → LateLane (suc w.now) (lane_at (all_aged (suc w.now) w.leases ls) h)
  passes_on ls by h =
      subst (LateLane (suc w.now)) (sym (aged_at (suc w.now) w.leases ls h))
      (let k = by h in aged_cases (suc w.now) w.leases (LateLane (suc w.now)) (lane_at ls h) (omega arith, λ _. omega arith) (omega arith, λ _. omega arith) (λ _. (omega arith, λ _. omega arith)))

  leases_on : (m : ℕ) → LateLease (suc w.now) (get_or w.leases m None)
  leases_on m e q = omega (arith, s.leases m e q)

  served_late : (f : Fault) (c : Option (ℕ × ℕ)) → Late (served w f c).0
  served_late f None = record { lanes = passes_on w.lanes (λ h. (s.lanes h).0); leases = leases_on }
  served_late f (Some c) =
      let l : Lane = lane_at w.lanes c.0 in
      let by : (e : Event) (h : ℕ) → (lane_at (set w.lanes c.0 (Some (happens l e))) h).admitted ≤ w.now =
      λ e h. set_any (λ x. (lane_in x).admitted ≤ w.now) w.lanes c.0 h (Some (happens l e)) None (subst (λ a. a ≤ w.now) (sym (happens_admitted l e)) (s.lanes c.0).0) (s.lanes h).0 in
      cond_both _ _ _ (λ (r : World × Answer). Late (passed r.0))
      (λ _. record { lanes = passes_on _ (by BlockRead); leases = leases_on })
      (λ _. record { lanes = passes_on _ (by (FailedAttempt f)); leases = leases_on })

  taken_late : (h i party : ℕ) (slip : Bool) → there w.now (lane_at w.lanes h) i ≡ true → Late (taken w h i party slip)
  taken_late h i party slip is =
      let l : Lane = lane_at w.lanes h in
      let lt = ltb-true i l.next (and_parts (ltb i l.next) _ (and_parts (is_live l.stage) _ is).1).0 in
      record { lanes = s.lanes; leases = put_lease (vacant w.leases) _ (λ e q. subst (λ e. e.admitted < w.now) (some_is q) ((s.lanes h).1 (omega arith))) }

  granted_late : (c : Call) → Granted Late w c
  granted_late (admits o v) = λ _. record { lanes = put_lane o.head (Some (new_lane w.now (free w.lanes w.leases) o)) (omega arith, λ e. absurd (omega arith)); leases = s.leases }
  granted_late (ticks f) = λ _. served_late f (choice w.now w.lanes)
  granted_late (takes h i party slip) = λ es. taken_late h i party slip (not-false _ es.1.1.0)
  granted_late (gives party m) = λ _. record { lanes = s.lanes; leases = put_lease m None (none_late w.now) }
  granted_late (gives_slip x) = λ _. record { lanes = s.lanes; leases = put_lease x.lease None (none_late w.now) }
  granted_late (closes h) = λ _. record { lanes = put_lane h None (omega arith, λ e. absurd (omega arith)); leases = s.leases }

pub lane_law : (number : ℕ) (disk : List Block) (pool : List ℕ) → SlotTellsLane number disk pool
lane_law number disk pool cs m e =
    let start : Late (new number disk pool) = record {
      lanes = λ h. subst (λ o. LateLane 0 (lane_in o)) (sym (same_at 8 h None)) (omega arith, λ e. absurd (omega arith));
      leases = λ m. subst (LateLease 0) (sym (same_at 16 m None)) (none_late 0);
    } in
    subst (λ t. Out t.leases m e → e.admitted < t.now) (sym (told_is number disk pool cs)) ((after_keeps Late (λ w c s. granted_late w s c) (new number disk pool) cs start).leases m e)
