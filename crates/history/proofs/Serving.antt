-- What is charged leaves no span overfull while slots pass: in one that is idle, and in one that serves the chosen lane.
use Rattle.std.proofs.Common.{◌≡◌, ℕ, suc, ◌<◌, ◌≤◌, List, length, get_or, set, Some, None, Option, sym, refl, subst, inl, inr, arith}
use Rattle.std.proofs.lemmas.List.{length-map, map-set}
use Rattle.std.proofs.ByRecursion.{All-from_get_or, All-map}
use Rattle.std.proofs.lemmas.Bool.{cond_both, both_ways, cases_lt, cases_Bool, cond-true, cond-false}
use Rattle.windows.specs.Windows.{NoneOverfull, count, since, Rule}
use Rattle.windows.specs.Lanes as windows
use Rattle.windows.specs.Lanes.{up_to, attempts, spend, NoneSooner}
use Rattle.schedule.specs.Orders.{deadline, release, owed}
use Rattle.history.specs.declared.Lane.{Lane}
use Rattle.history.specs.declared.Stage.{Stage}
use Rattle.history.specs.Bench.{is_live, lane_in, lane_at, no_lane, work}
use Rattle.history.specs.Calls.{moved}
use Rattle.history.proofs.Charges.{charge, charges, charged_in, windows_of, whole, fits_less, fits_rule, count_set, less_tries, serves, waits, on_time}
use Rattle.history.proofs.Choosing.{Idle, Chosen, due_first}
use Rattle.history.proofs.Passing.{get_or_map_any}
use Rattle.history.proofs.Sound.{IsLive}

charge_live : (j : ℕ) (l : Lane) → j < (charge l).blocks → IsLive l
charge_live j l e = elim (cases_Bool (is_live l.stage)) [
  | inl t ↦ t
  | inr f ↦ absurd (let z : (charge l).blocks ≡ 0 = cond-false _ _ 0 f in omega arith)
]

pub charge_at : (ls : List (Option Lane)) (k : ℕ) → get_or (charges ls) k (charge no_lane) ≡ charge (lane_at ls k)
charge_at ls k = get_or_map_any (λ o. charge (lane_in o)) ls k None

-- every lane that is live was admitted before its start
abbrev pub Early : List (Option Lane) → Type 0
Early ls = (h : ℕ) → IsLive (lane_at ls h) → (lane_at ls h).admitted ≤ (lane_at ls h).order.timing.start

pub idle_fits : (t : ℕ) (ls : List (Option Lane)) → Early ls → Idle t ls → NoneOverfull (charged_in t ls) → NoneOverfull (charged_in (suc t) ls)
idle_fits t ls early idle =
    fits_rule t _ _ (waits t (charges ls) (All-map (λ a. (j : ℕ) → j < a.blocks → 0 < a.owed j → t < a.release j) (λ o. charge (lane_in o)) ls
    (All-from_get_or _ ls None (λ h in' j lt some. elim (cases_lt t (release (lane_at ls h).order.timing (lane_at ls h).admitted j)) [
      | inl late ↦ late
      | inr rel ↦ absurd (both_ways _ (idle h) (due_first t j (lane_at ls h) (early h (charge_live j (lane_at ls h) lt)) lt some rel).0)
    ]))))

-- the chosen lane's lowest unread block is served
module _ (t : ℕ) (ls : List (Option Lane)) (k D : ℕ) (chosen : Chosen t ls (k, D)) (early : Early ls) (spared : (lane_at ls k).failed ≤ (lane_at ls k).order.timing.spare) where
  abbrev l : Lane
  l = lane_at ls k

  abbrev spent : windows.Lane
  spent = spend (charge l) l.next

  inside : k < length (charges ls)
  inside = rw length-map chosen.place

  -- it is charged, and released
  open_lane : (l.next < (charge l).blocks) × (0 < owed (work l) l.next) × (release l.order.timing l.admitted l.next ≤ t)
  open_lane = let is = chosen.is_due in (grind arith, grind arith, grind arith)

  ahead : NoneOverfull (charged_in t ls) → t < deadline l.order.timing l.next
  ahead fits =
      subst (λ a. l.next < a.blocks → 0 < a.owed l.next → t < a.deadline l.next) (charge_at ls k)
      (λ lt some. on_time t l.next k (charges ls) (charge no_lane) inside lt some fits) open_lane.0 open_lane.1

  none_sooner : NoneSooner t (deadline l.order.timing l.next) (charges ls)
  none_sooner =
      All-map (λ a. (j : ℕ) → j < a.blocks → 0 < a.owed j → a.release j ≤ t → deadline l.order.timing l.next ≤ a.deadline j) (λ o. charge (lane_in o)) ls
      (All-from_get_or _ ls None (λ h in' j lt some rel.
      let q = due_first t j (lane_at ls h) (early h (charge_live j (lane_at ls h) lt)) lt some rel in
      omega (arith, chosen.is, (chosen.first h q.0).0, q.1)))

  rule : NoneOverfull (charged_in t ls) → Rule t (attempts (charges ls)) (attempts (set (charges ls) k spent))
  rule fits =
      subst (λ a. l.next < a.blocks → 0 < a.owed l.next → a.release l.next ≤ t → t < a.deadline l.next → NoneSooner t (a.deadline l.next) (charges ls)
      → Rule t (attempts (charges ls)) (attempts (set (charges ls) k (spend a l.next)))) (charge_at ls k)
      (serves t l.next k (charges ls) (charge no_lane) inside) open_lane.0 open_lane.1 open_lane.2 (ahead fits) none_sooner

  -- what the lane then charges is no more than with one attempt spent
  module _ (i f : ℕ) (s : Stage) (few : (j : ℕ) → owed (work (moved l i f s)) j ≤ spent.owed j) where
    less : (a h : ℕ) → count a h (windows_of (suc t) (moved l i f s)) ≤ count a h (since (suc t) (whole spent))
    less a h =
        cond_both (is_live s) l.order.timing.count 0 (λ m. count a h (since (suc t) (up_to (charge (moved l i f s)) m)) ≤ count a h (since (suc t) (whole spent)))
        (λ _. subst (λ m. count a h (since (suc t) (up_to (charge (moved l i f s)) l.order.timing.count)) ≤ count a h (since (suc t) (up_to spent m)))
        (sym (cond-true _ _ 0 (charge_live _ l open_lane.0)))
        (less_tries (suc t) a h spent (charge (moved l i f s)) l.order.timing.count (λ j _. few j) (λ _. refl)))
        (λ _. omega arith)

    pub served_fits : NoneOverfull (charged_in t ls) → NoneOverfull (charged_in (suc t) (set ls k (Some (moved l i f s))))
    served_fits fits =
        fits_less _ _
        (λ a h. rw (map-set (λ o. charge (lane_in o)) ls k (Some (moved l i f s)))
        (omega (
          arith,
          count_set (suc t) a h (charges ls) k (charge (moved l i f s)) (charge no_lane) inside,
          count_set (suc t) a h (charges ls) k spent (charge no_lane) inside,
          less a h,
        )))
        (fits_rule t _ _ (rule fits) fits)
