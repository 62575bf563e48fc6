-- A call refuses by the first of its checks that fails, and else gives its result.
use Rattle.std.proofs.Common.{◌≡◌, ℕ, Bool, true, false, cond, List, [], ◌∷◌, ◌++◌, is_some, Some, None, Option, refl, ◌∙◌, arith}
use Rattle.std.specs.List.{AllByRecursion}
use Rattle.std.proofs.lemmas.Bool.{cond_both, cond-true, cond-false, both_ways}
use Rattle.refusal.specs.declared.Fault.{Fault}
use Rattle.windows.specs.Windows.{tried}
use Rattle.history.specs.declared.Event.TheVariants.{Close}
use Rattle.history.specs.declared.Ticked.{Ticked}
use Rattle.history.specs.Bench.{World, lane_at}
use Rattle.history.specs.Calls.{Answer, refused, done, ticked, reported, checked, happens, charged_with, span_told, admitted, admit, admit_checks, choice, passed, served, tick, tick_checks, vacant, taken, take_block, take_checks, lease_told, given, give, give_slip, beyond, not_held, no_slip_of, report_of, closed, close, close_checks, wrong_pool, shows, show, show_slip, report}
use Rattle.history.specs.Told.{Call, admits, ticks, takes, gives, gives_slip, closes, call, after}
use Rattle.history.specs.Laws.{RefusedAltersNothing, LooksAlterNothing}

abbrev pub Passes : List (Bool × Answer) → Type 0
Passes cs = AllByRecursion (λ c. c.0 ≡ false) cs

pub checked_cases : (P : World × Answer → Type 0) (w : World) (cs : List (Bool × Answer)) (r : World × Answer) → AllByRecursion (λ c. c.0 ≡ true → P (w, c.1)) cs
    → (Passes cs → P r) → P (checked w cs r)
checked_cases P w [] r p q = q tt
checked_cases P w (c ∷ cs) r p q = cond_both c.0 (w, c.1) (checked w cs r) P p.0 (λ e. checked_cases P w cs r p.1 (λ es. q (e, es)))

-- where no check refuses, the result is the answer
pub passes : (w : World) (cs : List (Bool × Answer)) (r : World × Answer) → Passes cs → checked w cs r ≡ r
passes w [] r q = refl
passes w (c ∷ cs) r q = cond-false c.0 _ _ q.0 ∙ passes w cs r q.1

-- the first check that fails refuses
pub refuses : (w : World) (cs : List (Bool × Answer)) (c : Bool × Answer) (ds : List (Bool × Answer)) (r : World × Answer) → Passes cs → c.0 ≡ true → checked w (cs ++ c ∷ ds) r ≡ (w, c.1)
refuses w [] c ds r q e = cond-true c.0 (w, c.1) (checked w ds r) e
refuses w (x ∷ cs) c ds r q e = cond-false x.0 (w, x.1) (checked w (cs ++ c ∷ ds) r) q.0 ∙ refuses w cs c ds r q.1 e

-- where the checks before it pass, the last one decides
pub last_decides : (w : World) (cs : List (Bool × Answer)) (c : Bool × Answer) (r : World × Answer) → Passes cs → checked w (cs ++ c ∷ []) r ≡ cond c.0 (w, c.1) r
last_decides w [] c r q = refl
last_decides w (x ∷ cs) c r q = cond-false x.0 (w, x.1) (checked w (cs ++ c ∷ []) r) q.0 ∙ last_decides w cs c r q.1

pub all_split : {X : Type 0} (P : X → Type 0) (xs ys : List X) → AllByRecursion P (xs ++ ys) → AllByRecursion P xs × AllByRecursion P ys
all_split P [] ys q = (tt, q)
all_split P (x ∷ xs) ys q = let r = all_split P xs ys q.1 in ((q.0, r.0), r.1)

-- what is to be shown of a call that is not refused, so that P holds of it
abbrev pub Grants : (World × Answer → Type 0) → World → Call → Type 0
Grants P w (admits o v) = Passes (admit_checks w o) → P (admitted w o, done)
Grants P w (ticks f) = Passes (tick_checks w) → P (served w f (choice w.now w.lanes))
Grants P w (takes h i party slip) = Passes (take_checks w h i party) → P (taken w h i party slip, lease_told w.number (vacant w.leases) party slip)
Grants P w (gives party m) = Passes (beyond party m ∷ not_held w party m ∷ []) → P (given w m, done)
Grants P w (gives_slip x) = Passes (no_slip_of w x ∷ []) → P (given w x.lease, done)
Grants P w (closes h) = Passes (close_checks w h) → P (closed w h, reported (report_of (happens (lane_at w.lanes h) Close)))

module _ (P : World × Answer → Type 0) (w : World) (no : (ns : List ℕ) → P (w, refused ns)) where
  no_span : (x : Option (ℕ × ℕ)) → is_some x ≡ true → P (w, span_told x)
  no_span None e = absurd (both_ways false refl e)
  no_span (Some s) e = no _

  pub call_cases : (c : Call) → Grants P w c → P (call w c)
  unfolding admit tick take_block give give_slip close
  call_cases (admits o v) =
      checked_cases P w (admit_checks w o) (admitted w o, done) ((λ _. no _), ((λ _. no _), ((λ _. no _), ((λ _. no _), (no_span (tried (charged_with w.now w.lanes o)), tt)))))
  call_cases (ticks f) = checked_cases P w (tick_checks w) (served w f (choice w.now w.lanes)) ((λ _. no _), ((λ _. no _), tt))
  call_cases (takes h i party slip) = checked_cases P w (take_checks w h i party) _ ((λ _. no _), ((λ _. no _), ((λ _. no _), ((λ _. no _), tt))))
  call_cases (gives party m) = checked_cases P w (beyond party m ∷ not_held w party m ∷ []) (given w m, done) ((λ _. no _), ((λ _. no _), tt))
  call_cases (gives_slip x) = checked_cases P w (no_slip_of w x ∷ []) (given w x.lease, done) ((λ _. no _), tt)
  call_cases (closes h) = checked_cases P w (close_checks w h) _ ((λ _. no _), ((λ _. no _), tt))

-- WHAT CALLS KEEP

abbrev pub Granted : (World → Type 0) → World → Call → Type 0
Granted P w c = Grants (λ r. P r.0) w c

pub call_keeps : (P : World → Type 0) (w : World) (c : Call) → P w → Granted P w c → P (call w c).0
call_keeps P w c p g = call_cases (λ r. P r.0) w (λ _. p) c g

-- and over a whole history
pub after_keeps : (P : World → Type 0) → ((w : World) (c : Call) → P w → Granted P w c) → (w : World) (cs : List Call) → P w → P (after w cs)
after_keeps P g w [] p = p
after_keeps P g w (c ∷ cs) p = after_keeps P g (call w c).0 cs (call_keeps P w c p (g w c p))

-- REFUSALS, SHOWS AND REPORTS ALTER NOTHING

checked_unaltered : (w : World) (cs : List (Bool × Answer)) (a : Answer) → (checked w cs (w, a)).0 ≡ w
checked_unaltered w [] a = refl
checked_unaltered w (c ∷ cs) a = cond_both c.0 (w, c.1) (checked w cs (w, a)) (λ r. r.0 ≡ w) (λ _. refl) (λ _. checked_unaltered w cs a)

pub looks_law : LooksAlterNothing
unfolding show show_slip report
looks_law w = (
  (λ party m. checked_unaltered w (beyond party m ∷ wrong_pool w ∷ not_held w party m ∷ []) (shows w m)),
  (λ s. checked_unaltered w (wrong_pool w ∷ no_slip_of w s ∷ []) (shows w s.lease)),
  (λ h. checked_unaltered w (close_checks w h) (reported (report_of (lane_at w.lanes h)))),
)

module _ (w : World) (ns : List ℕ) where
  abbrev Unaltered : World × Answer → Type 0
  Unaltered r = r.1 ≡ refused ns → r.0 ≡ w

  ticked_unrefused : (x : Ticked) → ticked x ≡ refused ns → ⊥
  ticked_unrefused x e = let z : ◌≡◌ {A = ℕ} 0 1 = cc in omega arith

  served_unrefused : (f : Fault) (c : Option (ℕ × ℕ)) → Unaltered (served w f c)
  served_unrefused f None = λ e. absurd (ticked_unrefused _ e)
  served_unrefused f (Some c) =
      cond_both _ _ _ (λ (r : World × Answer). r.1 ≡ refused ns → passed r.0 ≡ w) (λ _ e. absurd (ticked_unrefused _ e)) (λ _ e. absurd (ticked_unrefused _ e))

  lease_unrefused : (bench m party : ℕ) (slip : Bool) → lease_told bench m party slip ≡ refused ns → ⊥
  lease_unrefused bench m party true e = let z : ◌≡◌ {A = ℕ} 0 1 = cc in omega arith
  lease_unrefused bench m party false e = let z : ◌≡◌ {A = ℕ} 0 1 = cc in omega arith

  grants_unrefused : (c : Call) → Grants Unaltered w c
  grants_unrefused (admits o v) = λ _ e. absurd (let z : ◌≡◌ {A = ℕ} 0 1 = cc in omega arith)
  grants_unrefused (ticks f) = λ _ e. served_unrefused f (choice w.now w.lanes) e
  grants_unrefused (takes h i party slip) = λ _ e. absurd (lease_unrefused _ _ party slip e)
  grants_unrefused (gives party m) = λ _ e. absurd (let z : ◌≡◌ {A = ℕ} 0 1 = cc in omega arith)
  grants_unrefused (gives_slip x) = λ _ e. absurd (let z : ◌≡◌ {A = ℕ} 0 1 = cc in omega arith)
  grants_unrefused (closes h) = λ _ e. absurd (let z : ◌≡◌ {A = ℕ} 0 1 = cc in omega arith)

pub refused_law : RefusedAltersNothing
refused_law w c ns = call_cases (Unaltered w ns) w (λ _ _. refl) c (grants_unrefused w ns c)
