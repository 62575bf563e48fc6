-- A lease that was taken by slip is shown and given by its slip alone.
use Rattle.std.proofs.Common.{◌≡◌, ℕ, ◌<◌, ◌≤◌, Bool, true, false, cond, not, ◌&&◌, eqb, List, [], ◌∷◌, length, get_or, set, Some, None, Option, sym, refl, ap, ◌∙◌, subst, arith}
use Rattle.std.proofs.lemmas.List.{get_or-set_same, get_or-set_other}
use Rattle.std.proofs.lemmas.Bool.{and_left, and_right, and_from, and_parts, eq-eqb, leb-false, not-false, not_from_true, not_from_false, or_from, le-ltb, ne_eqb, both_ways, false≢true, cond_both}
use Rattle.refusal.specs.declared.Fault.{Fault}
use Rattle.refusal.specs.declared.Refusal.TheVariants.{NotHeld}
use Rattle.disk.specs.Meaning.{Block}
use Rattle.history.specs.declared.Lease.{Lease}
use Rattle.history.specs.Bench.{World, Out, some_and, lane_at}
use Rattle.history.specs.Calls.{Slip, Answer, done, slipped, refuse, new, new_lease, taken, take_block, with_leases, passed, served, choice, vacant, honours, is_out, beyond, wrong_pool, not_held, no_slip_of, shows, show, show_slip, given, give, give_slip}
use Rattle.history.specs.Told.{Call, admits, ticks, takes, gives, gives_slip, closes, after}
use Rattle.history.specs.Laws.{Start, BySlipAlone, GivesNot, HonouredUntilGiven}
use Rattle.history.proofs.Checks.{Granted, refuses, passes, call_cases, call_keeps}
use Rattle.history.proofs.Histories.{new_sound, after_sound, after_onward, out_below, pool_sized}
use Rattle.history.proofs.Sharing.{vacant_none}
use Rattle.history.proofs.Sound.{Sound}
use Rattle.history.proofs.Telling.{told_is}

module _ (d : List Block) (w : World) (s : Sound d w) where
  module _ (m party : ℕ) (e : Lease) (out : Out w.leases m e) (by-slip : e.slip ≡ true) (low : party ≤ 3) where
    within : (beyond party m).0 ≡ false
    within = or_from _ _ (le-ltb 3 party low) (le-ltb 15 m (omega (arith, out_below d w s m e out)))

    unheld : (not_held w party m).0 ≡ true
    unheld =
        not_from_false (is_out w party m false) (subst (λ o. some_and (λ x. eqb x.party party && cond false x.slip (not x.slip)) o ≡ false) (sym out)
        (and_right (eqb e.party party) (not e.slip) (not_from_true e.slip by-slip)))

    not_shown : (show w party m).1 ≡ refuse NotHeld
    unfolding show
    not_shown = ap (λ r. r.1) (refuses w (beyond party m ∷ wrong_pool w ∷ []) (not_held w party m) [] (w, shows w m) (within, (pool_sized d w s, tt)) unheld)

    not_given : (give w party m).1 ≡ refuse NotHeld
    unfolding give
    not_given = ap (λ r. r.1) (refuses w (beyond party m ∷ []) (not_held w party m) [] (given w m, done) (within, tt) unheld)

  module _ (x : Slip) (other : x.bench ≡ w.number → ⊥) where
    foreign : (no_slip_of w x).0 ≡ true
    foreign = not_from_false _ (and_left (eqb x.bench w.number) _ (ne_eqb x.bench w.number other))

    slip_not_shown : (show_slip w x).1 ≡ refuse NotHeld
    unfolding show_slip
    slip_not_shown = ap (λ r. r.1) (refuses w (wrong_pool w ∷ []) (no_slip_of w x) [] (w, shows w x.lease) (pool_sized d w s, tt) foreign)

    slip_not_given : (give_slip w x).1 ≡ refuse NotHeld
    unfolding give_slip
    slip_not_given = ap (λ r. r.1) (refuses w [] (no_slip_of w x) [] (given w x.lease, done) tt foreign)

pub slip_law : (number : ℕ) (disk : List Block) (pool : List ℕ) → Start disk pool → BySlipAlone number disk pool
slip_law number disk pool start cs =
    let w : World = after (new number disk pool) cs in
    let s : Sound disk w = after_sound disk (new number disk pool) cs (new_sound number disk pool start) in (
      λ m party e out by low.
          let is : Out w.leases m e = subst (λ t. Out t.leases m e) (told_is number disk pool cs) out in
          (not_shown disk w s m party e is by low, not_given disk w s m party e is by low),
      λ x other.
          let ne : x.bench ≡ w.number → ⊥ = λ q. other (q ∙ (after_onward (new number disk pool) cs).0) in
          (slip_not_shown disk w s x ne, slip_not_given disk w s x ne),
    )

-- A SLIP UNTIL IT IS GIVEN

abbrev out_by : ℕ → Bool → Option Lease → Bool
out_by party slip o = some_and (λ e. eqb e.party party && cond slip e.slip (not e.slip)) o

nothing_out : (party : ℕ) (o : Option Lease) → o ≡ None → out_by party true o ≡ true → ⊥
nothing_out party o is e = false≢true (sym (ap (out_by party true) is) ∙ e)

not_both : (party q : ℕ) (o : Option Lease) → out_by party true o ≡ true → out_by q false o ≡ true → ⊥
not_both party q None a b = false≢true a
not_both party q (Some e) a b = both_ways e.slip (by e.slip (and_parts (eqb e.party q) _ b).1) (and_parts (eqb e.party party) _ a).1
  where
    by : (x : Bool) → not x ≡ true → x ≡ false
    by true h = sym h
    by false h = refl

module _ (w : World) (s : Slip) (good : honours w s ≡ true) where
  abbrev Good : World → Type 0
  Good x = honours x s ≡ true

  held : out_by s.party true (get_or w.leases s.lease None) ≡ true
  held = (and_parts (eqb s.bench w.number) _ good).1

  -- a change of another lease
  elsewhere : (m : ℕ) (o : Option Lease) → (s.lease ≡ m → ⊥) → Good (with_leases w (set w.leases m o))
  elsewhere m o ne = subst (λ x. (eqb s.bench w.number && out_by s.party true x) ≡ true) (sym (get_or-set_other w.leases m s.lease o None ne)) good

  good_served : (f : Fault) (c : Option (ℕ × ℕ)) → Good (served w f c).0
  good_served f None = good
  good_served f (Some c) = cond_both _ _ _ (λ (r : World × Answer). Good (passed r.0)) (λ _. good) (λ _. good)

  good_granted : (c : Call) → GivesNot s.lease c → Granted Good w c
  good_granted (admits o v) not = λ _. good
  good_granted (ticks f) not = λ _. good_served f (choice w.now w.lanes)
  good_granted (takes h i party slip) not = λ _. elsewhere (vacant w.leases) _ (λ is. nothing_out s.party _ (ap (λ m. get_or w.leases m None) is ∙ vacant_none w.leases) held)
  good_granted (gives party m) not = λ p. elsewhere m None (λ is. not_both s.party party (get_or w.leases m None) (subst (λ m. out_by s.party true (get_or w.leases m None) ≡ true) is held) (not-false _ p.1.0))
  good_granted (gives_slip x) not = λ _. elsewhere x.lease None (λ is. not (sym is))
  good_granted (closes h) not = λ _. good

  given_back : (give_slip w s).1 ≡ done
  unfolding give_slip
  given_back = ap (λ r. r.1) (passes w (no_slip_of w s ∷ []) (given w s.lease, done) (not_from_true _ good, tt))

pub honoured_law : HonouredUntilGiven
honoured_law w s good = (given_back w s good, λ c other. call_keeps (λ x. honours x s ≡ true) w c good (good_granted w s good c other))

-- the slip that a take hands out is honoured
pub taken_honoured : (w : World) (h i party : ℕ) (s : Slip) → length w.leases ≡ 16 → (take_block w h i party true).1 ≡ slipped s → honours (take_block w h i party true).0 s ≡ true
taken_honoured w h i party s len =
    call_cases (λ r. r.1 ≡ slipped s → honours r.0 s ≡ true) w (λ ns e. absurd (let z : ◌≡◌ {A = ℕ} 0 1 = cc in omega arith)) (takes h i party true)
    (λ p e.
    let free : vacant w.leases < length w.leases = omega (arith, leb-false _ _ p.1.1.1.0) in
    let is : s ≡ record { lease = vacant w.leases; bench = w.number; party = party } = cc in
    let new : Lease = new_lease (lane_at w.lanes h) h i party true in
    subst (λ x. honours (taken w h i party true) x ≡ true) (sym is)
    (and_from (eqb w.number w.number) _ (eq-eqb w.number w.number refl)
    (subst (λ o. out_by party true o ≡ true) (sym (get_or-set_same w.leases (vacant w.leases) (Some new) None free)) (and_from (eqb party party) true (eq-eqb party party refl) refl))))
