-- What a take answers and leaves, check by check.
use Rattle.std.proofs.Common.{◌≡◌, ℕ, ◌+◌, ◌<◌, ◌≤◌, Bool, true, false, cond, not, ◌||◌, ltb, leb, List, [], ◌∷◌, length, get_or, is_some, Some, None, Option, Result, sym, refl, ap, ◌∙◌, subst, arith, MatchResult}
use Rattle.std.specs.List.{position, position_or_len}
use Rattle.std.specs.Option.{ok_or}
use Rattle.std.proofs.lemmas.List.Recursion.{is_position_or_len}
use Rattle.history.specs.declared.Lane.{Lane}
use Rattle.history.specs.declared.Lease.{Lease}
use Rattle.bench.specs.Sound.{live_ok}
use Rattle.std.proofs.lemmas.Bool.Decides.{nat_tests}
use Rattle.refusal.specs.declared.Refusal.{Refusal}
use Rattle.refusal.specs.declared.Refusal.TheVariants.{Bounds, NotThere, LeasesOut, HeadEmpty}
use Rattle.history.specs.Bench.{World, lane_at}
use Rattle.std.proofs.lemmas.Bool.{false≢true, cond_both, ltb-true, ltb-false}
use Rattle.history.proofs.Slips.{taken_honoured}
use Rattle.history.specs.Calls.{honours, refuse, there, vacant, taken, lease_told, take_block}

module _ (w : World) (h i party : ℕ) (slip : Bool) where
  abbrev pub off_limits : Bool
  off_limits = ltb 7 h || (ltb 4095 i || ltb 3 party)

  abbrev pub empty : Bool
  empty = not (is_some (get_or w.lanes h None))

  abbrev pub gone : Bool
  gone = not (there w.now (lane_at w.lanes h) i)

  pub take_off_limits : off_limits ≡ true → take_block w h i party slip ≡ (w, refuse Bounds)
  unfolding take_block
  take_off_limits p = rw p refl

  module _ (p : off_limits ≡ false) where
    pub take_empty : empty ≡ true → take_block w h i party slip ≡ (w, refuse HeadEmpty)
    unfolding take_block
    take_empty q = rw (p, q) refl

    module _ (q : empty ≡ false) where
      pub take_gone : gone ≡ true → take_block w h i party slip ≡ (w, refuse NotThere)
      unfolding take_block
      take_gone r = rw (p, q, r) refl

      pub take_out : gone ≡ false → leb 16 (vacant w.leases) ≡ true → take_block w h i party slip ≡ (w, refuse LeasesOut)
      unfolding take_block
      take_out r s = rw (p, q, r, s) refl

      pub take_lent : gone ≡ false → leb 16 (vacant w.leases) ≡ false → take_block w h i party slip ≡ (taken w h i party slip, lease_told w.number (vacant w.leases) party slip)
      unfolding take_block
      take_lent r s = rw (p, q, r, s) refl

-- a lease that was lent by slip is out by that slip
pub lent_honoured : (w : World) (h i party : ℕ) (slip : Bool) (m : ℕ) → length w.leases ≡ 16 → slip ≡ true → m ≡ vacant w.leases → (take_block w h i party slip).1 ≡ lease_told w.number (vacant w.leases) party slip
    → honours (take_block w h i party slip).0 (record { lease = m; bench = w.number; party = party }) ≡ true
lent_honoured w h i party true m len is n e = taken_honoured w h i party _ len (e ∙ ap (λ k. lease_told w.number k party true) (sym n))
lent_honoured w h i party false m len is n e = absurd (false≢true is)

-- THE LOWEST FREE LEASE

abbrev is_free : Option Lease → Bool
is_free o = not (is_some o)

vacant_is : (es : List (Option Lease)) → vacant es ≡ position_or_len is_free es
vacant_is es = is_position_or_len vacant is_free refl step es
  where
    step : (o : Option Lease) (es : List (Option Lease)) → vacant (o ∷ es) ≡ cond (is_free o) 0 (1 + vacant es)
    step None es = refl
    step (Some e) es = omega arith

vacant_most : (es : List (Option Lease)) → vacant es ≤ length es
vacant_most [] = omega arith
vacant_most (None ∷ es) = omega arith
vacant_most (Some e ∷ es) = omega (arith, vacant_most es)

-- what a search for it answers
module _ (es : List (Option Lease)) (r : Result ℕ Refusal) (is : r ≡ ok_or (position is_free es) LeasesOut) where
  abbrev Lowest : Result ℕ Refusal → Type 0
  Lowest q = MatchResult q (λ m. (m ≡ vacant es) × (m < length es)) (λ e. (vacant es ≡ length es) × (e ≡ LeasesOut))

  pub lowest : Lowest r
  lowest =
      subst Lowest (sym (is ∙ ap (λ n. ok_or (cond (ltb n (length es)) (Some n) None) LeasesOut) (sym (vacant_is es))))
      (cond_both (ltb (vacant es) (length es)) (Some (vacant es)) None (λ o. Lowest (ok_or o LeasesOut))
      (λ t. (refl, ltb-true (vacant es) (length es) t)) (λ f. let most = vacant_most es in let past = ltb-false (vacant es) (length es) f in (omega arith, refl)))

-- A LEASE OF A LIVE LANE

pub lendable : (l : Lane) → live_ok l ≡ true → (l.order.first < 4096) × (0 < l.order.timing.depth) × (l.order.timing.depth ≤ 8)
lendable l ok = (grind (arith, nat_tests), grind (arith, nat_tests), grind (arith, nat_tests))
