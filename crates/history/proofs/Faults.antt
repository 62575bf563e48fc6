-- The fault that a tick comes with is the one that its answer tells, and matters only there.
use Rattle.std.proofs.Common.{◌≡◌, ℕ, suc, Bool, true, false, cond, eqb, List, [], ◌∷◌, Some, None, Option, refl, arith}
use Rattle.std.proofs.lemmas.Bool.{cond_both}
use Rattle.refusal.specs.declared.Fault.{Fault}
use Rattle.disk.specs.Meaning.{read_number}
use Rattle.history.specs.declared.Lane.{Lane}
use Rattle.history.specs.declared.Ticked.TheVariants.{Read, Failed}
use Rattle.history.specs.Bench.{World, lane_at}
use Rattle.history.specs.Calls.{Answer, ticked, checked, choice, next_block, read_done, read_failed, passed, served, tick, tick_checks}
use Rattle.history.specs.Told.{ticks, fault_told}
use Rattle.history.proofs.Checks.{call_cases}

module _ (w : World) (f : Fault) where
  served_fault : (g : Fault) (c : Option (ℕ × ℕ)) → fault_told (served w f c).1 ≡ Some g → g ≡ f
  served_fault g None = λ e. cc
  served_fault g (Some c) =
      cond_both (eqb (read_number w.disk (next_block (lane_at w.lanes c.0)) 64) 0) _ _ (λ (r : World × Answer). fault_told r.1 ≡ Some g → g ≡ f) (λ _ e. cc) (λ _ e. cc)

  -- what is told is what the tick came with
  pub fault_told_is : (g : Fault) → fault_told (tick w f).1 ≡ Some g → g ≡ f
  fault_told_is g = call_cases (λ r. fault_told r.1 ≡ Some g → g ≡ f) w (λ ns e. cc) (ticks f) (λ _. served_fault g (choice w.now w.lanes))

  module _ (g : Fault) where
    -- where no fault is told, any other would do
    abbrev Same : World × Answer → World × Answer → Type 0
    Same r r' = fault_told r.1 ≡ None → r ≡ r'

    checked_same : (cs : List (Bool × Answer)) (r r' : World × Answer) → Same r r' → Same (checked w cs r) (checked w cs r')
    checked_same [] r r' s = s
    checked_same (c ∷ cs) r r' s = by c.0 (checked_same cs r r' s)
      where
        by : (b : Bool) → Same (checked w cs r) (checked w cs r') → Same (cond b (w, c.1) (checked w cs r)) (cond b (w, c.1) (checked w cs r'))
        by true s = λ _. refl
        by false s = s

    served_same : (c : Option (ℕ × ℕ)) → Same (served w f c) (served w g c)
    served_same None = λ _. refl
    served_same (Some c) = by (eqb (read_number w.disk (next_block (lane_at w.lanes c.0)) 64) 0)
      where
        by : (b : Bool) → let k : ℕ = c.0 in
            let l : Lane = lane_at w.lanes c.0 in
            let r : Fault → World × Answer = λ f. cond b (read_done w k l, ticked (Read k l.next)) (read_failed w k l f, ticked (Failed k l.next (suc l.failed) f)) in
            Same (passed (r f).0, (r f).1) (passed (r g).0, (r g).1)
        by true = λ _. refl
        by false = λ e. absurd (let z : ◌≡◌ {A = ℕ} 0 1 = cc in omega arith)

    pub fault_not_told : fault_told (tick w f).1 ≡ None → tick w f ≡ tick w g
    unfolding tick
    fault_not_told = checked_same (tick_checks w) _ _ (served_same (choice w.now w.lanes))
