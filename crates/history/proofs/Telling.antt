-- What a history tells of a bench is what the bench holds, and its tallies count what the ticks answered.
use Rattle.std.proofs.Common.{◌≡◌, ℕ, suc, ◌+◌, Bool, true, false, cond, eqb, List, [], ◌∷◌, Some, None, Option, sym, refl, ap, ◌∙◌, arith}
use Rattle.std.proofs.lemmas.Bool.{cond_both}
use Rattle.refusal.specs.declared.Fault.{Fault}
use Rattle.disk.specs.Meaning.{Block, read_number}
use Rattle.history.specs.Bench.{World, lane_at}
use Rattle.history.specs.declared.Ticked.TheVariants.{Read, Failed}
use Rattle.history.specs.Calls.{Answer, refused, ticked, new, passed, read_done, read_failed, choice, served, next_block, vacant, taken, lease_told}
use Rattle.history.specs.Told.{Call, admits, ticks, takes, gives, gives_slip, closes, call, after, answers, Told, nothing, tell_tick, tell, tell_all, told, tally, attempt_made, attempt_failed, of_tick}
use Rattle.history.specs.Laws.{TalliesCountTicks}
use Rattle.history.proofs.Checks.{Grants, call_cases}

-- a bench with its number, its pool and its tallies left out
abbrev pub view : World → Told
view w = record { now = w.now; lanes = w.lanes; leases = w.leases; disk = w.disk }

-- an answer tells what the call does
abbrev Tells : World → Call → World × Answer → Type 0
Tells w c r = view r.0 ≡ tell (view w) c r.1

module _ (w : World) where
  served_told : (f : Fault) (c : Option (ℕ × ℕ)) → Tells w (ticks f) (served w f c)
  served_told f None = refl
  served_told f (Some c) =
      let h = c.0 in
      let l = lane_at w.lanes h in
      cond_both (eqb (read_number w.disk (next_block l) 64) 0) (read_done w h l, ticked (Read h l.next)) (read_failed w h l f, ticked (Failed h l.next (suc l.failed) f)) (λ (r : World × Answer). view (passed r.0) ≡ tell_tick (view w) r.1) (λ _. refl) (λ _. refl)

  taken_told : (h i party : ℕ) (slip : Bool) → Tells w (takes h i party slip) (taken w h i party slip, lease_told w.number (vacant w.leases) party slip)
  taken_told h i party true = refl
  taken_told h i party false = refl

  pub call_told : (c : Call) → Tells w c (call w c)
  call_told c = call_cases (Tells w c) w (refused_told c) c (grants_told c)
    where
      refused_told : (c : Call) (ns : List ℕ) → Tells w c (w, refused ns)
      refused_told (admits o v) ns = refl
      refused_told (ticks f) ns = refl
      refused_told (takes h i party slip) ns = refl
      refused_told (gives party m) ns = refl
      refused_told (gives_slip x) ns = refl
      refused_told (closes h) ns = refl

      grants_told : (c : Call) → Grants (Tells w c) w c
      grants_told (admits o v) = λ _. refl
      grants_told (ticks f) = λ _. served_told f (choice w.now w.lanes)
      grants_told (takes h i party slip) = λ _. taken_told h i party slip
      grants_told (gives party m) = λ _. refl
      grants_told (gives_slip x) = λ _. refl
      grants_told (closes h) = λ _. refl

tell_all_view : (t : Told) (w : World) (cs : List Call) → t ≡ view w → tell_all t cs (answers w cs) ≡ view (after w cs)
tell_all_view t w [] e = e
tell_all_view t w (c ∷ cs) e = tell_all_view (tell t c (call w c).1) (call w c).0 cs (ap (λ x. tell x c (call w c).1) e ∙ sym (call_told w c))

pub told_is : (number : ℕ) (disk : List Block) (pool : List ℕ) (cs : List Call) → told (new number disk pool) cs ≡ view (after (new number disk pool) cs)
told_is number disk pool cs = tell_all_view (nothing disk) (new number disk pool) cs refl

-- TALLIES

-- a call adds one to each tally that its answer counts in
abbrev Adds : World → World × Answer → Type 0
Adds w r = (r.0.attempts ≡ w.attempts + cond (of_tick attempt_made r.1) 1 0) × (r.0.failures ≡ w.failures + cond (of_tick attempt_failed r.1) 1 0)

module _ (w : World) where
  nothing_added : (w.attempts ≡ w.attempts + 0) × (w.failures ≡ w.failures + 0)
  nothing_added = (omega arith, omega arith)

  served_adds : (f : Fault) (c : Option (ℕ × ℕ)) → Adds w (served w f c)
  served_adds f None = nothing_added
  served_adds f (Some c) =
      cond_both (eqb (read_number w.disk (next_block (lane_at w.lanes c.0)) 64) 0) _ _ (λ (r : World × Answer). Adds w (passed r.0, r.1))
      (λ _. (omega arith, omega arith)) (λ _. (omega arith, omega arith))

  lease_adds : (h i party : ℕ) (slip : Bool) → Adds w (taken w h i party slip, lease_told w.number (vacant w.leases) party slip)
  lease_adds h i party true = nothing_added
  lease_adds h i party false = nothing_added

  grants_adds : (c : Call) → Grants (Adds w) w c
  grants_adds (admits o v) = λ _. nothing_added
  grants_adds (ticks f) = λ _. served_adds f (choice w.now w.lanes)
  grants_adds (takes h i party slip) = λ _. lease_adds h i party slip
  grants_adds (gives party m) = λ _. nothing_added
  grants_adds (gives_slip x) = λ _. nothing_added
  grants_adds (closes h) = λ _. nothing_added

after_adds : (w : World) (cs : List Call)
    → ((after w cs).attempts ≡ w.attempts + tally (of_tick attempt_made) (answers w cs)) × ((after w cs).failures ≡ w.failures + tally (of_tick attempt_failed) (answers w cs))
after_adds w [] = (omega arith, omega arith)
after_adds w (c ∷ cs) =
    let a = call_cases (Adds w) w (λ _. nothing_added w) c (grants_adds w c) in
    let r = after_adds (call w c).0 cs in
    (omega (arith, a.0, r.0), omega (arith, a.1, r.1))

pub tally_law : (number : ℕ) (disk : List Block) (pool : List ℕ) → TalliesCountTicks number disk pool
tally_law number disk pool cs = let r = after_adds (new number disk pool) cs in (omega (arith, r.0), omega (arith, r.1))
