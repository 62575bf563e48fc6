-- A tick's lines.
use Rattle.std.proofs.Common.{◌≡◌, ℕ, suc, ◌+◌, ◌<◌, ◌≤◌, Bool, true, false, cond, eqb, List, [], ◌∷◌, ◌++◌, length, get_or, drop, IfOk, Some, None, Option, Result, sym, refl, ap, ◌∙◌, append_assoc, append-nil, add-one, arith}
use Rattle.std.specs.List.{list_all}
use Rattle.std.specs.Option.{is_none}
use Rattle.std.specs.declared.alloc.AllocError.{AllocError}
use Rattle.std.proofs.lemmas.List.{drop_all, drop_more}
use Rattle.std.proofs.lemmas.Result.{IfOk-weaker}
use Rattle.std.proofs.lemmas.Bool.{cond_both, eq-eqb, ne_eqb, false≢true, not_from_true}
use Rattle.refusal.specs.declared.Fault.{Fault}
use Rattle.disk.specs.Meaning.{read_number}
use Rattle.history.specs.declared.Cause.{Cause}
use Rattle.history.specs.declared.Ticked.{Ticked}
use Rattle.history.specs.Bench.{World, lane_at}
use Rattle.history.specs.Calls.{Answer, refused, done, ticked, leased, slipped, shown, reported, choice, next_block, passed, served, tick, tick_checks, ends}
use Rattle.history.proofs.Checks.{passes}
use Rattle.jobs.specs.Lines.{did_line, tick_line, ended_line, ended_lines}
use Rattle.jobs.specs.Run.{SlotPassed}

-- the lanes that ended, from head h on
pub ended_more : (slot h : ℕ) (cs : List (Option Cause)) (log log' all : List ℕ) → h < length cs → log' ≡ log ++ ended_line slot h (get_or cs h None)
    → log ++ ended_lines slot h (drop h cs) ≡ all → log' ++ ended_lines slot (h + 1) (drop (h + 1) cs) ≡ all
ended_more slot h cs log log' all lt l so_far =
    ap (λ (t : List ℕ). t ++ ended_lines slot (h + 1) (drop (h + 1) cs)) l
    ∙ (append_assoc log (ended_line slot h (get_or cs h None)) (ended_lines slot (h + 1) (drop (h + 1) cs))
    ∙ (ap (λ (n : ℕ). log ++ (ended_line slot h (get_or cs h None) ++ ended_lines slot n (drop (h + 1) cs))) (add-one h)
    ∙ (ap (λ (xs : List (Option Cause)). log ++ ended_lines slot h xs) (sym (drop_more cs h None lt)) ∙ so_far)))

pub ended_all : (slot h : ℕ) (cs : List (Option Cause)) (log all : List ℕ) → length cs ≤ h → log ++ ended_lines slot h (drop h cs) ≡ all → log ≡ all
ended_all slot h cs log all le so_far = sym (append-nil log) ∙ (ap (λ (xs : List (Option Cause)). log ++ ended_lines slot h xs) (sym (drop_all h cs le)) ∙ so_far)

-- where no lane ended there is no line
pub lines_none : (slot h : ℕ) (cs : List (Option Cause)) → list_all is_none cs ≡ true → ended_lines slot h cs ≡ []
lines_none slot h [] none = refl
lines_none slot h (None ∷ cs) none = lines_none slot (suc h) cs none
lines_none slot h (Some cause ∷ cs) none = absurd (false≢true none)

-- THE TICK

abbrev is_ticked : Answer → Bool
is_ticked (ticked x) = true
is_ticked (refused ns) = false
is_ticked done = false
is_ticked (leased m) = false
is_ticked (slipped s) = false
is_ticked (shown b) = false
is_ticked (reported r) = false

module _ (w : World) (f : Fault) where
  served_ticked : (c : Option (ℕ × ℕ)) → is_ticked (served w f c).1 ≡ true
  served_ticked None = refl
  served_ticked (Some c) =
      cond_both (eqb (read_number w.disk (next_block (lane_at w.lanes c.0)) 64) 0) _ _ (λ (r : World × Answer). is_ticked r.1 ≡ true) (λ _. refl) (λ _. refl)

  served_later : (c : Option (ℕ × ℕ)) → (served w f c).0.now ≡ suc w.now
  served_later None = refl
  served_later (Some c) =
      cond_both (eqb (read_number w.disk (next_block (lane_at w.lanes c.0)) 64) 0) _ _ (λ (r : World × Answer). (passed r.0).now ≡ suc w.now) (λ _. refl) (λ _. refl)

  module _ (size : length w.pool ≡ 2048) (early : w.now < 1000000) where
    pub tick_served : tick w f ≡ served w f (choice w.now w.lanes)
    unfolding tick
    tick_served = passes w (tick_checks w) _ (not_from_true (eqb (length w.pool) 2048) (eq-eqb _ 2048 size), (ne_eqb w.now 1000000 (λ e. omega arith), tt))

    pub tick_later : (tick w f).0.now ≡ suc w.now
    tick_later = ap (λ (r : World × Answer). r.0.now) tick_served ∙ served_later (choice w.now w.lanes)

    pub tick_not_refused : (ns : List ℕ) → refused ns ≡ (tick w f).1 → ⊥
    tick_not_refused ns e =
        let t = ap is_ticked e ∙ (ap (λ (r : World × Answer). is_ticked r.1) tick_served ∙ served_ticked (choice w.now w.lanes)) in
        let z : ◌≡◌ {A = ℕ} 0 1 = ap (λ (b : Bool). cond b 1 0) t in
        omega arith

-- what the disk did and the lanes that ended, one after the other
pub slot_passed : (r : Result (Unit {0}) AllocError) (w w' : World) (f : Fault) (did : Ticked) (ended : List (Option Cause)) (slot slot' : ℕ) (log log₁ log₂ : List ℕ)
    → ticked did ≡ (tick w f).1 → w' ≡ (tick w f).0 → ended ≡ ends w.lanes w'.lanes → slot ≡ w.now → slot' ≡ w'.now → log₁ ≡ log ++ did_line slot did
    → IfOk r (λ _. log₂ ≡ log₁ ++ ended_lines slot' 0 ended) → IfOk r (λ _. SlotPassed w log w' log₂)
slot_passed r w w' f did ended slot slot' log log₁ log₂ a b e s s' l m =
    IfOk-weaker r (λ _. log₂ ≡ log₁ ++ ended_lines slot' 0 ended) (λ _. SlotPassed w log w' log₂)
    (λ _ t. record {
      fault = f;
      bench = b;
      text =
          t ∙ (λ i. (l ∙ ap (λ (n : ℕ). log ++ did_line n did) s) i ++ ended_lines ((s' ∙ ap (λ (v : World). v.now) b) i) 0 ((e ∙ ap (λ (v : World). ends w.lanes v.lanes) b) i))
          ∙ (λ i. (log ++ tick_line w.now (a i)) ++ ended_lines (tick w f).0.now 0 (ends w.lanes (tick w f).0.lanes))
          ∙ append_assoc log (tick_line w.now (tick w f).1) (ended_lines (tick w f).0.now 0 (ends w.lanes (tick w f).0.lanes));
    })
    m

-- the slot after a tick
pub passed_later : (w w' : World) (log log' : List ℕ) → length w.pool ≡ 2048 → w.now < 1000000 → SlotPassed w log w' log' → w'.now ≡ suc w.now
passed_later w w' log log' size early slot = ap (λ (v : World). v.now) slot.bench ∙ tick_later w slot.fault size early
