-- The lines of the log, as the code writes them and as the definitions have them.
use Rattle.std.proofs.Common.{◌≡◌, ℕ, ◌+◌, ◌-◌, Bool, true, false, cond, eqb, List, [], ◌∷◌, ◌++◌, length, take, drop, is_ok, IfOk, Ok, Err, Result, sym, refl, ap, ◌∙◌, ⊎_elim, arith}
use Rattle.std.specs.declared.alloc.AllocError.{AllocError}
use Rattle.refusal.specs.Told.{refusal_number, refusal_values, told, answer_number}
use Rattle.refusal.specs.declared.Refusal.{Refusal}
use Rattle.std.proofs.lemmas.List.{take_at}
use Rattle.std.proofs.lemmas.Bool.{cases_Bool}
use Rattle.bench.specs.Limits.{valid}
use Rattle.bench.specs.Sound.{order_ok}
use Rattle.history.specs.Bench.{World, Valid}
use Rattle.history.specs.declared.Asked.{Asked}
use Rattle.history.specs.Calls.{answered, done, leased, close}
use Rattle.cues.specs.declared.Call.{Call}
use Rattle.cues.specs.declared.Call.TheVariants.{Order, Take, Give, Close}
use Rattle.loglines.specs.Memory.{put}
use Rattle.loglines.specs.Text.{order_told, take_told, log_line}
use Rattle.loglines.specs.declared.LogLine.TheVariants.{Order as OrderLine, Take as TakeLine, Give as GiveLine, Close as CloseLine}
use Rattle.jobs.specs.Lines.{line, number_of, span_of, lease_of, cue_line}
use Rattle.jobs.specs.Run.{called}

-- a line that was written over memory m, and then added
pub added : (r : Result (Unit {0}) AllocError) (old next out m text : List ℕ) (len : ℕ) → next ≡ cond (is_ok r) (old ++ take (len - 0) out) old → out ≡ put m 0 text → len ≡ length text
    → IfOk r (λ _. next ≡ old ++ text)
unfolding put
added (Ok x) old next out m text len e o l =
    e ∙ ap (λ (t : List ℕ). old ++ t) (ap (take (len - 0)) o ∙ take_at text (drop (0 + length text) m) (len - 0) (omega arith))
added (Err x) old next out m text len e o l = tt

-- numbers that make no order
pub not_ok : (a : Asked) → (Valid a → ⊥) → order_ok a ≡ false
not_ok a never = ⊎_elim (λ e. absurd (never (valid a e))) (λ e. e) (cases_Bool (order_ok a))

-- the numbers of an answer, as they are written
order_words : (r : Result (Unit {0}) Refusal) → order_told r ≡ number_of (answered (λ _. done) r) ∷ span_of (answered (λ _. done) r)
order_words (Ok x) = refl
order_words (Err e) = by (eqb (refusal_number e) 6)
  where
    by : (b : Bool) → cond b (told e) (refusal_number e ∷ []) ≡ refusal_number e ∷ cond b (refusal_values e) []
    by true = refl
    by false = refl

take_words : (r : Result ℕ Refusal) → take_told r ≡ number_of (answered leased r) ∷ lease_of (answered leased r)
take_words (Ok m) = refl
take_words (Err e) = refl

give_words : (r : Result (Unit {0}) Refusal) → answer_number r ≡ number_of (answered (λ _. done) r)
give_words (Ok x) = refl
give_words (Err e) = refl

-- a line with the same slot and numbers
same_line : (slot slot' letter : ℕ) (ns ns' : List ℕ) → slot ≡ slot' → ns ≡ ns' → line slot letter ns ≡ line slot' letter ns'
same_line slot slot' letter ns ns' s e = λ i. line (s i) letter (e i)

module _ (w : World) (call : Call) (slot : ℕ) (s : slot ≡ w.now) where
  abbrev Logged : List ℕ → Type 0
  Logged text = text ≡ cue_line w.now call (called w call).1

  as_cue : (c : Call) (text : List ℕ) → call ≡ c → text ≡ cue_line w.now c (called w c).1 → Logged text
  as_cue c text is e = e ∙ ap (λ c. cue_line w.now c (called w c).1) (sym is)

  pub order_logged : (head first count start period depth spare : ℕ) (r : Result (Unit {0}) Refusal) → call ≡ Order head first count start period depth spare
      → answered (λ _. done) r ≡ (called w (Order head first count start period depth spare)).1 → Logged (log_line (OrderLine slot head r))
  order_logged head first count start period depth spare r is e =
      as_cue (Order head first count start period depth spare) _ is
      (same_line slot w.now 111 (head ∷ order_told r) _ s (ap (λ ns. head ∷ ns) (order_words r ∙ ap (λ a. number_of a ∷ span_of a) e)))

  pub take_logged : (head block party : ℕ) (r : Result ℕ Refusal) → call ≡ Take head block party → answered leased r ≡ (called w (Take head block party)).1
      → Logged (log_line (TakeLine slot head block party r))
  take_logged head block party r is e =
      as_cue (Take head block party) _ is
      (same_line slot w.now 116 (head ∷ block ∷ party ∷ take_told r) _ s (ap (λ ns. head ∷ block ∷ party ∷ ns) (take_words r ∙ ap (λ a. number_of a ∷ lease_of a) e)))

  pub give_logged : (party lease : ℕ) (r : Result (Unit {0}) Refusal) → call ≡ Give party lease → answered (λ _. done) r ≡ (called w (Give party lease)).1
      → Logged (log_line (GiveLine slot party lease r))
  give_logged party lease r is e =
      as_cue (Give party lease) _ is
      (same_line slot w.now 103 (party ∷ lease ∷ answer_number r ∷ []) _ s (ap (λ n. party ∷ lease ∷ n ∷ []) (give_words r ∙ ap number_of e)))

  pub close_logged : (head : ℕ) (r : Result (Unit {0}) Refusal) → call ≡ Close head → answer_number r ≡ number_of (close w head).1
      → Logged (log_line (CloseLine slot head r))
  close_logged head r is e = as_cue (Close head) _ is (same_line slot w.now 99 (head ∷ answer_number r ∷ []) _ s (ap (λ n. head ∷ n ∷ []) e))

  -- what a call leaves, said of the call as it is matched
  pub called_left : (c : Call) (w' : World) → call ≡ c → w' ≡ (called w c).0 → w' ≡ (called w call).0
  called_left c w' is e = e ∙ ap (λ c. (called w c).0) (sym is)
