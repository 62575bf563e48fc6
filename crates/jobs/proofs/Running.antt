-- A run, slot after slot; and that the faults which the disk tells are not seen in its log.
use Rattle.std.proofs.Common.{◌≡◌, ℕ, zero, suc, ◌-◌, ◌<◌, Bool, true, false, cond, not, ◌&&◌, ◌||◌, eqb, leb, List, [], ◌∷◌, ◌++◌, length, get_or, is_some, Option, sym, refl, ap, ◌∙◌, ⊎_elim, append_assoc, arith}
use Rattle.std.proofs.lemmas.Bool.{cond-true, cond-false, cond_both, or_parts, or_cases, eqb-true, eqb-false}
use Rattle.refusal.specs.declared.Fault.{Fault}
use Rattle.refusal.specs.declared.Refusal.TheVariants.{Bounds}
use Rattle.history.specs.Bench.{World, running}
use Rattle.history.specs.Calls.{Answer, refused, done, ticked, leased, slipped, shown, reported, refuse, checked, admit, admit_checks, tick, take_block, take_checks, give, beyond, not_held, close, close_checks, ends}
use Rattle.bench.specs.Orders.{asking}
use Rattle.bench.specs.Sound.{order_ok}
use Rattle.bench.specs.Ticks.{no_fault}
use Rattle.cues.specs.declared.Call.{Call}
use Rattle.cues.specs.declared.Call.TheVariants.{Order, Take, Give, Close}
use Rattle.cuelists.specs.declared.due.Due.{Due}
use Rattle.history.specs.declared.Ticked.{Ticked}
use Rattle.history.specs.declared.Ticked.TheVariants.{Idle, Read, Failed}
use Rattle.jobs.specs.Lines.{line, lease_of, refusal_told, cue_line, did_line, tick_line, ended_lines}
use Rattle.jobs.specs.Run.{called, Ran, after_text, cues_run, first_slot, CuesRun, tick_text, SlotPassed, end_text, none, over, slots_run}
use Rattle.jobs.proofs.Plain.{plain, plain_ticked, bare, running_plain, ended_plain, Follows, admit_follows, take_follows, give_follows, close_follows, tick_follows}
use Rattle.jobs.proofs.Ticks.{tick_later}

-- CUES WITHOUT FAULTS

refusal_bare : (a : Answer) → refusal_told (bare a) ≡ refusal_told a
refusal_bare (refused ns) = refl
refusal_bare done = refl
refusal_bare (ticked x) = refl
refusal_bare (leased m) = refl
refusal_bare (slipped s) = refl
refusal_bare (shown b) = refl
refusal_bare (reported r) = refl

lease_bare : (a : Answer) → lease_of (bare a) ≡ lease_of a
lease_bare (refused ns) = refl
lease_bare done = refl
lease_bare (ticked x) = refl
lease_bare (leased m) = refl
lease_bare (slipped s) = refl
lease_bare (shown b) = refl
lease_bare (reported r) = refl

did_bare : (slot : ℕ) (x : Ticked) → did_line slot (plain_ticked x) ≡ did_line slot x
did_bare slot Idle = refl
did_bare slot (Read h i) = refl
did_bare slot (Failed h i a f) = refl

tick_bare : (slot : ℕ) (a : Answer) → tick_line slot (bare a) ≡ tick_line slot a
tick_bare slot (refused ns) = refl
tick_bare slot done = refl
tick_bare slot (ticked x) = did_bare slot x
tick_bare slot (leased m) = refl
tick_bare slot (slipped s) = refl
tick_bare slot (shown b) = refl
tick_bare slot (reported r) = refl

-- a line says the same of answers that are the same but for faults
module _ (a b : Answer) (e : bare a ≡ bare b) where
  same_refusal : refusal_told a ≡ refusal_told b
  same_refusal = sym (refusal_bare a) ∙ (ap refusal_told e ∙ refusal_bare b)

  same_lease : lease_of a ≡ lease_of b
  same_lease = sym (lease_bare a) ∙ (ap lease_of e ∙ lease_bare b)

  same_tick : (slot : ℕ) → tick_line slot a ≡ tick_line slot b
  same_tick slot = sym (tick_bare slot a) ∙ (ap (tick_line slot) e ∙ tick_bare slot b)

  same_cue : (slot : ℕ) (c : Call) → cue_line slot c a ≡ cue_line slot c b
  same_cue slot (Order head first count start period depth spare) = ap (λ (ns : List ℕ). cue_line slot (Order head first count start period depth spare) (refused ns)) same_refusal
  same_cue slot (Take head block party) = λ i. line slot 116 (head ∷ block ∷ party ∷ get_or (same_refusal i) 0 0 ∷ same_lease i)
  same_cue slot (Give party lease) = ap (λ (ns : List ℕ). cue_line slot (Give party lease) (refused ns)) same_refusal
  same_cue slot (Close head) = ap (λ (ns : List ℕ). cue_line slot (Close head) (refused ns)) same_refusal

called_follows : (w : World) (c : Call) → Follows (called w c) (called (plain w) c)
called_follows w (Order head first count start period depth spare) = by (order_ok (asking head first count start period depth spare))
  where
    by : (b : Bool) → Follows (cond b (admit w (asking head first count start period depth spare)) (w, refuse Bounds)) (cond b (admit (plain w) (asking head first count start period depth spare)) (plain w, refuse Bounds))
    by true = admit_follows w (asking head first count start period depth spare)
    by false = record { world = refl; answer = refl }
called_follows w (Take head block party) = take_follows w head block party
called_follows w (Give party lease) = give_follows w party lease
called_follows w (Close head) = close_follows w head

abbrev plain_ran : Ran → Ran
plain_ran r = record { bench = plain r.bench; text = r.text; left = r.left }

cues_plain : (w : World) (ds : List Due) → cues_run (plain w) ds ≡ plain_ran (cues_run w ds)
unfolding cues_run
cues_plain w [] = refl
cues_plain w (d ∷ ds) =
    let f = called_follows w d.call in
    let line = same_cue _ _ f.answer w.now d.call in
    let rest = ap (λ (v : World). cues_run v ds) f.world ∙ cues_plain (called w d.call).0 ds in
    by (leb d.slot w.now) _ _ _ _ line rest
  where
    by : (b : Bool) (l l' : List ℕ) (r r' : Ran) → l' ≡ l → r' ≡ plain_ran r
        → cond b (after_text l' r') (record { bench = plain w; text = []; left = d ∷ ds }) ≡ plain_ran (cond b (after_text l r) (record { bench = w; text = []; left = d ∷ ds }))
    by true l l' r r' e f = λ i. after_text (e i) (f i)
    by false l l' r r' e f = refl

-- THE SLOT STAYS

checked_stays : (w : World) (cs : List (Bool × Answer)) (r : World × Answer) → r.0.now ≡ w.now → (checked w cs r).0.now ≡ w.now
checked_stays w [] r e = e
checked_stays w (c ∷ cs) r e = cond_both c.0 (w, c.1) (checked w cs r) (λ (x : World × Answer). x.0.now ≡ w.now) (λ _. refl) (λ _. checked_stays w cs r e)

called_stays : (w : World) (c : Call) → (called w c).0.now ≡ w.now
unfolding admit take_block give close
called_stays w (Order head first count start period depth spare) =
    cond_both (order_ok (asking head first count start period depth spare)) (admit w (asking head first count start period depth spare)) (w, refuse Bounds) (λ (x : World × Answer). x.0.now ≡ w.now)
    (λ _. checked_stays w (admit_checks w (asking head first count start period depth spare)) _ refl) (λ _. refl)
called_stays w (Take head block party) = checked_stays w (take_checks w head block party) _ refl
called_stays w (Give party lease) = checked_stays w (beyond party lease ∷ not_held w party lease ∷ []) _ refl
called_stays w (Close head) = checked_stays w (close_checks w head) _ refl

cues_stay : (w : World) (ds : List Due) → (cues_run w ds).bench.now ≡ w.now
unfolding cues_run
cues_stay w [] = refl
cues_stay w (d ∷ ds) =
    cond_both (leb d.slot w.now) _ _ (λ (r : Ran). r.bench.now ≡ w.now) (λ _. cues_stay (called w d.call).0 ds ∙ called_stays w d.call) (λ _. refl)

-- A TICK WITHOUT FAULTS

tick_text_plain : (w : World) (f : Fault) → tick_text (plain w) no_fault ≡ tick_text w f
tick_text_plain w f =
    let t = tick_follows w f in
    let ended = ap (λ (v : World). ends (plain w).lanes v.lanes) t.world ∙ ended_plain w.lanes (tick w f).0.lanes in
    λ i. same_tick _ _ t.answer w.now i ++ ended_lines (t.world i).now 0 (ended i)

over_plain : (r : Ran) → over (plain_ran r) ≡ over r
over_plain r = ap (λ (b : Bool). none r.left && not b) (running_plain r.bench.lanes)

-- what follows the cues of a slot, with k slots left after it
abbrev rest_of : (ℕ → Fault) → ℕ → Ran → List ℕ
rest_of told k r = r.text ++ cond (over r) (end_text r.bench) (tick_text r.bench (told r.bench.now) ++ slots_run told k (tick r.bench (told r.bench.now)).0 r.left)

abbrev pub untold : ℕ → Fault
untold s = no_fault

slots_suc : (told : ℕ → Fault) (k : ℕ) (w : World) (ds : List Due) → slots_run told (suc k) w ds ≡ rest_of told k (cues_run w ds)
unfolding slots_run
slots_suc told k w ds = refl

slots_zero : (told : ℕ → Fault) (w : World) (ds : List Due) → slots_run told zero w ds ≡ (cues_run w ds).text ++ end_text (cues_run w ds).bench
unfolding slots_run
slots_zero told w ds = refl

-- THE FAULTS ARE NOT SEEN

pub slots_told : (told : ℕ → Fault) (k : ℕ) (w : World) (ds : List Due) → slots_run told k w ds ≡ slots_run untold k (plain w) ds
slots_told told zero w ds = slots_zero told w ds ∙ (ap (λ (r : Ran). r.text ++ end_text r.bench) (sym (cues_plain w ds)) ∙ sym (slots_zero untold (plain w) ds))
slots_told told (suc k) w ds =
    let r : Ran = cues_run w ds in
    let f : Fault = told r.bench.now in
    let later = slots_told told k (tick r.bench f).0 r.left ∙ ap (λ (v : World). slots_run untold k v r.left) (sym (tick_follows r.bench f).world) in
    slots_suc told k w ds
    ∙ ((λ i. r.text ++ cond (sym (over_plain r) i) (end_text r.bench) (sym (tick_text_plain r.bench f) i ++ later i))
    ∙ (ap (rest_of untold k) (sym (cues_plain w ds)) ∙ sym (slots_suc untold k (plain w) ds)))

-- THE LOOP

-- what is left of a run, the faults not seen
abbrev pub left_of : World → List Due → List ℕ
left_of w ds = slots_run untold (1000000 - w.now) (plain w) ds

none_first : (cs : List Due) → not (is_some (first_slot cs)) ≡ none cs
none_first [] = refl
none_first (d ∷ cs) = refl

module _ (w w₁ : World) (ds ds₁ : List Due) (log log₁ : List ℕ) (next : Option ℕ) (cues : CuesRun w ds log next w₁ ds₁ log₁) where
  abbrev ran : Ran
  ran = record { bench = w₁; text = (cues_run w ds).text; left = ds₁ }

  ran_is : cues_run w ds ≡ ran
  ran_is = λ i. record { bench = sym (ap (λ (r : Ran). r.bench) cues.ran) i; text = (cues_run w ds).text; left = sym (ap (λ (r : Ran). r.left) cues.ran) i }

  log_is : log₁ ≡ log ++ ran.text
  log_is = ap (λ (r : Ran). r.text) cues.ran

  pub stays : w₁.now ≡ w.now
  stays = ap (λ (r : Ran). r.bench.now) (sym ran_is) ∙ cues_stay w ds

  plain_ran_is : cues_run (plain w) ds ≡ plain_ran ran
  plain_ran_is = cues_plain w ds ∙ ap plain_ran ran_is

  none_next : not (is_some next) ≡ none ds₁
  none_next = ap (λ (o : Option ℕ). not (is_some o)) cues.first ∙ none_first ds₁

  -- the test of the loop: the run goes on
  pub run_goes : (eqb w₁.now 1000000 || (not (is_some next) && not (running w₁.lanes))) ≡ false → (w₁.now ≡ 1000000 → ⊥) × ((none ds₁ && not (running w₁.lanes)) ≡ false)
  run_goes go =
      let p = or_parts (eqb w₁.now 1000000) (not (is_some next) && not (running w₁.lanes)) go in
      (eqb-false w₁.now 1000000 p.0, ap (λ (b : Bool). b && not (running w₁.lanes)) (sym none_next) ∙ p.1)

  module _ (all : List ℕ) (so_far : log ++ left_of w ds ≡ all) where
    -- one slot more
    pub slot_more : (w₂ : World) (log₂ : List ℕ) → (none ds₁ && not (running w₁.lanes)) ≡ false → length w₁.pool ≡ 2048 → w₁.now < 1000000 → SlotPassed w₁ log₁ w₂ log₂ → log₂ ++ left_of w₂ ds₁ ≡ all
    slot_more w₂ log₂ goes size early slot =
        let f : Fault = slot.fault in
        let k : ℕ = 1000000 - w₂.now in
        let now₂ : w₂.now ≡ suc w₁.now = ap (λ (v : World). v.now) slot.bench ∙ tick_later w₁ f size early in
        let slots : 1000000 - w.now ≡ suc k = omega (arith, now₂, stays) in
        let next-world : (tick (plain w₁) no_fault).0 ≡ plain w₂ = (tick_follows w₁ f).world ∙ ap plain (sym slot.bench) in
        let here : left_of w ds ≡ ran.text ++ (tick_text w₁ f ++ left_of w₂ ds₁) =
        ap (λ (n : ℕ). slots_run untold n (plain w) ds) slots
        ∙ (slots_suc untold k (plain w) ds
        ∙ (ap (rest_of untold k) plain_ran_is
        ∙ (ap (λ (t : List ℕ). ran.text ++ t) (cond-false (over (plain_ran ran)) _ _ (over_plain ran ∙ goes))
        ∙ (λ i. ran.text ++ (tick_text_plain w₁ f i ++ slots_run untold k (next-world i) ds₁))))) in
        ap (λ (t : List ℕ). t ++ left_of w₂ ds₁) (slot.text ∙ ap (λ (t : List ℕ). t ++ tick_text w₁ f) log_is)
        ∙ (append_assoc (log ++ ran.text) (tick_text w₁ f) (left_of w₂ ds₁)
        ∙ (append_assoc log ran.text (tick_text w₁ f ++ left_of w₂ ds₁)
        ∙ (ap (λ (t : List ℕ). log ++ t) (sym here) ∙ so_far)))

    ends_so : left_of w ds ≡ ran.text ++ end_text w₁ → (log₂ : List ℕ) → log₂ ≡ log₁ ++ end_text w₁ → log₂ ≡ all
    ends_so here log₂ e = e ∙ (ap (λ (t : List ℕ). t ++ end_text w₁) log_is ∙ (append_assoc log ran.text (end_text w₁) ∙ (ap (λ (t : List ℕ). log ++ t) (sym here) ∙ so_far)))

    last_left : w₁.now ≡ 1000000 → left_of w ds ≡ ran.text ++ end_text w₁
    last_left e =
        let slots : 1000000 - w.now ≡ 0 = omega (arith, stays) in
        ap (λ (n : ℕ). slots_run untold n (plain w) ds) slots ∙ (slots_zero untold (plain w) ds ∙ ap (λ (r : Ran). r.text ++ end_text r.bench) plain_ran_is)

    over_left : (none ds₁ && not (running w₁.lanes)) ≡ true → left_of w ds ≡ ran.text ++ end_text w₁
    over_left stop = by (1000000 - w.now)
      where
        by : (k : ℕ) → slots_run untold k (plain w) ds ≡ ran.text ++ end_text w₁
        by zero = slots_zero untold (plain w) ds ∙ ap (λ (r : Ran). r.text ++ end_text r.bench) plain_ran_is
        by (suc k) = slots_suc untold k (plain w) ds ∙ (ap (rest_of untold k) plain_ran_is ∙ ap (λ (t : List ℕ). ran.text ++ t) (cond-true (over (plain_ran ran)) _ _ (over_plain ran ∙ stop)))

    -- or it ends
    pub run_ends : (log₂ : List ℕ) → (eqb w₁.now 1000000 || (not (is_some next) && not (running w₁.lanes))) ≡ true → log₂ ≡ log₁ ++ end_text w₁ → log₂ ≡ all
    run_ends log₂ stop e =
        ⊎_elim (λ l. ends_so (last_left (eqb-true w₁.now 1000000 l)) log₂ e) (λ o. ends_so (over_left (ap (λ (b : Bool). b && not (running w₁.lanes)) (sym none_next) ∙ o)) log₂ e)
        (or_cases (eqb w₁.now 1000000) (not (is_some next) && not (running w₁.lanes)) stop)
