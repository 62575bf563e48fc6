-- The cues of a slot, one after the other.
use Rattle.std.proofs.Common.{◌≡◌, ℕ, ◌<◌, ◌≤◌, false, leb, List, [], ◌∷◌, ◌++◌, length, Some, None, Option, sym, refl, ap, ◌∙◌, subst, append_assoc, append-nil, arith, MatchOption}
use Rattle.std.specs.Option.{option_map}
use Rattle.std.specs.Cmp.{IsStrictWeakOrder}
use Rattle.std.specs.List.Sorted.{IsPermutation}
use Rattle.std.proofs.lemmas.List.Sorted.{length_permutation}
use Rattle.std.proofs.lemmas.Bool.{cond-true, cond-false, le-leb, lt-leb, leb-false}
use Rattle.queue.specs.Order.{head, in_order, least, Foremost, Untied}
use Rattle.queue.specs.KeysLemmas.{ranks_by_keys, untied_by_keys}
use Rattle.queue.proofs.Order.{in_order_first, in_order_shuffled}
use Rattle.history.specs.Bench.{World}
use Rattle.cuelists.specs.Dues.{due_keys, due_before}
use Rattle.cuelists.specs.declared.due.Due.{Due}
use Rattle.cuelists.specs.DuesLemmas.{same_due}
use Rattle.jobs.specs.Lines.{cue_line}
use Rattle.jobs.specs.Run.{Ran, after_text, called, cues_run, first_slot, come, CuesRun}

pub ranks : IsStrictWeakOrder due_before
ranks = ranks_by_keys due_keys

pub untied : Untied due_before
untied = untied_by_keys due_keys same_due

-- WHAT WAITS

head_none : (ds : List Due) → head ds ≡ None → ds ≡ []
head_none [] e = refl
head_none (d ∷ ds) e = absurd (let z : ◌≡◌ {A = ℕ} 0 1 = cc in omega arith)

head_some : (ds : List Due) (d : Due) → head ds ≡ Some d → (rest : List Due) × (ds ≡ d ∷ rest)
head_some [] d e = absurd (let z : ◌≡◌ {A = ℕ} 0 1 = cc in omega arith)
head_some (x ∷ ds) d e = (ds, let same : x ≡ d = cc in ap (λ y. y ∷ ds) same)

slot_of_head : (ds : List Due) → option_map (λ d. d.slot) (head ds) ≡ first_slot ds
slot_of_head [] = refl
slot_of_head (d ∷ ds) = refl

module _ (hs : List Due) where
  pub none_waits : None ≡ least due_before hs → in_order due_before hs ≡ []
  unfolding least
  none_waits e = head_none (in_order due_before hs) (sym e)

  pub slot_waits : (r : Option Due) → r ≡ least due_before hs → option_map (λ d. d.slot) r ≡ first_slot (in_order due_before hs)
  unfolding least
  slot_waits r e = ap (option_map (λ d. d.slot)) e ∙ slot_of_head (in_order due_before hs)

  pub one_waits : (d : Due) → Some d ≡ least due_before hs → (rest : List Due) × (in_order due_before hs ≡ d ∷ rest)
  unfolding least
  one_waits d e = head_some (in_order due_before hs) d (sym e)

  -- the first is taken out, and the others stay in their order
  pub first_out : (P : Type 0) (hs' : List Due) (d : Due) (r : Option Due) → Some d ≡ least due_before hs → r ≡ least due_before hs → Foremost due_before hs r
      → MatchOption r P (λ x. IsPermutation hs (x ∷ hs')) → in_order due_before hs ≡ d ∷ in_order due_before hs'
  first_out P hs' d r e p f s =
      let same : r ≡ Some d = p ∙ sym e in
      in_order_first due_before ranks untied hs hs' d (subst (Foremost due_before hs) same f) (subst (λ r. MatchOption r P (λ x. IsPermutation hs (x ∷ hs'))) same s)

  pub first_out_fewer : (hs' : List Due) (d : Due) → in_order due_before hs ≡ d ∷ in_order due_before hs' → length hs' < length hs
  first_out_fewer hs' d e =
      let a = length_permutation hs (in_order due_before hs) (in_order_shuffled due_before hs) in
      let b = length_permutation hs' (in_order due_before hs') (in_order_shuffled due_before hs') in
      omega (arith, ap length e)

-- ONE CUE

after_texts : (s t : List ℕ) (r : Ran) → after_text s (after_text t r) ≡ after_text (s ++ t) r
after_texts s t r = λ i. record { bench = r.bench; text = sym (append_assoc s t r.text) i; left = r.left }

module _ (w : World) (d : Due) (ds : List Due) where
  pub cue_first : d.slot ≤ w.now → cues_run w (d ∷ ds) ≡ after_text (cue_line w.now d.call (called w d.call).1) (cues_run (called w d.call).0 ds)
  unfolding cues_run
  cue_first h = cond-true (leb d.slot w.now) _ _ (le-leb d.slot w.now h)

  pub cue_later : w.now < d.slot → cues_run w (d ∷ ds) ≡ record { bench = w; text = []; left = d ∷ ds }
  unfolding cues_run
  cue_later h = cond-false (leb d.slot w.now) _ _ (lt-leb d.slot w.now h)

pub cues_none : (w : World) → cues_run w [] ≡ record { bench = w; text = []; left = [] }
unfolding cues_run
cues_none w = refl

-- THE LOOP

module _ (w : World) (log : List ℕ) (cs : List Due) (all : Ran) (so_far : after_text log (cues_run w cs) ≡ all) where
  -- one cue more has run
  pub cue_more : (w' : World) (log' : List ℕ) (cs' : List Due) (d : Due) → cs ≡ d ∷ cs' → d.slot ≤ w.now → log' ≡ log ++ cue_line w.now d.call (called w d.call).1
      → w' ≡ (called w d.call).0 → after_text log' (cues_run w' cs') ≡ all
  cue_more w' log' cs' d e h l b =
      (λ i. after_text (l i) (cues_run (b i) cs'))
      ∙ (sym (after_texts log (cue_line w.now d.call (called w d.call).1) (cues_run (called w d.call).0 cs'))
      ∙ (ap (after_text log) (sym (ap (cues_run w) e ∙ cue_first w d cs' h)) ∙ so_far))

  stopped : cues_run w cs ≡ record { bench = w; text = []; left = cs } → record { bench = w; text = log; left = cs } ≡ all
  stopped e = (λ i. record { bench = w; text = sym (append-nil log) i; left = cs }) ∙ (ap (after_text log) (sym e) ∙ so_far)

  -- the first that is left has not come
  pub cue_waits : (d : Due) (rest : List Due) → cs ≡ d ∷ rest → w.now < d.slot → record { bench = w; text = log; left = cs } ≡ all
  cue_waits d rest e h = stopped (ap (cues_run w) e ∙ (cue_later w d rest h ∙ (λ i. record { bench = w; text = []; left = sym e i })))

  -- none is left
  pub cues_over : cs ≡ [] → record { bench = w; text = log; left = cs } ≡ all
  cues_over e = stopped (ap (cues_run w) e ∙ (cues_none w ∙ (λ i. record { bench = w; text = []; left = sym e i })))

-- no cue's slot has come
pub none_come : (w : World) (cs : List Due) (log : List ℕ) (next : Option ℕ) → next ≡ first_slot cs → come next w.now ≡ false → CuesRun w cs log next w cs log
none_come w [] log next e h = record { ran = cues_over w log [] _ refl refl; first = e }
none_come w (d ∷ cs) log next e h =
    record { ran = cue_waits w log (d ∷ cs) _ refl d cs refl (leb-false d.slot w.now (ap (λ n. come n w.now) (sym e) ∙ h)); first = e }
