-- The log of a run tells a history.
use Rattle.std.proofs.Common.{◌≡◌, ℕ, zero, suc, ◌%◌, Bool, true, false, cond, ◌&&◌, eqb, leb, List, [], ◌∷◌, ◌++◌, length, replicate, Some, None, Option, sym, refl, ap, ◌∙◌, subst, append_assoc, arith}
use lib.ListN.{length-replicate}
use Rattle.std.proofs.lemmas.Bool.{cond-true, cond_both, and_parts, eqb-true, leb-true}
use Rattle.refusal.specs.declared.Fault.{Fault}
use Rattle.refusal.specs.declared.Refusal.TheVariants.{Bounds}
use Rattle.disk.specs.Meaning.{Block}
use Rattle.layers.specs.Entries.{planned}
use Rattle.layers.specs.declared.plan.Entry.{Entry}
use Rattle.layers.proofs.Plans.{plan_same_bytes}
use Rattle.image.specs.Images.{ImageFits, image_meaning}
use Rattle.image.proofs.Images.{image_proper}
use Rattle.history.specs.Bench.{World}
use Rattle.history.specs.Calls.{Answer, refuse, new, admit, tick, ends}
use Rattle.history.specs.Laws.{BenchLaws}
use Rattle.history.specs.Told.{Call as Asks, admits, ticks, takes, gives, closes, call, after, answers, Told}
use Rattle.history.specs.declared.Asked.{Asked}
use Rattle.history.proofs.Laws.{bench_laws}
use Rattle.history.proofs.Telling.{view, call_told, told_is, tally_law}
use Rattle.queue.specs.Order.{in_order}
use Rattle.bench.specs.Limits.{valid}
use Rattle.bench.specs.Orders.{asking}
use Rattle.bench.specs.Sound.{order_ok}
use Rattle.cues.specs.declared.Call.{Call}
use Rattle.cues.specs.declared.Call.TheVariants.{Order, Take, Give, Close}
use Rattle.cuelists.specs.Dues.{due_before}
use Rattle.cuelists.specs.Lists.{Outcome, Sofar, list_read}
use Rattle.cuelists.specs.declared.due.Due.{Due}
use Rattle.cuelists.specs.declared.list.ListFault.{ListFault}
use Rattle.jobs.specs.Lines.{line, number_of, span_of, cue_line, tick_line, ended_lines, done_line}
use Rattle.jobs.specs.Run.{called, Ran, after_text, cues_run, tick_text, end_text, over, slots_run, image_fits, job_disk, job_bench, list_text, job_text}
use Rattle.jobs.specs.Histories.{Deed, calls, no_order, history, call_lines, lines_told, TellsHistory, ListTold, JobTold}
use Rattle.jobs.proofs.Running.{untold}

-- the lines of deeds on a bench that is w
abbrev lines_of : World → List Deed → List ℕ
lines_of w ds = lines_told (view w) ds (answers w (history ds))

call_first : (w : World) (c : Asks) (ds : List Deed) → lines_of w (calls c ∷ ds) ≡ call_lines (view w) c (call w c).1 ++ lines_of (call w c).0 ds
call_first w c ds = ap (λ (t : Told). call_lines (view w) c (call w c).1 ++ lines_told t ds (answers (call w c).0 (history ds))) (sym (call_told w c))

-- ONE CUE

abbrev order_deed : (o : Asked) (b : Bool) → order_ok o ≡ b → Deed
order_deed o true e = calls (admits o (valid o e))
order_deed o false e = no_order o.head

abbrev cue_deed : Call → Deed
cue_deed (Order head first count start period depth spare) = order_deed (asking head first count start period depth spare) (order_ok (asking head first count start period depth spare)) refl
cue_deed (Take head block party) = calls (takes head block party false)
cue_deed (Give party lease) = calls (gives party lease)
cue_deed (Close head) = calls (closes head)

module _ (w : World) (rest : List Deed) where
  order_told : (o : Asked) (b : Bool) (e : order_ok o ≡ b) → let r : World × Answer = cond b (admit w o) (w, refuse Bounds) in
      lines_of w (order_deed o b e ∷ rest) ≡ line w.now 111 (o.head ∷ number_of r.1 ∷ span_of r.1) ++ lines_of r.0 rest
  order_told o true e = call_first w (admits o (valid o e)) rest
  order_told o false e = refl

  order_after : (o : Asked) (b : Bool) (e : order_ok o ≡ b) → after w (history (order_deed o b e ∷ rest)) ≡ after (cond b (admit w o) (w, refuse Bounds)).0 (history rest)
  order_after o true e = refl
  order_after o false e = refl

  cue_told : (c : Call) → lines_of w (cue_deed c ∷ rest) ≡ cue_line w.now c (called w c).1 ++ lines_of (called w c).0 rest
  cue_told (Order head first count start period depth spare) = order_told (asking head first count start period depth spare) (order_ok (asking head first count start period depth spare)) refl
  cue_told (Take head block party) = call_first w (takes head block party false) rest
  cue_told (Give party lease) = call_first w (gives party lease) rest
  cue_told (Close head) = call_first w (closes head) rest

  cue_after : (c : Call) → after w (history (cue_deed c ∷ rest)) ≡ after (called w c).0 (history rest)
  cue_after (Order head first count start period depth spare) = order_after (asking head first count start period depth spare) (order_ok (asking head first count start period depth spare)) refl
  cue_after (Take head block party) = refl
  cue_after (Give party lease) = refl
  cue_after (Close head) = refl

-- THE CUES OF A SLOT

-- deeds that come to r, whatever follows them
abbrev Came : World → Ran → Type 0
Came w r = (ds : List Deed) × ((rest : List Deed) → (lines_of w (ds ++ rest) ≡ r.text ++ lines_of r.bench rest) × (after w (history (ds ++ rest)) ≡ after r.bench (history rest)))

cues_told : (w : World) (cs : List Due) → Came w (cues_run w cs)
unfolding cues_run
cues_told w [] = ([], λ rest. (refl, refl))
cues_told w (d ∷ cs) =
    let ih = cues_told (called w d.call).0 cs in
    let r : Ran = cues_run (called w d.call).0 cs in
    let l : List ℕ = cue_line w.now d.call (called w d.call).1 in
    cond_both (leb d.slot w.now) (after_text l r) (record { bench = w; text = []; left = d ∷ cs }) (Came w)
    (λ _. (
      cue_deed d.call ∷ ih.0,
      λ rest. (
        cue_told w (ih.0 ++ rest) d.call ∙ (ap (λ (t : List ℕ). l ++ t) (ih.1 rest).0 ∙ sym (append_assoc l r.text (lines_of r.bench rest))),
        cue_after w (ih.0 ++ rest) d.call ∙ (ih.1 rest).1,
      ),
    ))
    (λ _. ([], λ rest. (refl, refl)))

-- SLOTS

-- the text is the lines of some deeds, and then the end of the bench that they leave
abbrev Ended : World → List ℕ → Type 0
Ended w t = (ds : List Deed) × (t ≡ lines_of w ds ++ end_text (after w (history ds)))

cues_then : (w : World) (cs : List Due) (t : List ℕ) → Ended (cues_run w cs).bench t → Ended w ((cues_run w cs).text ++ t)
cues_then w cs t h =
    let came = cues_told w cs in
    let p = came.1 h.0 in
    let r : Ran = cues_run w cs in (
      came.0 ++ h.0,
      ap (λ (x : List ℕ). r.text ++ x) h.1 ∙ (sym (append_assoc r.text (lines_of r.bench h.0) (end_text (after r.bench (history h.0))))
          ∙ (λ i. sym p.0 i ++ end_text (sym p.1 i))),
    )

tick_then : (w : World) (f : Fault) (t : List ℕ) → Ended (tick w f).0 t → Ended w (tick_text w f ++ t)
tick_then w f t h =
    let same : call_lines (view w) (ticks f) (tick w f).1 ≡ tick_text w f =
    (λ i. tick_line w.now (tick w f).1 ++ ended_lines (sym (call_told w (ticks f)) i).now 0 (ends w.lanes (sym (call_told w (ticks f)) i).lanes)) in (
      calls (ticks f) ∷ h.0,
      ap (λ (x : List ℕ). tick_text w f ++ x) h.1 ∙ (sym (append_assoc (tick_text w f) (lines_of (tick w f).0 h.0) (end_text (after (tick w f).0 (history h.0))))
          ∙ ap (λ (x : List ℕ). x ++ end_text (after (tick w f).0 (history h.0))) (ap (λ (x : List ℕ). x ++ lines_of (tick w f).0 h.0) (sym same) ∙ sym (call_first w (ticks f) h.0))),
    )

slots_ended : (faults : ℕ → Fault) (k : ℕ) (w : World) (cs : List Due) → Ended w (slots_run faults k w cs)
unfolding slots_run
slots_ended faults zero w cs = cues_then w cs (end_text (cues_run w cs).bench) ([], refl)
slots_ended faults (suc k) w cs =
    let r : Ran = cues_run w cs in
    let f : Fault = faults r.bench.now in
    cues_then w cs _
    (cond_both (over r) (end_text r.bench) (tick_text r.bench f ++ slots_run faults k (tick r.bench f).0 r.left) (Ended r.bench) (λ _. ([], refl))
    (λ _. tick_then r.bench f _ (slots_ended faults k (tick r.bench f).0 r.left)))

-- of a new bench
tells_history : (disk : List Block) (pool : List ℕ) (t : List ℕ) → Ended (new 0 disk pool) t → TellsHistory (new 0 disk pool) t
tells_history disk pool t h =
    let w : World = new 0 disk pool in
    let hs : List Asks = history h.0 in
    let tallies = tally_law 0 disk pool hs in
    record {
      deeds = h.0;
      lines = h.1 ∙ (λ i. lines_of w h.0 ++ done_line (sym (told_is 0 disk pool hs) i).now (tallies.0 i) (tallies.1 i));
    }

-- THE JOB

fits : (n : ℕ) → image_fits n ≡ true → ImageFits n
fits n e =
    let a = and_parts (eqb (n % 70) 0) (leb 70 n && leb n 65520) e in
    let b = and_parts (leb 70 n) (leb n 65520) a.1 in
    let most = leb-true n 65520 b.1 in
    (eqb-true (n % 70) 0 a.0, leb-true 70 n b.0, omega arith)

-- the plan over a good image is a disk, so the laws hold of a bench over it
job_laws : (image : List ℕ) (entries : List Entry) → image_fits (length image) ≡ true → BenchLaws 0 (job_disk image entries) (replicate 2048 0)
job_laws image entries e =
    bench_laws 0 (job_disk image entries) (replicate 2048 0)
    (record { proper = (plan_same_bytes (planned entries) (image_meaning image)).proper (image_proper image (fits (length image) e)); size = length-replicate {A = ℕ} 2048 0 })

list_told : (image : List ℕ) (s : Sofar) (f : Option ListFault) (log : List ℕ) → image_fits (length image) ≡ true → log ≡ list_text untold image s f → ListTold image s f log
list_told image s (Some f) log ok e = tt
list_told image s None log ok e = (
  subst (TellsHistory (job_bench image s.entries)) (sym e) (tells_history (job_disk image s.entries) (replicate 2048 0) _ (slots_ended untold 1000000 (job_bench image s.entries) (in_order due_before s.calls))),
  job_laws image s.entries ok,
)

pub job_told : (image : Option (List ℕ)) (cues log : List ℕ) → log ≡ job_text untold image cues → JobTold image cues log
job_told None cues log e = tt
job_told (Some image) cues log e = λ ok.
    let o : Outcome = list_read 512 [] [] cues in
    list_told image o.left o.first_fault log ok (e ∙ cond-true (image_fits (length image)) _ _ ok)
