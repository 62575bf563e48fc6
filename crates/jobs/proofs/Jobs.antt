-- A list that is read without fault, and run.
use Rattle.std.proofs.Common.{◌≡◌, ℕ, List, [], replicate, Ok, Option, sym, ap, ◌∙◌, subst}
use Rattle.refusal.specs.declared.Fault.{Fault}
use Rattle.disk.specs.Meaning.{Block}
use Rattle.layers.specs.declared.plan.Entry.{Entry}
use Rattle.queue.specs.Order.{in_order}
use Rattle.queue.proofs.Order.{in_order_same}
use Rattle.history.specs.Calls.{new}
use Rattle.cuelists.specs.Dues.{due_before}
use Rattle.cuelists.specs.Lists.{Outcome, list_read, Reads}
use Rattle.cuelists.specs.declared.due.Due.{Due}
use Rattle.cuelists.specs.declared.list.ListFault.{ListFault}
use Rattle.jobs.specs.Run.{job_disk, list_text, slots_run, read_text}
use Rattle.jobs.proofs.Cues.{ranks, untied}

pub list_run : (room : ℕ) (es es' : List Entry) (ds ds' : List Due) (input image : List ℕ) (disk : List Block) → room ≡ 512 → es ≡ [] → ds ≡ [] → Reads (list_read room es ds input) (Ok tt) es' ds'
    → disk ≡ job_disk image es' → (told : ℕ → Fault)
    → slots_run told 1000000 (new 0 disk (replicate 2048 0)) (in_order due_before ds') ≡ read_text told image (list_read 512 [] [] input)
list_run room es es' ds ds' input image disk r e d h same told =
    let o : Outcome = list_read 512 [] [] input in
    let here : Reads o (Ok tt) es' ds' = subst (λ (x : Outcome). Reads x (Ok tt) es' ds') (λ i. list_read (r i) (e i) (d i) input) h in
    let calls = in_order_same due_before ranks untied o.left.calls ds' here.calls in
    (λ i. slots_run told 1000000 (new 0 ((same ∙ ap (job_disk image) here.entries) i) (replicate 2048 0)) (sym calls i))
    ∙ ap (λ (f : Option ListFault). list_text told image o.left f) here.answer
