-- Calls printed in the order in which they run.
use Rattle.std.proofs.Common.{◌≡◌, ℕ, List, [], ◌∷◌, ◌++◌, Some, Ok, decimal, Option, sym, ap, ◌∙◌, subst, append_assoc, append-nil}
use Rattle.std.specs.List.{flat_map}
use Rattle.std.specs.Cmp.{IsStrictWeakOrder}
use Rattle.std.specs.List.Sorted.{IsPermutation}
use Rattle.std.proofs.lemmas.List.Sorted.{length_permutation}
use Rattle.layers.specs.declared.plan.Entry.{Entry}
use Rattle.queue.specs.Order.{in_order, Foremost, Untied}
use Rattle.queue.specs.KeysLemmas.{ranks_by_keys, untied_by_keys}
use Rattle.queue.proofs.Order.{in_order_same, in_order_first}
use Rattle.cuelists.specs.Dues.{due_keys, due_before}
use Rattle.cuelists.specs.Lists.{Outcome, list_read, Reads}
use Rattle.cuelists.specs.Checks.{due_line, calls_text, outcome_text, check_text}
use Rattle.cuelists.specs.declared.due.Due.{Due}
use Rattle.cuelists.specs.DuesLemmas.{same_due}

ranks : IsStrictWeakOrder due_before
ranks = ranks_by_keys due_keys

untied : Untied due_before
untied = untied_by_keys due_keys same_due

-- one line more is printed, and its call waits no longer
pub printed_more : (text line all : List ℕ) (ds rest : List Due) (due : Due) → Foremost due_before ds (Some due) → IsPermutation ds (due ∷ rest) → line ≡ text ++ due_line due
    → text ++ flat_map due_line (in_order due_before ds) ≡ all → line ++ flat_map due_line (in_order due_before rest) ≡ all
printed_more text line all ds rest due f s e so_far =
    ap (λ (l : List ℕ). l ++ flat_map due_line (in_order due_before rest)) e ∙ append_assoc text (due_line due) (flat_map due_line (in_order due_before rest))
    ∙ ap (λ (l : List Due). text ++ flat_map due_line l) (sym (in_order_first due_before ranks untied ds rest due f s)) ∙ so_far

-- none waits any longer
pub printed_all : (text all : List ℕ) (ds : List Due) → ds ≡ [] → text ++ flat_map due_line (in_order due_before ds) ≡ all → text ≡ all
unfolding in_order
printed_all text all ds e so_far = sym (append-nil text) ∙ ap (λ (l : List Due). text ++ flat_map due_line (in_order due_before l)) (sym e) ∙ so_far

calls_same : (ds es : List Due) → IsPermutation ds es → calls_text es ≡ calls_text ds
calls_same ds es s = λ i. flat_map due_line (sym (in_order_same due_before ranks untied ds es s) i) ++ (decimal (length_permutation ds es s i) ++ 10 ∷ [])

-- a list that is read without fault
pub checked : (room : ℕ) (es es' : List Entry) (cs cs' : List Due) (input : List ℕ) → room ≡ 512 → es ≡ [] → cs ≡ [] → Reads (list_read room es cs input) (Ok tt) es' cs' → calls_text cs' ≡ check_text input
checked room es es' cs cs' input r e c h =
    let o : Outcome = list_read 512 [] [] input in
    let here : Reads o (Ok tt) es' cs' = subst (λ (x : Outcome). Reads x (Ok tt) es' cs') (λ i. list_read (r i) (e i) (c i) input) h in
    calls_same o.left.calls cs' here.calls ∙ ap (λ (f : Option _). outcome_text f o.left.calls) here.answer
