-- A derived `<` is the order by keys.
use Rattle.std.proofs.Common.{◌≡◌, ℕ, ◌∙◌, rules, arith, tests}
use Rattle.std.proofs.lemmas.Bool.Decides.{nat_tests}
use Rattle.std.specs.Ordering.{partial_lt}
use Rattle.cues.specs.declared.Call.{Call}
use Rattle.cues.specs.declared.Call.TheVariants.{Order, Take, Give, Close}
use Rattle.cuelists.specs.Dues.{due_before}
use Rattle.cuelists.specs.declared.due.Due.{Due}
use Rattle.cuelists.specs.contracts.due.DuePartialOrd.TheImpl as derived
use Rattle.cuelists.proofs.due.DueOrdered.precedes.Goals as goal

abbrev due : ℕ → ℕ → Call → Due
due slot line call = record { slot = slot; line = line; call = call }

by_call : (t l t' l' : ℕ) (c c' : Call) → partial_lt (derived.ghosts).partial_cmp (due t l c) (due t' l' c') ≡ due_before (due t l c) (due t' l' c')
by_call t l t' l' (Order h f n s p b k) (Order h' f' n' s' p' b' k') = grind (arith, nat_tests)
by_call t l t' l' (Order h f n s p b k) (Take h' i' q') = search (rules, tests)
by_call t l t' l' (Order h f n s p b k) (Give q' e') = search (rules, tests)
by_call t l t' l' (Order h f n s p b k) (Close h') = search (rules, tests)
by_call t l t' l' (Take h i q) (Order h' f' n' s' p' b' k') = search (rules, tests)
by_call t l t' l' (Take h i q) (Take h' i' q') = grind (arith, nat_tests)
by_call t l t' l' (Take h i q) (Give q' e') = search (rules, tests)
by_call t l t' l' (Take h i q) (Close h') = search (rules, tests)
by_call t l t' l' (Give q e) (Order h' f' n' s' p' b' k') = search (rules, tests)
by_call t l t' l' (Give q e) (Take h' i' q') = search (rules, tests)
by_call t l t' l' (Give q e) (Give q' e') = grind (arith, nat_tests)
by_call t l t' l' (Give q e) (Close h') = search (rules, tests)
by_call t l t' l' (Close h) (Order h' f' n' s' p' b' k') = search (rules, tests)
by_call t l t' l' (Close h) (Take h' i' q') = search (rules, tests)
by_call t l t' l' (Close h) (Give q' e') = search (rules, tests)
by_call t l t' l' (Close h) (Close h') = grind (arith, nat_tests)

pub returns : goal.returns
returns c =
    let a = c.args.self.now in
    let b = c.args.other.now in
    c.lt.ensures ∙ by_call a.slot a.line b.slot b.line a.call b.call
