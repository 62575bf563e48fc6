use Rattle.std.proofs.Common.{◌≡◌, [], ◌∷◌, ◌++◌, length, string_bytes, decimal, ◌∙◌, arith}
use Rattle.std.proofs.lemmas.List.Sorted.{length_permutation}
use Rattle.queue.specs.Held.{held}
use Rattle.cuelists.proofs.Checks.{printed_more, printed_all}
use Rattle.cuelists.proofs.check.in_order.Goals as goal

pub loop-due-smaller : goal.loop-due-smaller
loop-due-smaller c =
    let told = c.in-Some.ensures in
    let l : length (c.in-Some.due ∷ held c.pop.new.self) ≡ length (held c.loop-due.queue) = length_permutation _ _ told.held in
    omega arith

pub loop-due-preserved : goal.loop-due-preserved
loop-due-preserved c =
    let l = c.loop-due in
    let told = c.in-Some.ensures in
    printed_more (string_bytes l.text) _ _ (held l.queue) (held c.pop.new.self) c.in-Some.due told.foremost told.held c.in_ok-writeln.ensures.bytes l.invariant

pub returns : goal.returns
returns c =
    let l = c.loop-due in
    let told = c.in_default.ensures in
    let lines = printed_all (string_bytes l.text) _ (held l.queue) told.held.0 l.invariant in
    c.in_ok-writeln-2.ensures.bytes ∙ (λ i. lines i ++ (decimal (c.len-count.ensures.value i) ++ 10 ∷ []))
