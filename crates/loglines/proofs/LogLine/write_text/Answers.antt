use Rattle.std.proofs.Common.{◌≡◌, ℕ, List, [], ◌∷◌, ◌++◌, decimal, sym, ap, ◌∙◌, append_assoc, append-nil, subst, arith}
use Rattle.loglines.specs.Memory.{Wrote}
use Rattle.loglines.specs.Text.{opening, spaced, take_told, log_text}
use Rattle.loglines.specs.declared.LogLine.{LogLine}
use Rattle.loglines.proofs.Memory.{wrote_then, wrote_same}
use Rattle.loglines.proofs.Numbers.{spaced_append, length_u8, length_u64}
use Rattle.loglines.proofs.LogLine.write_text.Goals as goal

-- the whole text, from its two parts
both_parts : {m n k : List ℕ} {at to end : ℕ} {xs ys : List ℕ} (line : LogLine) → at ≡ 0 → log_text line ≡ xs ++ ys → Wrote m at xs to n → Wrote n to ys end k → Wrote m 0 (log_text line) end k
both_parts {m} {n} {k} {at} {to} {end} {xs} {ys} line z e v w =
    wrote_same (sym e) (subst (λ (a : ℕ). Wrote m a (xs ++ ys) end k) z (wrote_then (omega arith) v w))

grouped : (a b c : List ℕ) → (a ++ (32 ∷ b)) ++ (32 ∷ c) ≡ a ++ (32 ∷ (b ++ (32 ∷ (c ++ []))))
grouped a b c = simp (append_assoc, append-nil)

pub take_answer-requires : goal.take_answer-requires
take_answer-requires c = omega arith

pub number-requires : goal.number-requires
number-requires c = let n = length_u8 c.from-in-BadList.result (omega arith) in omega arith

pub spaced-requires : goal.spaced-requires
spaced-requires c =
    let n = length_u8 c.from-in-BadList.result (omega arith) in
    let l = length_u64 c.in-BadList.line (omega arith) in
    omega arith

pub spaced-requires-in-BadList : goal.spaced-requires-in-BadList
spaced-requires-in-BadList c =
    let n = length_u8 c.from-in-BadList.result (omega arith) in
    let l = length_u64 c.in-BadList.line (omega arith) in
    let p = length_u64 c.in-BadList.place (omega arith) in
    omega arith

pub returns-in-Order-clause-wrote : goal.returns-in-Order-clause-wrote
returns-in-Order-clause-wrote c = both_parts c.args.self.now c.requires.0 (ap log_text c.in-Order.is) c.opening.ensures.wrote c.order_answer.ensures.wrote

pub returns-in-Take-clause-wrote : goal.returns-in-Take-clause-wrote
returns-in-Take-clause-wrote c =
    let arm = c.in-Take in
    let front = opening arm.slot 116 in
    let numbers = arm.head ∷ arm.block ∷ arm.party ∷ [] in
    let told = take_told arm.answer in
    let whole = ap log_text arm.is ∙ ap (λ (l : List ℕ). front ++ l) (spaced_append numbers told) ∙ sym (append_assoc front (spaced numbers) (spaced told)) in
    let before = wrote_then (omega arith) c.opening-in-Take.ensures.wrote c.numbers.ensures.wrote in
    both_parts c.args.self.now c.requires.0 whole before c.take_answer.ensures.wrote

pub returns-in-Take-clause-short : goal.returns-in-Take-clause-short
returns-in-Take-clause-short c = omega arith

pub returns-in-Give-clause-wrote : goal.returns-in-Give-clause-wrote
returns-in-Give-clause-wrote c = both_parts c.args.self.now c.requires.0 (ap log_text c.in-Give.is ∙ ap (λ (k : ℕ). opening c.in-Give.slot 103 ++ spaced (c.in-Give.party ∷ c.in-Give.lease ∷ k ∷ [])) (sym c.number_of.ensures.value)) c.opening-in-Give.ensures.wrote c.numbers-in-Give.ensures.wrote

pub returns-in-Close-clause-wrote : goal.returns-in-Close-clause-wrote
returns-in-Close-clause-wrote c = both_parts c.args.self.now c.requires.0 (ap log_text c.in-Close.is ∙ ap (λ (k : ℕ). opening c.in-Close.slot 99 ++ spaced (c.in-Close.head ∷ k ∷ [])) (sym c.number_of-in-Close.ensures.value)) c.opening-in-Close.ensures.wrote c.numbers-in-Close.ensures.wrote

pub returns-in-Read-clause-wrote : goal.returns-in-Read-clause-wrote
returns-in-Read-clause-wrote c = both_parts c.args.self.now c.requires.0 (ap log_text c.in-Read.is) c.opening-in-Read.ensures.wrote c.numbers-in-Read.ensures.wrote

pub returns-in-Failed-clause-wrote : goal.returns-in-Failed-clause-wrote
returns-in-Failed-clause-wrote c = both_parts c.args.self.now c.requires.0 (ap log_text c.in-Failed.is) c.opening-in-Failed.ensures.wrote c.numbers-in-Failed.ensures.wrote

pub returns-in-Ended-clause-wrote : goal.returns-in-Ended-clause-wrote
returns-in-Ended-clause-wrote c = both_parts c.args.self.now c.requires.0 (ap log_text c.in-Ended.is ∙ ap (λ (k : ℕ). opening c.in-Ended.slot 101 ++ spaced (c.in-Ended.head ∷ k ∷ [])) (sym c.from.ensures)) c.opening-in-Ended.ensures.wrote c.numbers-in-Ended.ensures.wrote

pub returns-in-Done-clause-wrote : goal.returns-in-Done-clause-wrote
returns-in-Done-clause-wrote c = both_parts c.args.self.now c.requires.0 (ap log_text c.in-Done.is) c.done.ensures.wrote c.numbers-in-Done.ensures.wrote

pub returns-in-BadList-clause-wrote : goal.returns-in-BadList-clause-wrote
returns-in-BadList-clause-wrote c =
    let n = length_u8 c.from-in-BadList.result (omega arith) in
    let arm = c.in-BadList in
    let l = length_u64 arm.line (omega arith) in
    let first = wrote_then (omega arith) c.number.ensures.wrote c.spaced.ensures.wrote in
    let whole = ap log_text arm.is ∙ ap (λ (k : ℕ). decimal k ++ spaced (arm.line ∷ arm.place ∷ [])) (sym c.from-in-BadList.ensures) ∙ sym (grouped (decimal c.from-in-BadList.result) (decimal arm.line) (decimal arm.place)) in
    both_parts c.args.self.now c.requires.0 whole first c.spaced-in-BadList.ensures.wrote

pub returns-in-BadList-clause-short : goal.returns-in-BadList-clause-short
returns-in-BadList-clause-short c =
    let n = length_u8 c.from-in-BadList.result (omega arith) in
    let l = length_u64 c.in-BadList.line (omega arith) in
    let p = length_u64 c.in-BadList.place (omega arith) in
    omega arith
