use Rattle.std.proofs.Common.{◌≡◌, ℕ, List, [], ◌∷◌, ◌++◌, decimal, ap, sym, ◌∙◌, append-nil, arith, lit<}
use Rattle.std.proofs.lemmas.Fmt.{decimal_digit}
use Rattle.loglines.specs.Text.{spaced, take_told}
use Rattle.loglines.proofs.Memory.{wrote_then, wrote_same}
use Rattle.loglines.proofs.Numbers.{length_u8}
use Rattle.loglines.proofs.Text.take_answer.Goals as goal

granted : (n : ℕ) → (32 ∷ 48 ∷ []) ++ (32 ∷ decimal n) ≡ spaced (0 ∷ n ∷ [])
granted n = ap (λ (l : List ℕ). 32 ∷ 48 ∷ 32 ∷ l) (sym (append-nil (decimal n))) ∙ ap (λ (ds : List ℕ). (32 ∷ ds) ++ spaced (n ∷ [])) (sym (decimal_digit 0 (lit< tt)))

pub spaced-requires : goal.spaced-requires
spaced-requires c = let s = length_u8 c.from.result (omega arith) in omega arith

pub spaced-requires-in-Err : goal.spaced-requires-in-Err
spaced-requires-in-Err c = let s = length_u8 c.from-in-Err.result (omega arith) in omega arith

pub returns-in-Ok-clause-wrote : goal.returns-in-Ok-clause-wrote
returns-in-Ok-clause-wrote c =
    let told = granted c.from.result ∙ ap (λ (n : ℕ). spaced (0 ∷ n ∷ [])) c.from.ensures ∙ ap (λ a. spaced (take_told a)) (sym c.in-Ok.is) in
    wrote_same told (wrote_then (omega arith) c.pair.ensures.wrote c.spaced.ensures.wrote)

pub returns-in-Ok-clause-short : goal.returns-in-Ok-clause-short
returns-in-Ok-clause-short c = let s = length_u8 c.from.result (omega arith) in omega arith

pub returns-in-Err-clause-short : goal.returns-in-Err-clause-short
returns-in-Err-clause-short c = let s = length_u8 c.from-in-Err.result (omega arith) in omega arith
