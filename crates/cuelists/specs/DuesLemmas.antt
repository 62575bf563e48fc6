-- The keys tell calls apart.
use Rattle.std.specs.Prelude.{◌≡◌, ℕ, ◌+◌, ◌<◌, cond, List, length, drop, ◌==◌, ◌≢◌, nat_lt, slice_index, slice_index_or}
use Rattle.std.proofs.Common.{◌∙◌}
use Rattle.std.proofs.lemmas.List.{drop_more}
use Rattle.std.proofs.lemmas.Bool.{cond-true, cond-false, eq-eqb, ne_eqb}
use Rattle.queue.specs.Keys.{lex}
use Rattle.cues.specs.declared.Call.{Call}
use Rattle.cues.specs.declared.Call.TheVariants.{Order, Take, Give, Close}
use Rattle.cuelists.specs.Dues.{call_keys, due_keys}
use Rattle.cuelists.specs.declared.due.Due.{Due}

same_call : (a b : Call) → call_keys a ≡ call_keys b → a ≡ b
same_call (Order h f n s p b k) (Order h' f' n' s' p' b' k') e = cc
same_call (Order h f n s p b k) (Take h' i q) e = cc
same_call (Order h f n s p b k) (Give q l) e = cc
same_call (Order h f n s p b k) (Close h') e = cc
same_call (Take h i q) (Order h' f' n' s' p' b' k') e = cc
same_call (Take h i q) (Take h' i' q') e = cc
same_call (Take h i q) (Give q' l) e = cc
same_call (Take h i q) (Close h') e = cc
same_call (Give q l) (Order h' f' n' s' p' b' k') e = cc
same_call (Give q l) (Take h' i' q') e = cc
same_call (Give q l) (Give q' l') e = cc
same_call (Give q l) (Close h') e = cc
same_call (Close h) (Order h' f' n' s' p' b' k') e = cc
same_call (Close h) (Take h' i' q') e = cc
same_call (Close h) (Give q' l') e = cc
same_call (Close h) (Close h') e = cc

pub same_due : (x y : Due) → due_keys x ≡ due_keys y → x ≡ y
same_due x y e =
    let s : x.slot ≡ y.slot = cc in
    let l : x.line ≡ y.line = cc in
    let k : call_keys x.call ≡ call_keys y.call = cc in
    let c = same_call x.call y.call k in
    λ i. record { slot = s i; line = l i; call = c i }

-- two lists as long as each other, compared from place i on
module _ (xs ys : List ℕ) (i : ℕ) (h : i < length xs) (k : i < length ys) where
  step : lex (drop i xs) (drop i ys) ≡ cond (slice_index xs i == slice_index ys i) (lex (drop (i + 1) xs) (drop (i + 1) ys)) (nat_lt (slice_index xs i) (slice_index ys i))
  step = λ j. lex (drop_more xs i 0 h j) (drop_more ys i 0 k j)

  pub lex_same : slice_index_or xs i 0 ≡ slice_index ys i → lex (drop i xs) (drop i ys) ≡ lex (drop (i + 1) xs) (drop (i + 1) ys)
  lex_same e = step ∙ cond-true _ _ _ (eq-eqb (slice_index xs i) (slice_index ys i) e)

  pub lex_differ : (slice_index xs i ≢ slice_index ys i) → lex (drop i xs) (drop i ys) ≡ nat_lt (slice_index xs i) (slice_index ys i)
  lex_differ n = step ∙ cond-false _ _ _ (ne_eqb (slice_index xs i) (slice_index ys i) n)
