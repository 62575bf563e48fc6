-- The first part of a cut, and the cut of the rest.
use Rattle.std.specs.Option.{ok_or, is_some}
use Rattle.std.specs.Prelude.{IfSome, None, min}
use Rattle.std.proofs.Common.{◌≡◌, ℕ, suc, ◌+◌, ◌-◌, ◌<◌, ◌≤◌, Bool, true, false, cond, eqb, List, [], ◌∷◌, length, take, drop, take_all, Some, Ok, Err, Option, sym, refl, ap, ◌∙◌, subst, ⊎_elim, arith, length-drop}
use Rattle.std.proofs.lemmas.Bool.{cond-true, cond-false, lt-ltb, le-ltb, cases_lt}
use Rattle.std.proofs.lemmas.List.{drop-drop, drop_all}
use Rattle.cues.specs.Tokens.{token_word, Reads}
use Rattle.cues.specs.declared.token.Token.{Token}
use Rattle.cues.specs.Words.{onto, cut, lines, words, front}
use Rattle.cues.specs.Forms.{placed, Placed}
use Rattle.cues.specs.Reading.{words_from, place_after, Next}

module _ (mark : ℕ) (none : List (List ℕ)) where
  pub cut_more : (xs : List ℕ) → length (front mark xs) < length xs → cut mark none xs ≡ front mark xs ∷ cut mark none (drop (suc (length (front mark xs))) xs)
  unfolding cut
  cut_more [] h = absurd (omega arith)
  cut_more (c ∷ cs) h = by (eqb c mark) (cut_more cs) h
    where
      by : (b : Bool) → (length (front mark cs) < length cs → cut mark none cs ≡ front mark cs ∷ cut mark none (drop (suc (length (front mark cs))) cs))
          → length (cond b [] (c ∷ front mark cs)) < length (c ∷ cs) → cond b ([] ∷ cut mark none cs) (onto c (cut mark none cs)) ≡ cond b [] (c ∷ front mark cs) ∷ cut mark none (drop (suc (length (cond b [] (c ∷ front mark cs)))) (c ∷ cs))
      by true r h = refl
      by false r h = ap (onto c) (r (omega arith))

  -- without the byte there is one part, unless there are no bytes
  pub cut_last : ((c : ℕ) → onto c none ≡ (c ∷ []) ∷ []) → (xs : List ℕ) → 0 < length xs → length xs ≤ length (front mark xs) → cut mark none xs ≡ front mark xs ∷ []
  unfolding cut
  cut_last one [] s h = absurd (omega arith)
  cut_last one (c ∷ []) s h = by (eqb c mark) h
    where
      by : (b : Bool) → 1 ≤ length (cond b [] (c ∷ [])) → cond b ([] ∷ none) (onto c none) ≡ cond b [] (c ∷ []) ∷ []
      by true h = absurd (omega arith)
      by false h = one c
  cut_last one (c ∷ d ∷ ds) s h = by (eqb c mark) (cut_last one (d ∷ ds) (omega arith)) h
    where
      by : (b : Bool) → (length (d ∷ ds) ≤ length (front mark (d ∷ ds)) → cut mark none (d ∷ ds) ≡ front mark (d ∷ ds) ∷ [])
          → length (c ∷ d ∷ ds) ≤ length (cond b [] (c ∷ front mark (d ∷ ds))) → cond b ([] ∷ cut mark none (d ∷ ds)) (onto c (cut mark none (d ∷ ds))) ≡ cond b [] (c ∷ front mark (d ∷ ds)) ∷ []
      by true r h = absurd (omega arith)
      by false r h = ap (onto c) (r (omega arith))

pub words_last : (xs : List ℕ) → length xs ≤ length (front 32 xs) → words xs ≡ front 32 xs ∷ []
unfolding cut
words_last [] h = refl
words_last (c ∷ cs) h = cut_last 32 ([] ∷ []) (λ c. refl) (c ∷ cs) (omega arith) h

-- whatever the bytes, the first word is there
pub front_first : (xs : List ℕ) → (ws : List (List ℕ)) × (words xs ≡ front 32 xs ∷ ws)
front_first xs =
    ⊎_elim
    (λ (lt : length (front 32 xs) < length xs). (_, cut_more 32 ([] ∷ []) xs lt))
    (λ (ge : length xs ≤ length (front 32 xs)). ([], words_last xs ge))
    (cases_lt (length (front 32 xs)) (length xs))

-- the words from `from` on, the first of them apart
pub words_step : (line : List ℕ) (from end : ℕ) → from ≤ length line → end ≡ from + length (front 32 (drop from line))
    → placed from (words (drop from line)) ≡ record { place = from; bytes = front 32 (drop from line) } ∷ words_from line (place_after line end)
words_step line from end h e =
    let w = front 32 (drop from line) in
    let first : Placed = record { place = from; bytes = w } in
    let size = length-drop from line in
    ⊎_elim
    (λ (lt : end < length line).
    let split = cut_more 32 ([] ∷ []) (drop from line) (omega arith) in
    let at : from + suc (length w) ≡ end + 1 = omega arith in
    let place : from + length w + 1 ≡ end + 1 = omega arith in
    let rest = drop-drop (suc (length w)) from line ∙ ap (λ (k : ℕ). drop k line) at in
    ap (placed from) split ∙ (λ i. first ∷ placed (place i) (words (rest i)))
    ∙ ap (λ (l : List Placed). first ∷ l) (sym (ap (words_from line) (cond-true _ _ _ (lt-ltb end (length line) lt)))))
    (λ (ge : length line ≤ end).
    ap (placed from) (words_last (drop from line) (omega arith))
    ∙ ap (λ (l : List Placed). first ∷ l) (sym (ap (words_from line) (cond-false _ _ _ (le-ltb end (length line) ge)))))
    (cases_lt end (length line))

-- the token that begins the words from `from` on, or the place of the fault
module _ (line : List ℕ) (from : ℕ) where
  pub next_ok : (at to : Option ℕ) (token : Token) (width : ℕ) → at ≡ Some from → to ≡ place_after line (from + width) → Reads line from (Ok token) → width ≡ length (token_word token) → Next (words_from line at) (length line) (Ok token) (words_from line to)
  next_ok at to token width p q r e =
      let w = ap length r.1.word in
      let split = ap (words_from line) p ∙ words_step line from (from + width) r.0 (omega arith) in
      subst (λ ws. Next ws (length line) (Ok token) (words_from line to)) (sym split) (r.1, ap (words_from line) q)

  pub next_err : (at : Option ℕ) (place : ℕ) (others : List Placed) → at ≡ Some from → Reads line from (Err place) → Next (words_from line at) (length line) (Err place) others
  next_err at place others p r =
      let first = front_first (drop from line) in
      let split = ap (words_from line) p ∙ ap (placed from) first.1 in
      subst (λ ws. Next ws (length line) (Err place) others) (sym split) r

pub lines_none : (input : List ℕ) → length input ≡ 0 → lines input ≡ []
unfolding cut
lines_none [] e = refl
lines_none (c ∷ cs) e = absurd (omega arith)

-- the first of the lines apart
pub lines_step : (input : List ℕ) (line : List ℕ) (end : ℕ) → 0 < length input → line ≡ front 10 input → end ≡ min (length input) (length line + 1) → lines input ≡ line ∷ lines (take (length input - end) (drop end input))
unfolding cut
lines_step input line end h f e =
    let l = front 10 input in
    let same : length l ≡ length line = ap length (sym f) in
    let whole = take_all (length input - end) (drop end input) (omega (arith, length-drop end input)) in
    ⊎_elim
    (λ (lt : length l < length input).
    let to : suc (length l) ≡ end = omega arith in
    cut_more 10 [] input lt ∙ (λ j. sym f j ∷ lines (drop (to j) input)))
    (λ (ge : length input ≤ length l).
    cut_last 10 [] (λ c. refl) input h ge ∙ (λ j. sym f j ∷ lines (sym (drop_all end input (omega arith)) j)))
    (cases_lt (length l) (length input))
    ∙ ap (λ (xs : List ℕ). line ∷ lines xs) (sym whole)

-- no more lines than bytes
pub length_lines : (input : List ℕ) → length (lines input) ≤ length input
unfolding cut
length_lines [] = omega arith
length_lines (c ∷ cs) = by (eqb c 10) (lines cs) (length_lines cs)
  where
    put : (ls : List (List ℕ)) → length ls ≤ length cs → length (onto c ls) ≤ suc (length cs)
    put [] h = omega arith
    put (l ∷ ls) h = omega arith

    by : (b : Bool) (ls : List (List ℕ)) → length ls ≤ length cs → length (cond b ([] ∷ ls) (onto c ls)) ≤ suc (length cs)
    by true ls h = omega arith
    by false ls h = put ls h

pub some_from_ok : {A E : Type 0} (o : Option A) (e : E) (x : A) → Ok x ≡ ok_or o e → o ≡ Some x
some_from_ok (Some y) e x h = cc
some_from_ok None e x h = cc

-- what `then` gives
pub given_if : {A : Type 0} (o : Option A) (b : Bool) (x : A) → is_some o ≡ b → IfSome o (λ y. y ≡ x) → o ≡ cond b (Some x) None
given_if (Some y) true x e h = ap (λ v. Some v) h
given_if (Some y) false x e h = cc
given_if None true x e h = cc
given_if None false x e h = refl
