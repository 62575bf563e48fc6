-- Numbers, one word after another.
use Rattle.std.proofs.Common.{◌≡◌, ℕ, suc, ◌+◌, ◌-◌, ◌<◌, ◌≤◌, Bool, List, [], ◌∷◌, ◌++◌, length, take, drop, set, Some, None, Ok, Err, Option, Result, sym, refl, ap, ◌∙◌, append_assoc, append-nil, arith, length-set, take_all}
use Rattle.std.proofs.lemmas.List.{take_more_set}
use Rattle.std.proofs.lemmas.Bool.{cond-true, le-leb}
use Rattle.cues.specs.Words.{Word, number, letter, neither, word_of}
use Rattle.cues.specs.declared.Cue.{Cue}
use Rattle.cues.specs.declared.reading.Words.{Words}
use Rattle.cues.specs.Forms.{Placed, placed, numbers, then_number, made_cue, letter_form, call_form, after_slot, cue_form, form}
use Rattle.cues.specs.Reading.{words_from, left, end, Next, NextNumber, IsNoNumber}
use Rattle.cues.specs.Tokens.{token_place, token_says}
use Rattle.cues.specs.declared.token.Token.{Token}
use Rattle.cues.proofs.Cuts.{front_first}

-- the numbers ns were read, and r is read of the rest
abbrev pub with_front : List ℕ → Result (List ℕ) ℕ → Result (List ℕ) ℕ
with_front ns (Ok ms) = Ok (ns ++ ms)
with_front ns (Err p) = Err p

pub with_front_none : (r : Result (List ℕ) ℕ) → r ≡ with_front [] r
with_front_none (Ok ns) = refl
with_front_none (Err p) = refl

with_front_more : (ns : List ℕ) (n at : ℕ) (r : Result (List ℕ) ℕ) → with_front ns (then_number (number n) at r) ≡ with_front (ns ++ n ∷ []) r
with_front_more ns n at (Ok ms) = ap (λ (l : List ℕ). Ok l) (sym (append_assoc ns (n ∷ []) ms))
with_front_more ns n at (Err p) = refl

-- at a number, one more is read; at another word, the place of the fault is
numbers_number : (ws : List Placed) (end k : ℕ) (others : List Placed) (n : ℕ) → NextNumber ws end (Ok n) others → (ns : List ℕ) → with_front ns (numbers (suc k) end ws) ≡ with_front (ns ++ n ∷ []) (numbers k end others)
numbers_number [] end k others n h ns = absurd h
numbers_number (w ∷ ws) end k others n h ns =
    ap (λ (x : Word). with_front ns (then_number x w.place (numbers k end ws))) h.0 ∙ with_front_more ns n w.place (numbers k end ws)
    ∙ ap (λ (l : List Placed). with_front (ns ++ n ∷ []) (numbers k end l)) (sym h.1)

numbers_err : (ws : List Placed) (end k : ℕ) (others : List Placed) (place : ℕ) → NextNumber ws end (Err place) others → numbers (suc k) end ws ≡ Err place
numbers_err [] end k others place h = ap (λ (p : ℕ). Err p) (sym h)
numbers_err (w ∷ ws) end k others place h = by (word_of w.bytes) h.1 ∙ ap (λ (p : ℕ). Err p) (sym h.0)
  where
    by : (x : Word) → IsNoNumber x → then_number x w.place (numbers k end ws) ≡ Err w.place
    by (number n) h = absurd h
    by (letter c) h = refl
    by neither h = refl

-- a turn of the loop that reads numbers over xs, with F what all of them give
module _ (F : Result (List ℕ) ℕ) (xs : List ℕ) (i E e : ℕ) (ws others : List Placed) (same : E ≡ e) (h : i < length xs) (so_far : F ≡ with_front (take i xs) (numbers (length xs - i) E ws)) where
  at_one : F ≡ with_front (take i xs) (numbers (suc (length xs - (i + 1))) e ws)
  at_one = let k : length xs - i ≡ suc (length xs - (i + 1)) = omega arith in so_far ∙ (λ j. with_front (take i xs) (numbers (k j) (same j) ws))

  pub turn_number : (n : ℕ) → NextNumber ws e (Ok n) others → F ≡ with_front (take (i + 1) (set xs i n)) (numbers (length (set xs i n) - (i + 1)) E others)
  turn_number n t =
      at_one ∙ numbers_number ws e (length xs - (i + 1)) others n t (take i xs)
      ∙ sym (λ j. with_front (take_more_set xs i n h j) (numbers (length-set xs i n j - (i + 1)) (same j) others))

  pub turn_err : (place : ℕ) → NextNumber ws e (Err place) others → F ≡ Err place
  turn_err place n = at_one ∙ ap (with_front (take i xs)) (numbers_err ws e (length xs - (i + 1)) others place n)

pub numbers_none : (line : List ℕ) (at : Option ℕ) (end place : ℕ) → at ≡ Some place → numbers 0 end (words_from line at) ≡ Err place
numbers_none line at end place e =
    ap (λ (o : Option ℕ). numbers 0 end (words_from line o)) e ∙ ap (λ (l : List (List ℕ)). numbers 0 end (placed place l)) (front_first (drop place line)).1

-- where the numbers are all read
module _ (F : Result (List ℕ) ℕ) (xs line : List ℕ) (i E : ℕ) (at : Option ℕ) (h : length xs ≤ i) (so_far : F ≡ with_front (take i xs) (numbers (length xs - i) E (words_from line at))) where
  all_read : F ≡ with_front xs (numbers 0 E (words_from line at))
  all_read = let k : length xs - i ≡ 0 = omega arith in so_far ∙ (λ j. with_front (take_all i xs h j) (numbers (k j) E (words_from line at)))

  pub end_none : at ≡ None → F ≡ Ok xs
  end_none e = all_read ∙ ap (λ (o : Option ℕ). with_front xs (numbers 0 E (words_from line o))) e ∙ ap (λ (l : List ℕ). Ok l) (append-nil xs)

  pub end_some : (place : ℕ) → at ≡ Some place → F ≡ Err place
  end_some place e = all_read ∙ ap (with_front xs) (numbers_none line at E place e)

-- the first word of a form is read, and others are left
module _ (end : ℕ) (others : List Placed) (token : Token) where
  pub after_slot_letter : (ws : List Placed) (s c : ℕ) → Next ws end (Ok token) others → token_says token ≡ letter c → after_slot end s ws ≡ letter_form end (Some s) c (token_place token) others
  after_slot_letter [] s c h e = absurd h
  after_slot_letter (w ∷ ws) s c h e =
      ap (λ (x : Word). call_form end s x w.place ws) (h.0.says ∙ e) ∙ (λ j. letter_form end (Some s) c (sym h.0.place j) (sym h.1 j))

  pub form_slot : (begun : Bool) (ws : List Placed) (s : ℕ) → Next ws end (Ok token) others → token_says token ≡ number s → s ≤ 1000000 → form end begun ws ≡ after_slot end s others
  form_slot begun [] s h e b = absurd h
  form_slot begun (w ∷ ws) s h e b =
      ap (λ (x : Word). cue_form end begun x w.place ws) (h.0.says ∙ e) ∙ cond-true _ _ _ (le-leb s 1000000 b) ∙ ap (after_slot end s) (sym h.1)

-- a call is made of the numbers that follow its letter
pub call_made : (w after : Words) (s c k : ℕ) (f : List ℕ → Cue) (token : Token) (r : Result (List ℕ) ℕ)
    → Next (left w) (end w) (Ok token) (left after) → after.line ≡ w.line → token_says token ≡ letter c
    → ((e at : ℕ) (ws : List Placed) → letter_form e (Some s) c at ws ≡ made_cue f (numbers k e ws))
    → r ≡ numbers k (end after) (left after) → made_cue f r ≡ after_slot (end w) s (left w)
call_made w after s c k f token r next line says asks read =
    let ends : end after ≡ end w = ap (λ l. length l.now) line in
    ap (made_cue f) read ∙ (λ j. made_cue f (numbers k (ends j) (left after)))
    ∙ sym (asks (end w) (token_place token) (left after)) ∙ sym (after_slot_letter (end w) (left after) token (left w) s c next says)
