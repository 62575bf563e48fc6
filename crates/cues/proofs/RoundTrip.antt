-- The line of a cue reads as the cue.
use Rattle.std.proofs.Common.{◌≡◌, ℕ, ◌+◌, ◌^◌, ◌<◌, ◌≤◌, Bool, true, false, eqb, ◌⊎◌, List, [], ◌∷◌, ◌++◌, map, length, get_or, Ok, decimal, refl, ap, ◌∙◌, inl, inr, ⊎_elim, arith, lit<}
use Rattle.std.specs.Char.{is_ascii_digit}
use Rattle.std.specs.List.{AllByRecursion}
use Rattle.std.specs.Str.{all_ascii_digits}
use Rattle.std.proofs.lemmas.Fmt.{digits_decimal, digits_value-decimal, decimal_nonempty, decimal_digit, length-decimal-le, first_decimal}
use Rattle.std.proofs.lemmas.Bool.{cond-true, cond-false, and_parts, eq-eqb, ne_eqb, le-leb, cases_lt}
use Rattle.cues.specs.Words.{Word, number, onto, cut, words, word_of}
use Rattle.cues.specs.Forms.{Placed, placed, numbers, then_number, made_cue, plan, order, take_block, give, close, cue_form, form, after_slot, line_cue}
use Rattle.cues.specs.Text.{spaced, call_letter, call_numbers, cue_words, cue_line, Writable}
use Rattle.cues.specs.declared.Call.{Call}
use Rattle.cues.specs.declared.Call.TheVariants.{Order, Take, Give, Close}
use Rattle.cues.specs.declared.Cue.{Cue}
use Rattle.cues.specs.declared.Cue.TheVariants.{Plan, At}
use Rattle.cues.proofs.Words.{own, digit_range, number_true}

-- no byte of w is m
abbrev pub Lacks : ℕ → List ℕ → Type 0
Lacks m w = AllByRecursion (λ c. eqb c m ≡ false) w

abbrev pub Unspaced : List ℕ → Type 0
Unspaced w = Lacks 32 w

pub cut_lacking : (m : ℕ) (none : List (List ℕ)) (w rest : List ℕ) → Lacks m w → cut m none (w ++ m ∷ rest) ≡ w ∷ cut m none rest
unfolding cut
cut_lacking m none [] rest u = cond-true _ _ _ (eq-eqb m m refl)
cut_lacking m none (c ∷ cs) rest u = cond-false _ _ _ u.0 ∙ ap (onto c) (cut_lacking m none cs rest u.1)

pub words_one : (w : List ℕ) → Unspaced w → words w ≡ w ∷ []
unfolding cut
words_one [] u = refl
words_one (c ∷ cs) u = cond-false _ _ _ u.0 ∙ ap (onto c) (words_one cs u.1)

words_spaced : (w : List ℕ) (ws : List (List ℕ)) → Unspaced w → AllByRecursion Unspaced ws → words (spaced (w ∷ ws)) ≡ w ∷ ws
words_spaced w [] u us = words_one w u
words_spaced w (v ∷ ws) u us = cut_lacking 32 ([] ∷ []) w (spaced (v ∷ ws)) u ∙ ap (λ (l : List (List ℕ)). w ∷ l) (words_spaced v ws us.0 us.1)

lacks_digits : (m : ℕ) → m < 48 → (w : List ℕ) → all_ascii_digits w ≡ true → Lacks m w
lacks_digits m h [] d = tt
lacks_digits m h (c ∷ cs) d =
    let both = and_parts (is_ascii_digit c) (all_ascii_digits cs) d in
    let range = digit_range c both.0 in
    (ne_eqb c m (λ e. omega arith), lacks_digits m h cs both.1)

module _ (n : ℕ) (small : n ≤ 9999999) where
  pub lacks_decimal : (m : ℕ) → m < 48 → Lacks m (decimal n)
  lacks_decimal m h = lacks_digits m h (decimal n) (digits_decimal own n (omega arith))

  no_leading_zero : ((get_or (decimal n) 0 0 ≡ 48) × (length (decimal n) ≤ 1)) ⊎ (get_or (decimal n) 0 0 ≡ 48 → ⊥)
  no_leading_zero =
      ⊎_elim
      (λ (z : n < 1).
      let one = decimal_digit n (omega arith) in
      let first : get_or (decimal n) 0 0 ≡ 48 + n = ap (λ (l : List ℕ). get_or l 0 0) one in
      let long : length (decimal n) ≡ 1 = ap length one in
      inl (omega arith, omega arith))
      (λ (p : 1 ≤ n). let first = first_decimal n (omega arith) (omega arith) in inr (λ e. omega arith))
      (cases_lt n 1)

  pub word_decimal : word_of (decimal n) ≡ number n
  word_decimal =
      let some = decimal_nonempty n (omega arith) in
      let short = length-decimal-le 7 n (lit< tt) (omega arith) (omega arith) in
      let below : n < 2 ^ 64 = omega arith in
      cond-true _ _ _ (number_true (decimal n) some short no_leading_zero (digits_decimal own n below)) ∙ ap number (digits_value-decimal own n below)

lacks_all : (m : ℕ) → m < 48 → (ns : List ℕ) → AllByRecursion (λ n. n ≤ 9999999) ns → AllByRecursion (Lacks m) (map decimal ns)
lacks_all m h [] a = tt
lacks_all m h (n ∷ ns) a = (lacks_decimal n a.0 m h, lacks_all m h ns a.1)

numbers_decimal : (ns : List ℕ) (end at : ℕ) → AllByRecursion (λ n. n ≤ 9999999) ns → numbers (length ns) end (placed at (map decimal ns)) ≡ Ok ns
numbers_decimal [] end at a = refl
numbers_decimal (n ∷ ns) end at a =
    ap (λ (w : Word). then_number w at (numbers (length ns) end (placed (at + length (decimal n) + 1) (map decimal ns)))) (word_decimal n a.0)
    ∙ ap (then_number (number n) at) (numbers_decimal ns end (at + length (decimal n) + 1) a.1)

-- a line of words that have no space is read by its form
line_form : (begun : Bool) (w : List ℕ) (ws : List (List ℕ)) → Unspaced w → AllByRecursion Unspaced ws → line_cue begun (spaced (w ∷ ws)) ≡ form (length (spaced (w ∷ ws))) begun (placed 0 (w ∷ ws))
line_form begun w ws u us = ap (λ (l : List (List ℕ)). form (length (spaced (w ∷ ws))) begun (placed 0 l)) (words_spaced w ws u us)

-- a call's line, once its letter is seen to ask for the numbers that it has
call_line : (begun : Bool) (s c : ℕ) (ns : List ℕ) (f : List ℕ → Cue) → s ≤ 1000000 → AllByRecursion (λ n. n ≤ 9999999) ns → eqb c 32 ≡ false
    → ((end at : ℕ) (ws : List Placed) → after_slot end s (record { place = at; bytes = c ∷ [] } ∷ ws) ≡ made_cue f (numbers (length ns) end ws))
    → line_cue begun (spaced (decimal s ∷ (c ∷ []) ∷ map decimal ns)) ≡ Ok (f ns)
call_line begun s c ns f b a u asks =
    let end = length (spaced (decimal s ∷ (c ∷ []) ∷ map decimal ns)) in
    let at = 0 + length (decimal s) + 1 in
    line_form begun (decimal s) ((c ∷ []) ∷ map decimal ns) (lacks_decimal s (omega arith) 32 (lit< tt)) ((u, tt), lacks_all 32 (lit< tt) ns a)
    ∙ ap (λ (w : Word). cue_form end begun w 0 (placed at ((c ∷ []) ∷ map decimal ns))) (word_decimal s (omega arith))
    ∙ cond-true _ _ _ (le-leb s 1000000 b) ∙ asks end at (placed (at + 1 + 1) (map decimal ns))
    ∙ ap (made_cue f) (numbers_decimal ns end (at + 1 + 1) a)

pub reads_back : (cue : Cue) (begun : Bool) → Writable begun cue → line_cue begun (cue_line cue) ≡ Ok cue
reads_back (Plan block count) begun h =
    ap (λ (b : Bool). line_cue b (cue_line (Plan block count))) h.0
    ∙ line_form false (112 ∷ []) (map decimal (block ∷ count ∷ [])) (refl, tt) (lacks_all 32 (lit< tt) (block ∷ count ∷ []) h.1)
    ∙ ap (made_cue plan) (numbers_decimal (block ∷ count ∷ []) (length (cue_line (Plan block count))) 2 h.1)
reads_back (At slot (Order head first count start period depth spare)) begun h = call_line begun slot 111 (head ∷ first ∷ count ∷ start ∷ period ∷ depth ∷ spare ∷ []) (order slot) h.0 h.1 refl (λ end at ws. refl)
reads_back (At slot (Take head block party)) begun h = call_line begun slot 116 (head ∷ block ∷ party ∷ []) (take_block slot) h.0 h.1 refl (λ end at ws. refl)
reads_back (At slot (Give party lease)) begun h = call_line begun slot 103 (party ∷ lease ∷ []) (give slot) h.0 h.1 refl (λ end at ws. refl)
reads_back (At slot (Close head)) begun h = call_line begun slot 99 (head ∷ []) (close slot) h.0 h.1 refl (λ end at ws. refl)

lacks_append : (m : ℕ) (xs ys : List ℕ) → Lacks m xs → Lacks m ys → Lacks m (xs ++ ys)
lacks_append m [] ys a b = b
lacks_append m (x ∷ xs) ys a b = (a.0, lacks_append m xs ys a.1 b)

lacks_spaced : (ws : List (List ℕ)) → AllByRecursion (Lacks 10) ws → Lacks 10 (spaced ws)
lacks_spaced [] a = tt
lacks_spaced (w ∷ []) a = a.0
lacks_spaced (w ∷ v ∷ ws) a = lacks_append 10 w (32 ∷ spaced (v ∷ ws)) a.0 (refl, lacks_spaced (v ∷ ws) a.1)

lacks_letter : (call : Call) → Lacks 10 (call_letter call ∷ [])
lacks_letter (Order head first count start period depth spare) = (refl, tt)
lacks_letter (Take head block party) = (refl, tt)
lacks_letter (Give party lease) = (refl, tt)
lacks_letter (Close head) = (refl, tt)

-- the line of a cue has no byte 10
pub lacks_line : (cue : Cue) (begun : Bool) → Writable begun cue → Lacks 10 (cue_line cue)
lacks_line (Plan block count) begun h = lacks_spaced (cue_words (Plan block count)) ((refl, tt), lacks_all 10 (lit< tt) (block ∷ count ∷ []) h.1)
lacks_line (At slot call) begun h =
    lacks_spaced (cue_words (At slot call)) (lacks_decimal slot (omega arith) 10 (lit< tt), (lacks_letter call, lacks_all 10 (lit< tt) (call_numbers call) h.1))
