-- The line of a log reads as what it tells.
use Rattle.std.proofs.Common.{◌≡◌, ℕ, ◌+◌, ◌^◌, ◌<◌, ◌≤◌, Bool, true, false, cond, ◌&&◌, ◌||◌, eqb, ltb, leb, ◌⊎◌, List, [], ◌∷◌, ◌++◌, map, length, get_or, set, Ok, Err, codes, decimal, Result, sym, refl, ap, ◌∙◌, subst, inl, inr, ⊎_elim, append_assoc, append-nil, arith, lit<}
use Rattle.std.specs.List.{AllByRecursion}
use Rattle.std.specs.Char.{is_ascii_digit}
use Rattle.std.specs.Str.{all_ascii_digits}
use Rattle.std.proofs.lemmas.Fmt.{digits_decimal, decimal_nonempty}
use Rattle.std.proofs.lemmas.Bool.{cond-true, cond-false, and_parts, and_from, eq-eqb, ne_eqb, le-leb, lt-ltb}
use Rattle.cues.specs.Words.{Word, words}
use Rattle.cues.specs.Forms.{Placed, placed}
use Rattle.cues.specs.Reading.{words_from}
use Rattle.cues.proofs.RoundTrip.{Unspaced, cut_lacking, words_one, lacks_decimal, word_decimal}
use Rattle.cues.proofs.Words.{own, digit_range}
use Rattle.refusal.specs.Told.{kind_number, refusal_number, refusal_values, told, answer_number}
use Rattle.refusal.specs.declared.FaultKind.TheVariants.{ReadFailed, Beyond}
use Rattle.refusal.specs.declared.Refusal.{Refusal}
use Rattle.refusal.specs.declared.Refusal.TheVariants.{Bounds, HeadTaken, Past, OffDisk, PoolShort, Crowded, WrongSize, LastSlot, NotThere, LeasesOut, NotHeld, HeadEmpty, Faulted, BadImage, BadEntry, BadCue, Full, ShortOutput}
use Rattle.refusal.proofs.Numbers.{refusal_above}
use Rattle.loglines.specs.Text.{spaced, opening, order_told, take_told}
use Rattle.loglines.specs.declared.LogLine.TheVariants as line
use Rattle.charts.specs.Back.{WrittenLinesReadBack}
use Rattle.charts.specs.Entries.{wanted, entry_from, zeros, then_number, filled, made_entry, numbered, second_word, after_number, first_word, entry_form, begins_done, line_entry}
use Rattle.charts.specs.declared.entry.Kind.{Kind}
use Rattle.charts.specs.declared.entry.Kind.TheVariants as kind

abbrev Small : List ℕ → Type 0
Small ns = AllByRecursion (λ n. n ≤ 9999999) ns

-- a word and numbers after it
words_joined : (w : List ℕ) (ns : List ℕ) → Unspaced w → Small ns → words (w ++ spaced ns) ≡ w ∷ map decimal ns
words_joined w [] u a = ap words (append-nil w) ∙ words_one w u
words_joined w (n ∷ ns) u a =
    cut_lacking 32 ([] ∷ []) w (decimal n ++ spaced ns) u ∙ ap (λ (l : List (List ℕ)). w ∷ l) (words_joined (decimal n) ns (lacks_decimal n a.0 32 (lit< tt)) a.1)

-- the kind k wants just the numbers ms, after the i that are in ns
abbrev Wants : Kind → ℕ → List ℕ → List ℕ → Type 0
Wants k i ns [] = ltb i (wanted k ns) ≡ false
Wants k i ns (m ∷ ms) = (ltb i (wanted k ns) ≡ true) × Wants k (i + 1) (set ns i m) ms

abbrev put : ℕ → List ℕ → List ℕ → List ℕ
put i ns [] = ns
put i ns (m ∷ ms) = put (i + 1) (set ns i m) ms

filled_all : (k : Kind) (i end at : ℕ) (ns ms : List ℕ) → Small ms → Wants k i ns ms → filled k i ns end (placed at (map decimal ms)) ≡ Ok (put i ns ms)
filled_all k i end at ns [] a h = cond-false _ _ _ h
filled_all k i end at ns (m ∷ ms) a h =
    let rest = placed (at + length (decimal m) + 1) (map decimal ms) in
    cond-true _ _ _ h.0 ∙ ap (λ (w : Word). then_number w at (λ n. filled k (i + 1) (set ns i n) end rest)) (word_decimal m a.0)
    ∙ filled_all k (i + 1) end (at + length (decimal m) + 1) (set ns i m) ms a.1 h.1

numbered_all : (k : Kind) (s end at : ℕ) (ms : List ℕ) → Small ms → Wants k 0 zeros ms → numbered k s end (placed at (map decimal ms)) ≡ Ok (entry_from k s (put 0 zeros ms))
numbered_all k s end at ms a h = ap (made_entry k s) (filled_all k 0 end at zeros ms a h)

second_false : (t b r : Bool) → b ≡ false → (t && (b && r)) ≡ false
second_false true b r e = ap (λ (x : Bool). x && r) e
second_false false b r e = refl

-- a line that begins with a digit does not begin with `done`
no_done : (w rest : List ℕ) → 0 < length w → all_ascii_digits w ≡ true → begins_done (w ++ rest) ≡ false
no_done [] rest some d = absurd (omega arith)
no_done (c ∷ cs) rest some d =
    let range = digit_range c (and_parts (is_ascii_digit c) (all_ascii_digits cs) d).0 in
    second_false (leb 4 (length ((c ∷ cs) ++ rest))) (eqb c 100) _ (ne_eqb c 100 (λ e. omega arith))

-- a line whose first word is a number
numbered_line : (s : ℕ) (rest : List ℕ) (ws : List (List ℕ)) → s ≤ 9999999 → words (decimal s ++ rest) ≡ decimal s ∷ ws
    → line_entry (decimal s ++ rest) ≡ after_number s (length (decimal s ++ rest)) (placed (0 + length (decimal s) + 1) ws)
numbered_line s rest ws small split =
    let end = length (decimal s ++ rest) in
    let below : s < 2 ^ 64 = omega arith in
    cond-false _ _ _ (no_done (decimal s) rest (decimal_nonempty s below) (digits_decimal own s below))
    ∙ ap (λ (l : List (List ℕ)). entry_form end (placed 0 l)) split
    ∙ ap (λ (w : Word). first_word w end 0 (placed (0 + length (decimal s) + 1) ws)) (word_decimal s small)

-- a line with a slot and a letter, once the letter is seen to stand for the kind k
lettered_line : (s c : ℕ) (k : Kind) (ns : List ℕ) → s ≤ 9999999 → Small ns → eqb c 32 ≡ false
    → ((end at : ℕ) (ws : List Placed) → after_number s end (record { place = at; bytes = c ∷ [] } ∷ ws) ≡ numbered k s end ws) → Wants k 0 zeros ns
    → line_entry (opening s c ++ spaced ns) ≡ Ok (entry_from k s (put 0 zeros ns))
lettered_line s c k ns small a u asks h =
    let rest = 32 ∷ c ∷ spaced ns in
    let end = length (decimal s ++ rest) in
    let at = 0 + length (decimal s) + 1 in
    let split = cut_lacking 32 ([] ∷ []) (decimal s) (c ∷ spaced ns) (lacks_decimal s small 32 (lit< tt)) ∙ ap (λ (l : List (List ℕ)). decimal s ∷ l) (words_joined (c ∷ []) ns (u, tt) a) in
    ap line_entry (append_assoc (decimal s) (32 ∷ c ∷ []) (spaced ns)) ∙ numbered_line s rest ((c ∷ []) ∷ map decimal ns) small split ∙ asks end at (placed (at + 1 + 1) (map decimal ns))
    ∙ numbered_all k s end (at + 1 + 1) ns a h

-- a line that tells why a job did not run
refused_line : (n l p : ℕ) → n ≤ 9999999 → Small (l ∷ p ∷ []) → line_entry (decimal n ++ spaced (l ∷ p ∷ [])) ≡ Ok (entry_from kind.Refused n (put 0 zeros (l ∷ p ∷ [])))
refused_line n l p small a =
    let rest = spaced (l ∷ p ∷ []) in
    let end = length (decimal n ++ rest) in
    let at = 0 + length (decimal n) + 1 in
    numbered_line n rest (map decimal (l ∷ p ∷ [])) small (words_joined (decimal n) (l ∷ p ∷ []) (lacks_decimal n small 32 (lit< tt)) a)
    ∙ ap (λ (w : Word). second_word w n end (record { place = at; bytes = decimal l }) (placed (at + length (decimal l) + 1) (map decimal (p ∷ [])))) (word_decimal l a.0)
    ∙ numbered_all kind.Refused n end at (l ∷ p ∷ []) a (refl, (refl, refl))

or_true : (a b : Bool) → b ≡ true → (a || b) ≡ true
or_true true b e = refl
or_true false b e = e

-- the last line
done_line : (n : ℕ) (ms : List ℕ) → Small (n ∷ ms) → Wants kind.Done 0 zeros (n ∷ ms) → line_entry (codes "done" ++ spaced (n ∷ ms)) ≡ Ok (entry_from kind.Done 0 (put 0 zeros (n ∷ ms)))
done_line n ms a h =
    let l = codes "done" ++ spaced (n ∷ ms) in
    let end = length l in
    let long : 4 < length l = omega arith in
    let is : begins_done l ≡ true = and_from (leb 4 (length l)) (eqb (length l) 4 || true) (le-leb 4 (length l) (omega arith)) (or_true (eqb (length l) 4) true refl) in
    cond-true _ _ _ is ∙ ap (λ o. numbered kind.Done 0 end (words_from l o)) (cond-true _ _ _ (lt-ltb 4 (length l) long))
    ∙ ap (λ (ws : List (List ℕ)). numbered kind.Done 0 end (placed 5 ws)) (words_joined (decimal n) ms (lacks_decimal n a.0 32 (lit< tt)) a.1)
    ∙ numbered_all kind.Done 0 end 5 (n ∷ ms) a h

-- only a crowded order has the number 6, and then its span
crowded_or_not : (e : Refusal) → (eqb (refusal_number e) 6 ≡ false) ⊎ ((l : ℕ) × ((h : ℕ) × (told e ≡ 6 ∷ l ∷ h ∷ [])))
crowded_or_not (Crowded s) = inr (s.l, (s.h, refl))
crowded_or_not Bounds = inl refl
crowded_or_not HeadTaken = inl refl
crowded_or_not Past = inl refl
crowded_or_not OffDisk = inl refl
crowded_or_not PoolShort = inl refl
crowded_or_not WrongSize = inl refl
crowded_or_not LastSlot = inl refl
crowded_or_not NotThere = inl refl
crowded_or_not LeasesOut = inl refl
crowded_or_not NotHeld = inl refl
crowded_or_not HeadEmpty = inl refl
crowded_or_not (Faulted f) = elim f.kind as (λ k. (eqb (kind_number k) 6 ≡ false) ⊎ ((l : ℕ) × ((h : ℕ) × (kind_number k ∷ refusal_values (Faulted f) ≡ 6 ∷ l ∷ h ∷ [])))) [ ReadFailed ↦ inl refl | Beyond ↦ inl refl ]
crowded_or_not BadImage = inl refl
crowded_or_not BadEntry = inl refl
crowded_or_not (BadCue p) = inl refl
crowded_or_not Full = inl refl
crowded_or_not ShortOutput = inl refl

-- an order's line, by what is told of its answer
abbrev Ordered : ℕ → ℕ → List ℕ → Type 0
Ordered slot head ts = Small (slot ∷ head ∷ ts) → line_entry (opening slot 111 ++ spaced (head ∷ ts)) ≡ Ok (entry_from kind.Order slot (head ∷ get_or ts 0 0 ∷ get_or ts 1 0 ∷ get_or ts 2 0 ∷ 0 ∷ []))

plain_order : (slot head n : ℕ) → eqb n 6 ≡ false → Ordered slot head (n ∷ [])
plain_order slot head n e a = lettered_line slot 111 kind.Order (head ∷ n ∷ []) a.0 a.1 refl (λ end at ws. refl) (refl, (refl, ap (λ (b : Bool). ltb 2 (cond b 4 2)) e))

crowded_order : (slot head l h : ℕ) → Ordered slot head (6 ∷ l ∷ h ∷ [])
crowded_order slot head l h a = lettered_line slot 111 kind.Order (head ∷ 6 ∷ l ∷ h ∷ []) a.0 a.1 refl (λ end at ws. refl) (refl, (refl, (refl, (refl, refl))))

order_line : (slot head : ℕ) (answer : Result (Unit {0}) Refusal) → Ordered slot head (order_told answer)
order_line slot head (Ok x) = plain_order slot head 0 refl
order_line slot head (Err e) =
    ⊎_elim
    (λ (no : eqb (refusal_number e) 6 ≡ false). subst (Ordered slot head) (sym (cond-false _ _ _ no)) (plain_order slot head (refusal_number e) no))
    (λ (span : (l : ℕ) × ((h : ℕ) × (told e ≡ 6 ∷ l ∷ h ∷ []))).
    let six : refusal_number e ≡ 6 = ap (λ (ts : List ℕ). get_or ts 0 0) span.1.1 in
    subst (Ordered slot head) (sym (cond-true _ _ _ (eq-eqb (refusal_number e) 6 six) ∙ span.1.1)) (crowded_order slot head span.0 span.1.0))
    (crowded_or_not e)

abbrev Taken : ℕ → ℕ → ℕ → ℕ → List ℕ → Type 0
Taken slot head block party ts =
    Small (slot ∷ head ∷ block ∷ party ∷ ts) → line_entry (opening slot 116 ++ spaced (head ∷ block ∷ party ∷ ts)) ≡ Ok (entry_from kind.Take slot (head ∷ block ∷ party ∷ get_or ts 0 0 ∷ get_or ts 1 0 ∷ []))

take_line : (slot head block party : ℕ) (answer : Result ℕ Refusal) → Taken slot head block party (take_told answer)
take_line slot head block party (Ok lease) a =
    lettered_line slot 116 kind.Take (head ∷ block ∷ party ∷ 0 ∷ lease ∷ []) a.0 a.1 refl (λ end at ws. refl) (refl, (refl, (refl, (refl, (refl, refl)))))
take_line slot head block party (Err e) a =
    let some = ne_eqb (refusal_number e) 0 (refusal_above e) in
    lettered_line slot 116 kind.Take (head ∷ block ∷ party ∷ refusal_number e ∷ []) a.0 a.1 refl (λ end at ws. refl) (refl, (refl, (refl, (refl, ap (λ (b : Bool). ltb 4 (cond b 5 4)) some))))

pub written_lines_read_back : WrittenLinesReadBack
written_lines_read_back (line.Order slot head answer) a = order_line slot head answer a
written_lines_read_back (line.Take slot head block party answer) a = take_line slot head block party answer a
written_lines_read_back (line.Give slot party lease answer) a = lettered_line slot 103 kind.Give (party ∷ lease ∷ answer_number answer ∷ []) a.0 a.1 refl (λ end at ws. refl) (refl, (refl, (refl, refl)))
written_lines_read_back (line.Close slot head answer) a = lettered_line slot 99 kind.Close (head ∷ answer_number answer ∷ []) a.0 a.1 refl (λ end at ws. refl) (refl, (refl, refl))
written_lines_read_back (line.Read slot head block) a = lettered_line slot 114 kind.Read (head ∷ block ∷ []) a.0 a.1 refl (λ end at ws. refl) (refl, (refl, refl))
written_lines_read_back (line.Failed slot head block attempt) a = lettered_line slot 102 kind.Failed (head ∷ block ∷ attempt ∷ []) a.0 a.1 refl (λ end at ws. refl) (refl, (refl, (refl, refl)))
written_lines_read_back (line.Ended slot head cause) a = lettered_line slot 101 kind.Ended (head ∷ cause ∷ []) a.0 a.1 refl (λ end at ws. refl) (refl, (refl, refl))
written_lines_read_back (line.Done slot attempts failed) a = done_line slot (attempts ∷ failed ∷ []) a (refl, (refl, (refl, refl)))
written_lines_read_back (line.BadList n ln place) a = refused_line n ln place a.0 a.1
