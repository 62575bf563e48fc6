-- The digits of a number, the last one apart; numbers after spaces, one more at the end.
use Rattle.std.proofs.Common.{◌≡◌, ℕ, ◌+◌, ◌/◌, ◌%◌, ◌^◌, ◌<◌, ◌≤◌, List, [], ◌∷◌, ◌++◌, length, get_or, take, decimal, sym, refl, ap, ◌∙◌, append_assoc, append-nil, arith, lit<}
use Rattle.std.proofs.lemmas.Fmt.{decimal_digit, decimal_step, length-decimal-le}
use Rattle.std.proofs.lemmas.List.{length_push, take_more}
use Rattle.loglines.specs.Text.{spaced}

pub length_digit : (n : ℕ) → n < 10 → length (decimal n) ≡ 1
length_digit n h = ap length (decimal_digit n h)

pub length_step : (n : ℕ) → 10 ≤ n → n < 2 ^ 64 → length (decimal n) ≡ length (decimal (n / 10)) + 1
length_step n h f = ap length (decimal_step n h f) ∙ length_push (decimal (n / 10)) (48 + n % 10)

pub length_u32 : (n : ℕ) → n < 2 ^ 32 → length (decimal n) ≤ 10
length_u32 n h = length-decimal-le 10 n (lit< tt) (omega arith) (omega arith)

pub length_u64 : (n : ℕ) → n < 2 ^ 64 → length (decimal n) ≤ 20
length_u64 n h = length-decimal-le 20 n (lit< tt) (omega arith) h

pub length_u8 : (n : ℕ) → n < 2 ^ 8 → length (decimal n) ≤ 3
length_u8 n h = length-decimal-le 3 n (lit< tt) (omega arith) (omega arith)

pub spaced_append : (xs ys : List ℕ) → spaced (xs ++ ys) ≡ spaced xs ++ spaced ys
spaced_append [] ys = refl
spaced_append (x ∷ xs) ys = ap (λ (l : List ℕ). 32 ∷ (decimal x ++ l)) (spaced_append xs ys) ∙ ap (λ (l : List ℕ). 32 ∷ l) (sym (append_assoc (decimal x) (spaced xs) (spaced ys)))

pub spaced_more : (ns : List ℕ) (i : ℕ) → i < length ns → spaced (take (i + 1) ns) ≡ (spaced (take i ns) ++ 32 ∷ []) ++ decimal (get_or ns i 0)
spaced_more ns i h =
    ap spaced (take_more ns i 0 h) ∙ spaced_append (take i ns) (get_or ns i 0 ∷ [])
    ∙ ap (λ (l : List ℕ). spaced (take i ns) ++ 32 ∷ l) (append-nil (decimal (get_or ns i 0)))
    ∙ sym (append_assoc (spaced (take i ns)) (32 ∷ []) (decimal (get_or ns i 0)))
