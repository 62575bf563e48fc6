-- What chunks give, one by one.
use Rattle.std.proofs.Common.{◌≡◌, ℕ, ◌<◌, ◌≤◌, min, List, ◌++◌, length, take, drop, sym, ap, ◌∙◌, ⊎_elim, arith, append-nil, length-append}
use Rattle.std.proofs.lemmas.List.{nil_from_length, take_at, take_all, drop_at, drop_all}
use Rattle.std.proofs.lemmas.Bool.{cases_lt}

-- a part of n at the front, or all that is left where that is less
pub front_part : (n : ℕ) (rest part left : List ℕ) → rest ≡ part ++ left → length part ≡ min n (length rest) → (take n rest ≡ part) × (drop n rest ≡ left)
front_part n rest part left e h =
    let l = ap length e ∙ length-append part left in
    ⊎_elim
    (λ (lt : length rest < n).
    let none = nil_from_length left (omega arith) in
    let whole = e ∙ ap (λ r. part ++ r) none ∙ append-nil part in
    (take_all n rest (omega arith) ∙ whole, drop_all n rest (omega arith) ∙ sym none))
    (λ (le : n ≤ length rest). (ap (take n) e ∙ take_at part left n (omega arith), ap (drop n) e ∙ drop_at part left n (omega arith)))
    (cases_lt (length rest) n)
