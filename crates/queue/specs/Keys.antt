-- Items in the order of some numbers of theirs, the most telling first, as the fields of a struct.
--     by_keys keys x y    the first number in which x and y differ is the smaller one in x
use Rattle.std.specs.Prelude.{ℕ, Bool, true, false, cond, List, [], ◌∷◌, ◌==◌, nat_lt}

-- where one list ends, it comes first
abbrev pub lex : List ℕ → List ℕ → Bool
lex [] [] = false
lex [] (y ∷ ys) = true
lex (x ∷ xs) [] = false
lex (x ∷ xs) (y ∷ ys) = cond (x == y) (lex xs ys) (nat_lt x y)

abbrev pub by_keys : {X : Type 0} → (X → List ℕ) → X → X → Bool
by_keys keys x y = lex (keys x) (keys y)
