-- The order by keys is one in which any two items compare, and only equal items tie where the keys tell items apart.
use Rattle.std.specs.Prelude.{◌≡◌, ℕ, true, false, List, [], ◌∷◌, refl}
use Rattle.std.proofs.Common.{arith}
use Rattle.std.specs.Cmp.{IsStrictWeakOrder}
use Rattle.std.proofs.lemmas.Bool.{false≢true, true≢false}
use Rattle.std.proofs.lemmas.Bool.Decides.{nat_tests}
use Rattle.queue.specs.Order.{Untied}
use Rattle.queue.specs.Keys.{lex, by_keys}

lex_one_way : (xs ys : List ℕ) → lex xs ys ≡ true → lex ys xs ≡ false
lex_one_way [] [] h = refl
lex_one_way [] (y ∷ ys) h = refl
lex_one_way (x ∷ xs) [] h = absurd (false≢true h)
lex_one_way (x ∷ xs) (y ∷ ys) h = let rest = lex_one_way xs ys in grind (arith, nat_tests)

lex_chain : (xs ys zs : List ℕ) → lex xs ys ≡ false → lex ys zs ≡ false → lex xs zs ≡ false
lex_chain [] [] zs h k = k
lex_chain [] (y ∷ ys) zs h k = absurd (true≢false h)
lex_chain (x ∷ xs) [] [] h k = refl
lex_chain (x ∷ xs) [] (z ∷ zs) h k = absurd (true≢false k)
lex_chain (x ∷ xs) (y ∷ ys) [] h k = refl
lex_chain (x ∷ xs) (y ∷ ys) (z ∷ zs) h k = let rest = lex_chain xs ys zs in grind (arith, nat_tests)

lex_tied : (xs ys : List ℕ) → lex xs ys ≡ false → lex ys xs ≡ false → xs ≡ ys
lex_tied [] [] h k = refl
lex_tied [] (y ∷ ys) h k = absurd (true≢false h)
lex_tied (x ∷ xs) [] h k = absurd (true≢false k)
lex_tied (x ∷ xs) (y ∷ ys) h k = let rest = lex_tied xs ys in grind (arith, nat_tests)

module _ {X : Type 0} (keys : X → List ℕ) where
  pub ranks_by_keys : IsStrictWeakOrder (by_keys keys)
  ranks_by_keys = record { one_way = λ x y. lex_one_way (keys x) (keys y); chain = λ x y z. lex_chain (keys x) (keys y) (keys z) }

  pub untied_by_keys : ((x y : X) → keys x ≡ keys y → x ≡ y) → Untied (by_keys keys)
  untied_by_keys apart x y h k = apart x y (lex_tied (keys x) (keys y) h k)
