-- How many windows lie in a span: what holds window by window holds of the counts.

use Rattle.std.proofs.Common.{◌≡◌, ℕ, ◌+◌, ◌<◌, ◌≤◌, ◌⊎◌, List, [], ◌∷◌, map, refl, inl, inr, arith}
use Rattle.std.specs.List.{AllByRecursion}
use Rattle.std.proofs.lemmas.Bool.{cases_lt}
use Rattle.windows.specs.Windows.{Window, within, count, Pick, here, there}

-- f and g make windows of the elements, of which Q holds
module _ {X : Type 0} (Q : X → Type 0) (f g : X → Window) (l h l' h' : ℕ) where
  pub count_le : ((x : X) → Q x → within l h (f x) ≤ within l' h' (g x)) → (xs : List X) → AllByRecursion Q xs → count l h (map f xs) ≤ count l' h' (map g xs)
  count_le each [] q = omega arith
  count_le each (x ∷ xs) q = omega (arith, each x q.0, count_le each xs q.1)

pub count_none : {X : Type 0} (Q : X → Type 0) (f : X → Window) (l h : ℕ) → ((x : X) → Q x → within l h (f x) ≡ 0) → (xs : List X) → AllByRecursion Q xs → count l h (map f xs) ≡ 0
count_none Q f l h each [] q = omega arith
count_none Q f l h each (x ∷ xs) q = omega (arith, each x q.0, count_none Q f l h each xs q.1)

pub count_pick : (f : Window → Window) (l h : ℕ) {c : Window} {ws rest : List Window} → Pick c ws rest
    → count l h (map f ws) ≡ within l h (f c) + count l h (map f rest)
count_pick f l h here = refl
count_pick f l h (there p) = omega (arith, count_pick f l h p)

-- two bounds hold, or one of them fails
pub bounds : (a b x y : ℕ) → ((a ≤ b) × (x ≤ y)) ⊎ ((b < a) ⊎ (y < x))
bounds a b x y = elim (cases_lt b a) [ inl p ↦ inr (inl p) | inr p ↦ elim (cases_lt y x) [ inl q ↦ inr (inr q) | inr q ↦ inl (p, q) ] ]
