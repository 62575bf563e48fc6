-- An assignment leaves no span overfull: the pigeonhole.

use Rattle.std.proofs.Common.{◌≡◌, ℕ, zero, suc, ◌+◌, ◌-◌, ◌≤◌, List, [], ◌∷◌, map, refl, inl, inr, arith}
use Rattle.std.proofs.ByRecursion.{All-from_get_or}
use Rattle.std.proofs.lemmas.Bool.{cases_eq}
use Rattle.windows.specs.Windows.{Window, count, Assigned, NoneOverfull}
use Rattle.windows.proofs.Counts.{count_none}

-- the window of one slot, so that a span's slots of a list are counted as its windows are
abbrev unit : ℕ → Window
unit s = record { start = s; end = suc s }

abbrev units : List ℕ → List Window
units ss = map unit ss

-- a window in the span has its slot there
in_span : (l h : ℕ) (ws : List Window) (ss : List ℕ) → Assigned ws ss → count l h ws ≤ count l h (units ss)
in_span l h [] [] a = omega arith
in_span l h [] (s ∷ ss) a = absurd a
in_span l h (w ∷ ws) [] a = absurd a
in_span l h (w ∷ ws) (s ∷ ss) a =
    grind (arith, in_span l h ws ss a.3)

-- a span and the slot behind it
longer : (l m : ℕ) (ss : List ℕ) → count l (suc m) (units ss) ≤ count l m (units ss) + count m (suc m) (units ss)
longer l m [] = omega arith
longer l m (s ∷ ss) =
    grind (arith, longer l m ss)

once : (m : ℕ) (ws : List Window) (ss : List ℕ) → Assigned ws ss → count m (suc m) (units ss) ≤ 1
once m [] [] a = omega arith
once m [] (s ∷ ss) a = absurd a
once m (w ∷ ws) [] a = absurd a
once m (w ∷ ws) (s ∷ ss) a = elim (cases_eq s m) [
  | inl e ↦ grind (arith, count_none (λ r. s ≡ r → ⊥) unit m (suc m) (λ r n. grind arith) ss a.2)
  | inr e ↦ grind (arith, once m ws ss a.3)
]

few : (l n : ℕ) (ws : List Window) (ss : List ℕ) → Assigned ws ss → (h : ℕ) → h ≡ l + n → count l h (units ss) ≤ n
few l zero ws ss a h e =
    omega (arith, count_none (λ _. Unit {0}) unit l h (λ s _. grind arith) ss (All-from_get_or _ ss 0 (λ i _. tt)))
few l (suc n) ws ss a h e =
    let e' : h ≡ suc (l + n) = omega arith in
    rw e' (omega (arith, longer l (l + n) ss, once (l + n) ws ss a, few l n ws ss a (l + n) refl))

pub pigeonhole : (ws : List Window) (ss : List ℕ) → Assigned ws ss → NoneOverfull ws
pigeonhole ws ss a h o = omega (arith, in_span o.0 h ws ss a, few o.0 (h - o.0) ws ss a h (omega arith))
