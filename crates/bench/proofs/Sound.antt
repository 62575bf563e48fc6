-- What the tests on lanes and leases say of each, and how a change of one keeps them.
use Rattle.std.proofs.Common.{◌≡◌, ℕ, zero, suc, ◌+◌, ◌<◌, ◌≤◌, Bool, true, false, cond, not, ◌||◌, leb, List, [], ◌∷◌, length, get_or, take, drop, set, is_some, Some, None, Option, sym, refl, ap, ◌∙◌, subst, add-one, arith}
use Rattle.std.proofs.lemmas.List.{at_drop_more, at_drop_all}
use Rattle.std.proofs.lemmas.Bool.Decides.{nat_tests}
use Rattle.std.proofs.lemmas.Bool.{ltb-true, and_from, and_parts}
use Rattle.std.specs.List.{list_any}
use Rattle.history.specs.Bench.{any, some_and, is_live}
use Rattle.history.specs.Calls.{vacant, there}
use Rattle.history.specs.declared.Lane.{Lane}
use Rattle.history.specs.declared.Lease.{Lease}
use Rattle.bench.specs.Sound.{every, all_below, order_ok, live_ok, lane_ok}

module _ {A : Type 0} (p : A → Bool) where
  -- p of the one at place h
  pub every_at : (os : List (Option A)) (h : ℕ) (a : A) → every p os ≡ true → get_or os h None ≡ Some a → p a ≡ true
  every_at [] h a e g = grind arith
  every_at (None ∷ os) zero a e g = grind arith
  every_at (None ∷ os) (suc h) a e g = every_at os h a e g
  every_at (Some b ∷ os) zero a e g = grind (arith, nat_tests)
  every_at (Some b ∷ os) (suc h) a e g = every_at os h a (grind (arith, nat_tests)) g

  pub every_set_none : (os : List (Option A)) (h : ℕ) → every p os ≡ true → every p (set os h None) ≡ true
  every_set_none [] h e = refl
  every_set_none (None ∷ os) zero e = e
  every_set_none (None ∷ os) (suc h) e = every_set_none os h e
  every_set_none (Some b ∷ os) zero e = grind (arith, nat_tests)
  every_set_none (Some b ∷ os) (suc h) e = let r = every_set_none os h (grind (arith, nat_tests)) in grind (arith, nat_tests)

  pub every_set_some : (os : List (Option A)) (h : ℕ) (a : A) → every p os ≡ true → p a ≡ true → every p (set os h (Some a)) ≡ true
  every_set_some [] h a e q = refl
  every_set_some (None ∷ os) zero a e q = grind (arith, nat_tests)
  every_set_some (None ∷ os) (suc h) a e q = every_set_some os h a e q
  every_set_some (Some b ∷ os) zero a e q = grind (arith, nat_tests)
  every_set_some (Some b ∷ os) (suc h) a e q = let r = every_set_some os h a (grind (arith, nat_tests)) q in grind (arith, nat_tests)

  -- std's test of any, of what may be there
  pub any_is : (os : List (Option A)) → list_any (some_and p) os ≡ any p os
  any_is [] = refl
  any_is (o ∷ os) = ap (λ b. some_and p o || b) (any_is os)

  -- p of each place's
  pub every_from : (os : List (Option A)) → ((k : ℕ) (a : A) → get_or os k None ≡ Some a → p a ≡ true) → every p os ≡ true
  every_from [] q = refl
  every_from (None ∷ os) q = every_from os (λ k a e. q (suc k) a e)
  every_from (Some b ∷ os) q = and_from _ _ (q 0 b refl) (every_from os (λ k a e. q (suc k) a e))

vacant_by : (o : Option Lease) (es : List (Option Lease)) → vacant (o ∷ es) ≡ cond (is_some o) (suc (vacant es)) 0
vacant_by None es = refl
vacant_by (Some e) es = refl

-- the lowest free number, one place on and at the end
pub vacant_more : (es : List (Option Lease)) (m : ℕ) → m < length es → vacant (drop m es) ≡ cond (is_some (get_or es m None)) (suc (vacant (drop (m + 1) es))) 0
vacant_more es m h = at_drop_more vacant es m None h ∙ vacant_by (get_or es m None) (drop (m + 1) es)

pub vacant_end : (es : List (Option Lease)) (m : ℕ) → length es ≤ m → vacant (drop m es) ≡ 0
vacant_end es m h = at_drop_all vacant es m h

or_not : (a b : Bool) → not a || b ≡ true → a ≡ true → b ≡ true
or_not true b e t = e
or_not false b e t = grind arith

-- what is kept of a live lane
pub live_kept : (l : Lane) → lane_ok l ≡ true → is_live l.stage ≡ true → live_ok l ≡ true
live_kept l k v = or_not (is_live l.stage) (live_ok l) (and_parts (leb l.failed 16) _ (and_parts (leb l.next 4096) _ k).1).1 v

pub there_live : (t : ℕ) (l : Lane) (i : ℕ) → there t l i ≡ true → is_live l.stage ≡ true
there_live t l i e = (and_parts _ _ e).0

below_at : (n : ℕ) (xs : List ℕ) (j : ℕ) → 0 < n → all_below n xs ≡ true → get_or xs j 0 < n
below_at n [] j z e = z
below_at n (x ∷ xs) zero z e = ltb-true x n (and_parts _ _ e).0
below_at n (x ∷ xs) (suc j) z e = below_at n xs j z (and_parts _ _ e).1

-- every buffer of a live lane is one of the pool's
pub buffer_below : (l : Lane) (j : ℕ) → live_ok l ≡ true → get_or l.buffers j 0 < 32
buffer_below l j k =
    let admitted = (and_parts (order_ok l.order) _ k).1 in
    let next = (and_parts (leb l.admitted l.order.timing.start) _ admitted).1 in
    let failed = (and_parts (leb l.next l.order.timing.count) _ next).1 in
    below_at 32 l.buffers j (omega arith) (and_parts (leb l.failed l.order.timing.spare) _ failed).1

-- P of what is there among the first places, one place on, where o is
one_next : {A : Type 0} (P : A → Type 0) (os : List (Option A)) (i : ℕ) (o : Option A) → i < length os → o ≡ get_or os i o → ((k : ℕ) (a : A) → get_or (take i os) k None ≡ Some a → P a) → ((a : A) → o ≡ Some a → P a)
    → (k : ℕ) (a : A) → get_or (take (suc i) os) k None ≡ Some a → P a
one_next P [] i o lt is f g k a e = absurd (omega arith)
one_next P (x ∷ os) zero o lt is f g zero a e = g a (is ∙ e)
one_next P (x ∷ os) zero o lt is f g (suc k) a e = absurd (none_some a e)
  where
    none_some : {A : Type 0} (a : A) → None ≡ Some a → ⊥
    none_some a e = cc
one_next P (x ∷ os) (suc i) o lt is f g zero a e = f zero a e
one_next P (x ∷ os) (suc i) o lt is f g (suc k) a e = one_next P os i o (omega arith) is (λ k a e. f (suc k) a e) g k a e

pub one_more : {A : Type 0} (P : A → Type 0) (os : List (Option A)) (i : ℕ) (o : Option A) → i < length os → o ≡ get_or os i o → ((k : ℕ) (a : A) → get_or (take i os) k None ≡ Some a → P a) → ((a : A) → o ≡ Some a → P a)
    → (k : ℕ) (a : A) → get_or (take (i + 1) os) k None ≡ Some a → P a
one_more P os i o lt is f g = subst (λ n. (k : ℕ) (a : _) → get_or (take n os) k None ≡ Some a → P a) (sym (add-one i)) (one_next P os i o lt is f g)
