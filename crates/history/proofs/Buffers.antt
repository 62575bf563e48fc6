-- The pool's buffers, and which of them are free.
use Rattle.std.proofs.Common.{◌≡◌, ℕ, zero, suc, ◌+◌, ◌*◌, ◌/◌, ◌%◌, ◌<◌, ◌≤◌, Bool, true, false, not, ◌&&◌, eqb, List, [], ◌∷◌, ◌++◌, length, get_or, take, drop, Some, None, filter, Option, refl, ◌∙◌, subst, inl, inr, mul-le-mul_right, add-mul, div-add-mod', arith}
use Rattle.std.specs.List.{range_with_len, AllByRecursion}
use Rattle.std.proofs.ByRecursion.{All-weaker, All-get_or, all_kept_by, kept_by_passes}
use Rattle.std.proofs.lemmas.List.{places, same_lists, length-take-le, get_or-take}
use Rattle.std.proofs.lemmas.Bool.{cond_both, cases_lt, or_parts, or_left, or_right, and_from, not-true, both_ways, eq-eqb, eqb-false}
use Rattle.history.specs.declared.Lane.{Lane}
use Rattle.history.specs.declared.Lease.{Lease}
use Rattle.history.specs.Bench.{some_and, any, is_live, lane_in, lane_at, Out, own_buffers, bytes_in, written, has, in_use, free}

-- a part of n bytes at p, written, and another
module _ (xs ys : List ℕ) (p n : ℕ) (inside : p + n ≤ length xs) (whole : length ys ≡ n) where
  pub put : List ℕ
  put = take p xs ++ (ys ++ drop (p + n) xs)

  length_put : length put ≡ length xs
  unfolding put
  length_put = grind (arith, places)

  put_same : take n (drop p put) ≡ ys
  unfolding put
  put_same = same_lists _ _ (grind (arith, places)) (λ k d h. grind (arith, places))

  put_before : (q : ℕ) → q + n ≤ p → take n (drop q put) ≡ take n (drop q xs)
  unfolding put
  put_before q e = same_lists _ _ (grind (arith, places)) (λ k d h. grind (arith, places))

  put_after : (q : ℕ) → p + n ≤ q → q + n ≤ length xs → take n (drop q put) ≡ take n (drop q xs)
  unfolding put
  put_after q e f = same_lists _ _ (grind (arith, places)) (λ k d h. grind (arith, places))

module _ (pool bytes : List ℕ) (x : ℕ) (inside : 64 * x + 64 ≤ length pool) (whole : length bytes ≡ 64) where
  pub length_written : length (written pool x bytes) ≡ length pool
  unfolding put
  length_written = length_put pool bytes (64 * x) 64 inside whole

  pub written_same : bytes_in (written pool x bytes) x ≡ bytes
  unfolding put
  written_same = put_same pool bytes (64 * x) 64 inside whole

  pub written_other : (y : ℕ) → 64 * y + 64 ≤ length pool → (y ≡ x → ⊥) → bytes_in (written pool x bytes) y ≡ bytes_in pool y
  unfolding put
  written_other y in' ne = elim (cases_lt y x) [
    | inl lt ↦ put_before pool bytes (64 * x) 64 inside whole (64 * y) (omega arith)
    | inr ge ↦ put_after pool bytes (64 * x) 64 inside whole (64 * y) (omega arith) in'
  ]

-- blocks less than a depth apart have different places
pub places_differ : (i j b : ℕ) → i < j → j < i + b → i % b ≡ j % b → ⊥
places_differ i j b up near e =
    let p = div-add-mod' i b in
    let q = div-add-mod' j b in
    elim (cases_lt (i / b) (j / b)) [
      | inl lt ↦ (let m : (i / b + 1) * b ≤ j / b * b = mul-le-mul_right b (omega arith) in omega (arith, add-mul (i / b) 1 b))
      | inr ge ↦ (let m : j / b * b ≤ i / b * b = mul-le-mul_right b ge in omega arith)
    ]

pub any_none : {A : Type 0} (p : A → Bool) (os : List (Option A)) → any p os ≡ false → (k : ℕ) → some_and p (get_or os k None) ≡ false
any_none p [] e k = refl
any_none p (o ∷ os) e zero = (or_parts (some_and p o) (any p os) e).0
any_none p (o ∷ os) e (suc k) = any_none p os (or_parts (some_and p o) (any p os) e).1 k

has_at : (ys : List ℕ) (j : ℕ) → j < length ys → has (get_or ys j 0) ys ≡ true
has_at [] j e = absurd (omega arith)
has_at (y ∷ ys) zero e = or_left _ _ (eq-eqb y y refl)
has_at (y ∷ ys) (suc j) e = or_right _ _ (has_at ys j (omega arith))

counting_from : (a n : ℕ) → AllByRecursion (λ x. (a ≤ x) × (x < a + n)) (range_with_len a n)
counting_from a zero = tt
counting_from a (suc n) = ((omega arith, omega arith), All-weaker _ _ (λ x k. (omega arith, omega arith)) (range_with_len (a + 1) n) (counting_from (a + 1) n))

Rises : List ℕ → Type 0
Rises xs = (i j : ℕ) → i < j → j < length xs → get_or xs i 0 < get_or xs j 0

rises_more : (a : ℕ) (xs : List ℕ) → AllByRecursion (λ x. a < x) xs → Rises xs → Rises (a ∷ xs)
unfolding Rises
rises_more a xs q r i zero up in' = absurd (omega arith)
rises_more a xs q r zero (suc j) up in' = All-get_or (λ x. a < x) xs j 0 (omega arith) q
rises_more a xs q r (suc i) (suc j) up in' = r i j (omega arith) (omega arith)

kept_rises : (p : ℕ → Bool) (a n : ℕ) → Rises (filter p (range_with_len a n))
unfolding Rises
kept_rises p a zero = λ i j up in'. absurd (omega arith)
kept_rises p a (suc n) =
    let rest : List ℕ = filter p (range_with_len (a + 1) n) in
    cond_both (p a) (a ∷ rest) rest Rises
    (λ _. rises_more a rest (all_kept_by p _ _ (All-weaker _ _ (λ x k. omega arith) (range_with_len (a + 1) n) (counting_from (a + 1) n))) (kept_rises p (a + 1) n))
    (λ _. kept_rises p (a + 1) n)

module _ (ls : List (Option Lane)) (es : List (Option Lease)) where
  pub free_rises : (i j : ℕ) → i < j → j < length (free ls es) → get_or (free ls es) i 0 < get_or (free ls es) j 0
  unfolding free Rises
  free_rises = kept_rises (λ x. not (in_use ls es x)) 0 32

  pub free_small : (i : ℕ) → i < length (free ls es) → get_or (free ls es) i 0 < 32
  unfolding free
  free_small i e =
      All-get_or (λ x. x < 32) (free ls es) i 0 e (all_kept_by (λ x. not (in_use ls es x)) (λ x. x < 32) (range_with_len 0 32) (All-weaker (λ x. (0 ≤ x) × (x < 0 + 32)) (λ x. x < 32) (λ x k. omega arith) (range_with_len 0 32) (counting_from 0 32)))

  free_unused : (i : ℕ) → i < length (free ls es) → in_use ls es (get_or (free ls es) i 0) ≡ false
  unfolding free
  free_unused i e = not-true _ (All-get_or (λ x. not (in_use ls es x) ≡ true) (free ls es) i 0 e (kept_by_passes (λ x. not (in_use ls es x)) (range_with_len 0 32)))

  -- no live lane has a free buffer
  pub free_of_lanes : (i h j : ℕ) → i < length (free ls es) → is_live (lane_at ls h).stage ≡ true → j < (lane_at ls h).order.timing.depth
      → (lane_at ls h).order.timing.depth ≤ length (lane_at ls h).buffers → get_or (lane_at ls h).buffers j 0 ≡ get_or (free ls es) i 0 → ⊥
  free_of_lanes i h j e alive in' long same =
      let x : ℕ = get_or (free ls es) i 0 in
      unlike (get_or ls h None) x j (any_none _ ls (or_parts _ _ (free_unused i e)).0 h) alive in' long same
    where
      unlike : (o : Option Lane) (x j : ℕ) → some_and (λ l. is_live l.stage && has x (own_buffers l)) o ≡ false → is_live (lane_in o).stage ≡ true
          → j < (lane_in o).order.timing.depth → (lane_in o).order.timing.depth ≤ length (lane_in o).buffers → get_or (lane_in o).buffers j 0 ≡ x → ⊥
      unlike None x j none alive in' long same = both_ways false refl alive
      unlike (Some l) x j none alive in' long same =
          let n : ℕ = l.order.timing.depth in
          let at : get_or (own_buffers l) j 0 ≡ x = get_or-take n l.buffers j 0 in' ∙ same in
          both_ways _ none (and_from _ _ alive (subst (λ y. has y (own_buffers l) ≡ true) at (has_at (own_buffers l) j (omega (arith, length-take-le n l.buffers long)))))

  -- no lease is out on a free buffer
  pub free_of_leases : (i m : ℕ) (e : Lease) → i < length (free ls es) → Out es m e → get_or (free ls es) i 0 ≡ e.buffer → ⊥
  free_of_leases i m e in' out same =
      let x : ℕ = get_or (free ls es) i 0 in
      let none : some_and (λ e. eqb x e.buffer) (Some e) ≡ false =
      subst (λ o. some_and (λ e. eqb x e.buffer) o ≡ false) out (any_none _ es (or_parts _ _ (free_unused i in')).1 m) in
      eqb-false x e.buffer none same
