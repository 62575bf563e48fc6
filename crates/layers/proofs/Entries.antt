-- Where an entry for a block stands, and what a change of it or a new one makes of what is planned.
use Rattle.std.proofs.Common.{◌≡◌, ℕ, zero, suc, ◌+◌, ◌-◌, ◌<◌, ◌≤◌, Bool, true, false, cond, eqb, ltb, Some, None, is_some, List, [], ◌∷◌, ◌++◌, length, get_or, set, sym, refl, ap, ◌∙◌, ⊎_elim, arith}
use Rattle.std.proofs.lemmas.List.{get_or-set_same, get_or-set_other, get_or_past, get_or_push, get_or_append_left, length_push}
use Rattle.std.proofs.lemmas.List.Recursion.{is_position_or_len}
use Rattle.std.specs.List.{position}
use Rattle.std.proofs.lemmas.Bool.{cases_eq, cases_lt, eqb-true}
use Rattle.std.proofs.lemmas.Bool.Decides.{nat_tests}
use Rattle.disk.specs.Meaning.{failures, dead}
use Rattle.disk.proofs.Meaning.{less_none}
use Rattle.layers.specs.Entries.{place_of, left_coming, no_entry, planned, UsedUp}
use Rattle.layers.specs.declared.plan.Entry.{Entry}
use Rattle.layers.specs.declared.plan.Left.{Left}
use Rattle.layers.specs.declared.plan.Left.TheVariants.{Times}

-- what a search by block finds
placed : (es : List Entry) (b : ℕ) → position (λ e. eqb e.block b) es ≡ cond (ltb (place_of es b) (length es)) (Some (place_of es b)) None
placed es b = ap (λ k. cond (ltb k (length es)) (Some k) None) (sym (is_position_or_len (λ xs. place_of xs b) (λ e. eqb e.block b) refl (λ x xs. ap (cond (eqb x.block b) 0) (omega arith)) es))

pub is_placed : (es : List Entry) (b : ℕ) → is_some (position (λ e. eqb e.block b) es) ≡ ltb (place_of es b) (length es)
is_placed es b = let p = placed es b in grind (arith, nat_tests)

pub place_found : (es : List Entry) (b i : ℕ) → position (λ e. eqb e.block b) es ≡ Some i → (place_of es b ≡ i) × (i < length es)
place_found es b i is = let p = sym (placed es b) ∙ is in grind (arith, nat_tests)

pub place_missing : (es : List Entry) (b : ℕ) → position (λ e. eqb e.block b) es ≡ None → length es ≤ place_of es b
place_missing es b is = let p = sym (placed es b) ∙ is in grind (arith, nat_tests)

pub planned_is : (es : List Entry) (b : ℕ) → planned es b ≡ left_coming (get_or es (place_of es b) no_entry).left
unfolding planned
planned_is es b = refl

-- where there is no entry, nothing is planned
pub planned_none : (es : List Entry) (b : ℕ) → length es ≤ place_of es b → planned es b ≡ failures 0
planned_none es b h = planned_is es b ∙ ap (λ (e : Entry). left_coming e.left) (get_or_past es (place_of es b) no_entry h)

pub place_within : (es : List Entry) (b : ℕ) → place_of es b ≤ length es
place_within [] b = omega arith
place_within (e ∷ es) b = let h = place_within es b in grind (arith, nat_tests)

block_by : (t : Bool) (e : Entry) (es : List Entry) (b : ℕ) → eqb e.block b ≡ t → (place_of es b < length es → (get_or es (place_of es b) no_entry).block ≡ b) → cond t 0 (suc (place_of es b)) < suc (length es) → (get_or (e ∷ es) (cond t 0 (suc (place_of es b))) no_entry).block ≡ b
block_by true e es b t ih lt = eqb-true e.block b t
block_by false e es b t ih lt = ih (omega arith)

-- the entry at the place of a block is for that block
pub block_at_place : (es : List Entry) (b : ℕ) → place_of es b < length es → (get_or es (place_of es b) no_entry).block ≡ b
block_at_place [] b lt = absurd (omega arith)
block_at_place (e ∷ es) b lt = block_by (eqb e.block b) e es b refl (block_at_place es b) lt

-- an entry whose block stays leaves the places as they were
place_set : (es : List Entry) (i : ℕ) (x : Entry) (b : ℕ) → x.block ≡ (get_or es i no_entry).block → place_of (set es i x) b ≡ place_of es b
place_set [] i x b e = refl
place_set (y ∷ es) zero x b e = ap (λ n. cond (eqb n b) 0 (suc (place_of es b))) e
place_set (y ∷ es) (suc i) x b e = ap (λ n. cond (eqb y.block b) 0 (suc n)) (place_set es i x b e)

-- another block has another place
places_apart : (es : List Entry) (b y : ℕ) → place_of es b < length es → (y ≡ b → ⊥) → place_of es y ≡ place_of es b → ⊥
places_apart es b y lt ne e =
    let p = block_at_place es y (omega arith) in
    let q = block_at_place es b lt in
    ne (sym p ∙ ap (λ i. (get_or es i no_entry).block) e ∙ q)

-- the entry for block b changed in place to what l says
pub planned_set : (es : List Entry) (b y : ℕ) (l : Left) → place_of es b < length es → planned (set es (place_of es b) (record { block = (get_or es (place_of es b) no_entry).block; left = l })) y ≡ cond (eqb b y) (left_coming l) (planned es y)
planned_set es b y l lt =
    let x : Entry = record { block = (get_or es (place_of es b) no_entry).block; left = l } in
    let i = planned_is (set es (place_of es b) x) y ∙ ap (λ k. left_coming (get_or (set es (place_of es b) x) k no_entry).left) (place_set es (place_of es b) x y refl) in
    ⊎_elim
    (λ (e : y ≡ b). let s = get_or-set_same es (place_of es b) x no_entry lt in grind (arith, nat_tests))
    (λ (ne : y ≡ b → ⊥). let o = get_or-set_other es (place_of es b) (place_of es y) x no_entry (places_apart es b y lt ne) in let w = planned_is es y in grind (arith, nat_tests))
    (cases_eq y b)

module _ (es : List Entry) (b : ℕ) where
  -- nothing is used up where nothing is planned or the block is dead
  pub used_none : planned es b ≡ failures 0 → UsedUp (planned es) b (planned es)
  used_none p y = ⊎_elim (λ (e : y ≡ b). grind (arith, nat_tests)) (λ (ne : y ≡ b → ⊥). let z = less_none (planned es y) in grind (arith, nat_tests)) (cases_eq y b)

  pub used_dead : planned es b ≡ dead → UsedUp (planned es) b (planned es)
  used_dead p y = ⊎_elim (λ (e : y ≡ b). grind (arith, nat_tests)) (λ (ne : y ≡ b → ⊥). let z = less_none (planned es y) in grind (arith, nat_tests)) (cases_eq y b)

  pub used_one : (n : ℕ) → place_of es b < length es → planned es b ≡ failures n → UsedUp (planned es) b (planned (set es (place_of es b) (record { block = (get_or es (place_of es b) no_entry).block; left = Times (n - 1) })))
  used_one n lt p y =
      let s = planned_set es b y (Times (n - 1)) lt in
      let z = less_none (planned es y) in
      ⊎_elim (λ (e : y ≡ b). grind (arith, nat_tests)) (λ (ne : y ≡ b → ⊥). grind (arith, nat_tests)) (cases_eq y b)

place_push : (es : List Entry) (x : Entry) (y : ℕ) → place_of (es ++ x ∷ []) y ≡ cond (ltb (place_of es y) (length es)) (place_of es y) (length es + cond (eqb x.block y) 0 1)
place_push [] x y = grind (arith, nat_tests)
place_push (e ∷ es) x y = let h = place_push es x y in let w = place_within es y in grind (arith, nat_tests)

-- an entry more, for a block that had none
pub planned_push : (es : List Entry) (x : Entry) (y : ℕ) → length es ≤ place_of es x.block → planned (es ++ x ∷ []) y ≡ cond (eqb x.block y) (left_coming x.left) (planned es y)
planned_push es x y h =
    let i = planned_is (es ++ x ∷ []) y in
    let j = planned_is es y in
    let p = place_push es x y in
    let l = length_push es x in
    ⊎_elim
    (λ (e : y ≡ x.block). let g = get_or_push es x no_entry (length es) refl in grind (arith, nat_tests))
    (λ (ne : y ≡ x.block → ⊥).
    ⊎_elim
    (λ (lt : place_of es y < length es). let g = get_or_append_left es (x ∷ []) no_entry (place_of es y) lt in grind (arith, nat_tests))
    (λ (le : length es ≤ place_of es y). let g = get_or_past (es ++ x ∷ []) (place_of (es ++ x ∷ []) y) no_entry (grind (arith, nat_tests)) in let n = planned_none es y le in grind (arith, nat_tests))
    (cases_lt (place_of es y) (length es)))
    (cases_eq y x.block)
