-- Lanes of weighted windows, by way of the list of their attempts.

use Rattle.std.proofs.Common.{◌≡◌, ℕ, zero, suc, ◌+◌, ◌-◌, ◌<◌, ◌≤◌, cond, ◌&&◌, eqb, leb, List, [], ◌∷◌, ◌++◌, replicate, refl, inl, inr, arith}
use Rattle.std.specs.List.{AllByRecursion}
use Rattle.std.proofs.ByRecursion.{All-append}
use Rattle.std.proofs.lemmas.Bool.{cases_lt, cases_eq}
use Rattle.windows.specs.Windows.{Window, count, Pick, here, there, serve}
use Rattle.windows.specs.Lanes.{Lane, window, up_to, attempts, asked, demand, LanesFitExactlyWhenAssigned, spend, EarliestBlockIsTheRule}
use Rattle.windows.proofs.Slots.{pigeonhole}
use Rattle.windows.proofs.Serve.{hall, all_taken}

pub count-++ : (l h : ℕ) (xs ys : List Window) → count l h (xs ++ ys) ≡ count l h xs + count l h ys
count-++ l h [] ys = omega arith
count-++ l h (x ∷ xs) ys = omega (arith, count-++ l h xs ys)

count_replicate : (l h n : ℕ) (w : Window) → count l h (replicate n w) ≡ cond (leb l w.start && leb w.end h) n 0
count_replicate l h zero w = grind arith
count_replicate l h (suc n) w =
    let e : count l h (replicate n w) ≡ cond (leb l w.start && leb w.end h) n 0 = count_replicate l h n w in
    grind arith

count_up_to : (l h : ℕ) (a : Lane) (n : ℕ) → count l h (up_to a n) ≡ asked l h a n
count_up_to l h a zero = refl
count_up_to l h a (suc i) =
    omega (arith, count-++ l h (replicate (a.owed i) (window a i)) (up_to a i), count_replicate l h (a.owed i) (window a i), count_up_to l h a i)

count_attempts : (l h : ℕ) (as' : List Lane) → count l h (attempts as') ≡ demand l h as'
count_attempts l h [] = refl
count_attempts l h (a ∷ as') =
    omega (arith, count-++ l h (up_to a a.blocks) (attempts as'), count_up_to l h a a.blocks, count_attempts l h as')

pub lanes_hall : LanesFitExactlyWhenAssigned
lanes_hall as' = (
  (λ room. hall (attempts as') (λ h o. omega (arith, room o.0 h o.1.0, count_attempts o.0 h as'))),
  λ ss a l h e. elim (cases_lt h (l + demand l h as')) [
    | inl over ↦ absurd (pigeonhole (attempts as') ss a h (l, (e, omega (arith, count_attempts l h as'))))
    | inr fits ↦ fits
  ],
)

pick_left : {c : Window} {xs rest : List Window} (ys : List Window) → Pick c xs rest → Pick c (xs ++ ys) (rest ++ ys)
pick_left ys here = here
pick_left ys (there p) = there (pick_left ys p)

pick_right : {c : Window} (xs : List Window) {ys rest : List Window} → Pick c ys rest → Pick c (xs ++ ys) (xs ++ rest)
pick_right [] p = p
pick_right (x ∷ xs) p = there (pick_right xs p)

-- the blocks below n are as they were, if i is not among them
kept : (a : Lane) (i n : ℕ) → n ≤ i → up_to (spend a i) n ≡ up_to a n
kept a i zero e = refl
kept a i (suc n) e =
    let z : cond (eqb n i) (a.owed n - 1) (a.owed n) ≡ a.owed n = grind arith in
    rw (z, kept a i n (omega arith))

pick_replicate : (m n : ℕ) (w : Window) → m ≡ suc n → Pick w (replicate m w) (replicate n w)
pick_replicate m n w e = rw e here

spends : (a : Lane) (i n : ℕ) → i < n → 0 < a.owed i → Pick (window a i) (up_to a n) (up_to (spend a i) n)
spends a i zero lt some = absurd (omega arith)
spends a i (suc n) lt some = elim (cases_eq n i) [
  | inl e ↦
      let z : cond (eqb n i) (a.owed n - 1) (a.owed n) ≡ a.owed n - 1 = grind arith in
      let s : 0 < a.owed n = rw e some in
      rw (z, kept a i n (omega arith), ← e) (pick_left (up_to a n) (pick_replicate (a.owed n) (a.owed n - 1) (window a n) (omega arith)))
  | inr e ↦
      let z : cond (eqb n i) (a.owed n - 1) (a.owed n) ≡ a.owed n = grind arith in
      rw z (pick_right (replicate (a.owed n) (window a n)) (spends a i n (omega arith) some))
]

pub spends_one : (i : ℕ) (front back : List Lane) (a : Lane) → i < a.blocks → 0 < a.owed i
    → Pick (window a i) (attempts (front ++ a ∷ back)) (attempts (front ++ spend a i ∷ back))
spends_one i [] back a lt some = pick_left (attempts back) (spends a i a.blocks lt some)
spends_one i (b ∷ front) back a lt some = pick_right (up_to b b.blocks) (spends_one i front back a lt some)

-- what holds of each block with a try left holds of each attempt
module _ (P : Window → Type 0) where
  all_replicate : (n : ℕ) (w : Window) → (0 < n → P w) → AllByRecursion P (replicate n w)
  all_replicate zero w f = tt
  all_replicate (suc n) w f = (f (omega arith), all_replicate n w (λ _. f (omega arith)))

  all_up_to : (a : Lane) (n : ℕ) → ((j : ℕ) → j < n → 0 < a.owed j → P (window a j)) → AllByRecursion P (up_to a n)
  all_up_to a zero f = tt
  all_up_to a (suc n) f =
      All-append P (replicate (a.owed n) (window a n)) (up_to a n) (all_replicate (a.owed n) (window a n) (f n (omega arith)))
      (all_up_to a n (λ j e. f j (omega arith)))

  pub all_attempts : (as' : List Lane) → AllByRecursion (λ a. (j : ℕ) → j < a.blocks → 0 < a.owed j → P (window a j)) as' → AllByRecursion P (attempts as')
  all_attempts [] q = tt
  all_attempts (a ∷ as') q = All-append P (up_to a a.blocks) (attempts as') (all_up_to a a.blocks q.0) (all_attempts as' q.1)

pub lane_serve : EarliestBlockIsTheRule
lane_serve t i front back a lt some rel fresh q =
    let Later : Window → Type 0 = λ w. w.start ≤ t → a.deadline i ≤ w.end in
    let p = spends_one i front back a lt some in
    serve (window a i) p rel fresh (all_taken Later p (all_attempts Later (front ++ a ∷ back) q))
