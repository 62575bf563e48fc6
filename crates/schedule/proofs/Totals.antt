-- How many attempts lie in a span: what holds block by block holds of the totals.
use Rattle.std.proofs.Common.{◌≡◌, ℕ, zero, suc, ◌+◌, ◌<◌, ◌≤◌, max, cond, ◌&&◌, leb, List, [], ◌∷◌, length, get_or, set, refl, ap, inl, inr, arith}
use Rattle.std.specs.List.{AllByRecursion}
use Rattle.std.proofs.lemmas.Bool.{cases_lt, cases_eq}
use Rattle.schedule.specs.declared.rest.Rest.{Rest}
use Rattle.schedule.specs.Rests.{release_of, deadline_of, owed_of, shortened, inside, total}

-- a block that counts in one span counts in the other
abbrev pub Into : ℕ → ℕ → ℕ → ℕ → ℕ → ℕ → Rest → Type 0
Into t l h t' l' h' w = (j : ℕ) → w.next ≤ j → j < w.blocks → l ≤ max t (release_of w j) → deadline_of w j ≤ h → (l' ≤ max t' (release_of w j)) × (deadline_of w j ≤ h')

one_le : (l m d h l' m' h' n : ℕ) → (0 < n → l ≤ m → d ≤ h → (l' ≤ m') × (d ≤ h'))
    → cond (leb l m && leb d h) n 0 ≤ cond (leb l' m' && leb d h') n 0
one_le l m d h l' m' h' zero f = grind arith
one_le l m d h l' m' h' (suc n) f = elim (cases_lt m l) [
  | inl p ↦ grind arith
  | inr p ↦ elim (cases_lt h d) [
    | inl q ↦ grind arith
    | inr q ↦ (let g : (l' ≤ m') × (d ≤ h') = f (omega arith) p q in grind arith)
  ]
]

module _ (t l h t' l' h' : ℕ) where
  inside_le : (w : Rest) → Into t l h t' l' h' w → (n : ℕ) → n ≤ w.blocks → inside t l h w n ≤ inside t' l' h' w n
  inside_le w f zero e = omega arith
  inside_le w f (suc j) e =
      omega (
        arith,
        inside_le w f j (omega arith),
        one_le l (max t (release_of w j)) (deadline_of w j) h l' (max t' (release_of w j)) h' (owed_of w j)
            (λ some p q. f j (grind arith) (omega arith) p q),
      )

  pub total_le : (ws : List Rest) → AllByRecursion (Into t l h t' l' h') ws → total t l h ws ≤ total t' l' h' ws
  total_le [] q = omega arith
  total_le (w ∷ ws) q = omega (arith, inside_le w q.0 w.blocks (omega arith), total_le ws q.1)

one_none : (l m d h n : ℕ) → (l ≤ m → h < d) → cond (leb l m && leb d h) n 0 ≡ 0
one_none l m d h n f = elim (cases_lt m l) [ inl p ↦ grind arith | inr p ↦ (let g : h < d = f p in grind arith) ]

-- where every block starts before l or is due past h, nothing counts
pub total_none : (t l h : ℕ) (ws : List Rest) → AllByRecursion (λ w. (j : ℕ) → w.next ≤ j → j < w.blocks → l ≤ max t (release_of w j) → h < deadline_of w j) ws → total t l h ws ≡ 0
total_none t l h [] q = refl
total_none t l h (w ∷ ws) q = omega (arith, none w.blocks (omega arith), total_none t l h ws q.1) where
  none : (n : ℕ) → n ≤ w.blocks → inside t l h w n ≡ 0
  none zero e = refl
  none (suc j) e = elim (cases_lt j w.next) [
    | inl p ↦ grind (arith, none j (omega arith))
    | inr p ↦ omega (arith, none j (omega arith), one_none l (max t (release_of w j)) (deadline_of w j) h (owed_of w j) (q.0 j p (omega arith)))
  ]

-- one work changes
pub total_set : (t l h x : ℕ) (w w' : Rest) → inside t l h w w.blocks ≡ x + inside t l h w' w'.blocks
    → (ws : List Rest) (k : ℕ) → k < length ws → w ≡ get_or ws k w → total t l h ws ≡ x + total t l h (set ws k w')
total_set t l h x w w' e [] k lt r = absurd (omega arith)
total_set t l h x w w' e (v ∷ ws) zero lt r = rw (← r) (omega (arith, e))
total_set t l h x w w' e (v ∷ ws) (suc k) lt r = omega (arith, total_set t l h x w w' e ws k (omega arith) r)

-- the blocks from n on are due past h
pub inside_cut : (t l h : ℕ) (w : Rest) (n m : ℕ) → n ≤ m → ((j : ℕ) → n ≤ j → j < m → h < deadline_of w j) → inside t l h w m ≡ inside t l h w n
inside_cut t l h w n zero le past = (let e : zero ≡ n = omega arith in ap (inside t l h w) e)
inside_cut t l h w n (suc m) le past = elim (cases_eq (suc m) n) [
  | inl e ↦ ap (inside t l h w) e
  | inr e ↦
      let k : inside t l h w m ≡ inside t l h w n = inside_cut t l h w n m (omega arith) (λ j from to. past j from (omega arith)) in
      let g : h < deadline_of w m = past m (omega arith) (omega arith) in
      grind arith
]

pub inside_shortened : (t l h : ℕ) (w : Rest) (n m : ℕ) → inside t l h (shortened w n) m ≡ inside t l h w m
inside_shortened t l h w n zero = refl
inside_shortened t l h w n (suc m) = ap (λ x. cond (leb l (max t (release_of w m)) && leb (deadline_of w m) h) (owed_of w m) 0 + x) (inside_shortened t l h w n m)
