-- The search for the overfull span of least end decides whether there is an assignment.

use Rattle.std.proofs.Common.{◌≡◌, ℕ, zero, suc, ◌-◌, ◌<◌, ◌≤◌, min, ltb, List, Some, None, Option, refl, ap, subst, inl, inr, arith, MatchOption}
use Rattle.std.proofs.lemmas.Bool.{cases_lt, cond_both, ltb-true, ltb-false}
use Rattle.windows.specs.Windows.{Window, count, clip, latest, Assigned, Overfull, OverfullAt, NoneOverfull, or_else, first_of, tight, tried, FirstOverfull, TryingDecides}
use Rattle.windows.proofs.Counts.{count_le}
use Rattle.windows.proofs.Slots.{pigeonhole}
use Rattle.windows.proofs.Serve.{hall, since_zero, by_latest}

cases_map : {A : Type 0} (o : Option A) {N N' : Type 0} {P P' : A → Type 0} → (N → N') → ((a : A) → P a → P' a) → MatchOption o N P → MatchOption o N' P'
cases_map (Some a) n p c = p a c
cases_map None n p c = n c

-- a search over what f answers finds the first answer
module _ {A : Type 0} (f : ℕ → Option A) (N : ℕ → Type 0) (P : ℕ → A → Type 0) (each : (k : ℕ) → MatchOption (f k) (N k) (P k)) where
  First : ℕ → Option A → Type 0
  First n o = MatchOption o ((k : ℕ) → k < n → N k) (λ a. (k : ℕ) × (k < n) × P k a × ((j : ℕ) → j < k → N j))

  first_more : (n : ℕ) (o o' : Option A) → First n o → MatchOption o' (N n) (P n) → First (suc n) (or_else o o')
  unfolding First
  first_more n (Some a) o' c d = (c.0, omega (arith, c.1), c.2, c.3)
  first_more n None (Some a) c d = (n, omega arith, d, c)
  first_more n None None c d = λ k e. elim (cases_lt k n) [
    | inl lt ↦ c k lt
    | inr ge ↦ (let z : n ≡ k = omega arith in subst N z d)
  ]

  first : (n : ℕ) → First n (first_of f n)
  unfolding First
  first zero = λ k e. absurd (omega arith)
  first (suc n) = first_more n (first_of f n) (f n) (first n) (each n)

tight_found : (ws : List Window) (h i : ℕ) → MatchOption (tight ws h i) (count (h - i) h ws ≤ i) (λ s. (s ≡ (h - i, h)) × (i < count (h - i) h ws))
tight_found ws h i =
    let n : ℕ = count (h - i) h ws in
    cond_both (ltb i n) (Some (h - i, h)) None (λ o. MatchOption o (n ≤ i) (λ s. (s ≡ (h - i, h)) × (i < n)))
    (λ e. (refl, ltb-true i n e)) (λ e. ltb-false i n e)

slack : (ws : List Window) (h l : ℕ) → Overfull l h ws → h - l < count (h - (h - l)) h ws
slack ws h l o =
    let z : h - (h - l) ≡ l = omega arith in
    rw z (omega arith)

at_end : (ws : List Window) (h : ℕ) → MatchOption (first_of (tight ws h) (suc h)) (OverfullAt h ws → ⊥)
    (λ s. (s.1 ≡ h) × Overfull s.0 h ws × ((l : ℕ) → s.0 < l → Overfull l h ws → ⊥))
unfolding First
at_end ws h =
    cases_map (first_of (tight ws h) (suc h))
    (λ none o. omega (arith, none (h - o.0) (omega arith), slack ws h o.0 o.1))
    (λ s some.
    let e : s.0 ≡ h - some.0 = ap (λ x. x.0) some.2.0 in (
      ap (λ x. x.1) some.2.0,
      rw e (omega arith, omega (arith, some.2.1)),
      λ l lt o. omega (arith, some.3 (h - l) (omega arith), slack ws h l o),
    ))
    (first (tight ws h) _ _ (tight_found ws h) (suc h))

-- past the last end nothing new is overfull
clamp : (ws : List Window) (h : ℕ) → latest ws < h → OverfullAt h ws → OverfullAt (latest ws) ws
clamp ws h past o =
    let l : ℕ = o.0 in
    let m : ℕ = latest ws in
    let g : count l h ws ≤ count (min l m) m ws =
    subst (λ v. count l h v ≤ count (min l m) m v) (since_zero ws)
    (count_le (λ w. w.end ≤ m) (clip 0) (clip 0) l h (min l m) m (λ w e. grind arith) ws (by_latest ws m (omega arith))) in
    (min l m, (omega arith, omega arith))

found : (ws : List Window) → MatchOption (tried ws) (NoneOverfull ws) (FirstOverfull ws)
unfolding First
found ws =
    cases_map (tried ws)
    (λ none h o. elim (cases_lt (latest ws) h) [
      | inl past ↦ none (latest ws) (omega arith) (clamp ws h past o)
      | inr upto ↦ none h (omega arith) o
    ])
    (λ s some. rw some.2.0 (some.2.1, some.3, some.2.2))
    (first (λ h. first_of (tight ws h) (suc h)) _ _ (at_end ws) (suc (latest ws)))

told : (ws : List Window) (o : Option (ℕ × ℕ)) → MatchOption o (NoneOverfull ws) (FirstOverfull ws)
    → (o ≡ None → (ss : List ℕ) × Assigned ws ss) × ((ss : List ℕ) → Assigned ws ss → o ≡ None)
told ws None fits = ((λ _. hall ws fits), λ ss a. refl)
told ws (Some s) w =
    ((λ e. let z : ◌≡◌ {A = ℕ} 0 1 = cc in absurd (omega arith)), λ ss a. absurd (pigeonhole ws ss a s.1 (s.0, w.0)))

pub decision : TryingDecides
decision ws =
    let t = told ws (tried ws) (found ws) in
    (found ws, t.0, t.1)
