-- The totals count the charged windows.
use Rattle.std.proofs.Common.{◌≡◌, ℕ, zero, suc, ◌+◌, ◌-◌, ◌*◌, ◌≤◌, max, cond, ◌&&◌, leb, List, [], ◌∷◌, ◌++◌, map, replicate, sym, refl, ap, ◌∙◌, inl, inr, mul-le-mul_right, add-mul, arith}
use Rattle.std.specs.List.{AllByRecursion}
use Rattle.std.proofs.lemmas.Bool.{cases_lt}
use Rattle.windows.specs.Lanes.{window, up_to, attempts}
use Rattle.windows.specs.Windows.{Window, count, since}
use Rattle.schedule.specs.declared.Work.{Work}
use Rattle.schedule.specs.declared.rest.Rest.{Rest}
use Rattle.schedule.specs.Orders.{Proper, release, deadline, owed, lane, charged}
use Rattle.schedule.specs.Rests.{IsRestOf, LeftOf, release_of, owed_of, inside, total}

-- the lead of a lane that can be left reaches back to the admission at most
pub lead_of : (w : Work) → Proper w → w.admitted + (w.timing.depth - 1) * w.timing.period ≤ w.timing.start + w.timing.depth * w.timing.period
lead_of w p = omega (arith, p.admitted, mul-le-mul_right {m = w.timing.depth - 1} {n = w.timing.depth} w.timing.period (omega arith))

module _ (w : Work) (r : Rest) (p : Proper w) (is : IsRestOf w r) where
  -- a block is read the lead before its deadline, which is what the depth says
  release_rest : (j : ℕ) → release w.timing w.admitted j ≡ release_of r j
  release_rest j =
      let b : ℕ = w.timing.depth in
      let k : ℕ = w.timing.period in
      let least : 2 ≤ b = p.timing.depth_least in
      let same : j * r.period ≡ j * k = ap (λ x. j * x) is.period in
      elim (cases_lt j b) [
        | inl e ↦ grind (arith, is.early, is.admitted)
        | inr e ↦
            let s : j ≡ (j - b + 1) + (b - 1) = omega arith in
            let m : j * k ≡ (j - b + 1) * k + (b - 1) * k = ap (λ x. x * k) s ∙ add-mul (j - b + 1) (b - 1) k in
            grind (arith, is.early, is.start, is.lead)
      ]

  deadline_rest : (j : ℕ) → deadline w.timing j ≡ r.start + j * r.period
  deadline_rest j = omega (arith, is.start, ap (λ x. j * x) is.period)

  owed_rest : (j : ℕ) → owed w j ≡ owed_of r j
  owed_rest j = grind (arith, is.next, is.left, is.each)

count-++ : (t l h : ℕ) (xs ys : List Window) → count l h (since t (xs ++ ys)) ≡ count l h (since t xs) + count l h (since t ys)
count-++ t l h [] ys = omega arith
count-++ t l h (x ∷ xs) ys = omega (arith, count-++ t l h xs ys)

count_replicate : (t l h n : ℕ) (w : Window) → count l h (since t (replicate n w)) ≡ cond (leb l (max t w.start) && leb w.end h) n 0
count_replicate t l h zero w = grind arith
count_replicate t l h (suc n) w =
    let e : count l h (since t (replicate n w)) ≡ cond (leb l (max t w.start) && leb w.end h) n 0 = count_replicate t l h n w in
    grind arith

count_inside : (t l h : ℕ) (w : Work) (r : Rest) → Proper w → IsRestOf w r → (n : ℕ) → count l h (since t (up_to (lane w) n)) ≡ inside t l h r n
count_inside t l h w r p is zero = refl
count_inside t l h w r p is (suc j) =
    let f : ℕ → ℕ → ℕ → ℕ = λ x d n. cond (leb l (max t x) && leb d h) n 0 in
    omega (
      arith,
      count-++ t l h (replicate (owed w j) (window (lane w) j)) (up_to (lane w) j),
      count_replicate t l h (owed w j) (window (lane w) j),
      ap (λ x. f x (deadline w.timing j) (owed w j)) (release_rest w r p is j)
          ∙ ap (λ d. f (release_of r j) d (owed w j)) (deadline_rest w r p is j)
          ∙ ap (f (release_of r j) (r.start + j * r.period)) (owed_rest w r p is j),
      count_inside t l h w r p is j,
    )

total_over : (t l h : ℕ) (rs : List Rest) → AllByRecursion (λ r. r.blocks ≡ 0) rs → total t l h rs ≡ 0
total_over t l h [] q = refl
total_over t l h (r ∷ rs) q = omega (arith, ap (inside t l h r) q.0, total_over t l h rs q.1)

pub count_charged : (t l h : ℕ) (ws : List Work) (rs : List Rest) → AllByRecursion Proper ws → LeftOf ws rs → count l h (charged t ws) ≡ total t l h rs
count_charged t l h [] rs q left = sym (total_over t l h rs left)
count_charged t l h (w ∷ ws) [] q left = absurd left
count_charged t l h (w ∷ ws) (r ∷ rs) q left =
    omega (
      arith,
      count-++ t l h (up_to (lane w) w.timing.count) (attempts (map lane ws)),
      count_inside t l h w r q.0 left.0 w.timing.count,
      ap (inside t l h r) left.0.blocks,
      count_charged t l h ws rs q.1 left.1,
    )
