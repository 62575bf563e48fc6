-- The blocks that are due by h.
use Rattle.std.proofs.Common.{◌≡◌, ℕ, suc, ◌+◌, ◌-◌, ◌/◌, ◌<◌, ◌≤◌, min, set, List, [], ◌∷◌, length, get_or, sym, refl, ap, ◌∙◌, subst, mul-le-mul_right, mul_comm, mul-le-mul_left, div-mul-le_self, arith}
use native.Mathlib.Nat.{lt-mul-div-succ}
use Rattle.std.specs.List.{AllByRecursion}
use Rattle.std.proofs.Common.{inl, inr}
use Rattle.std.proofs.lemmas.Bool.{cases_eq}
use Rattle.std.proofs.lemmas.List.{get_or-set_same, get_or-set_other, length-set}
use Rattle.schedule.specs.declared.rest.Rest.{Rest}
use Rattle.schedule.specs.Rests.{deadline_of, done, shortened, inside, total}
use Rattle.schedule.specs.Scan.{CutAt, CutTo, DueBy}
use Rattle.schedule.proofs.Totals.{inside_cut, inside_shortened}

pub cut_at : (h : ℕ) (w : Rest) → w.start ≤ h → CutAt h w (shortened w ((h - w.start) / w.period + 1))
cut_at h w le =
    let q : ℕ = (h - w.start) / w.period in
    record {
      at = q + 1;
      is = refl;
      inside = λ j lt. omega (arith, mul-le-mul_right {m = j} {n = q} w.period (omega arith), div-mul-le_self (h - w.start) w.period);
      past = λ j from to.
          omega (arith, lt-mul-div-succ (h - w.start) {b = w.period} w.period_some, mul-le-mul_left {m = q + 1} {n = j} w.period (omega arith), mul_comm j w.period);
    }

-- w is cut to none
pub cut_none : (h : ℕ) (w : Rest) → h < w.start → CutAt h w (shortened w 0)
cut_none h w lt = record { at = 0; is = refl; inside = λ j e. absurd (omega arith); past = λ j from to. omega arith }

module _ (h : ℕ) where
  cut_total : (w r : Rest) → CutAt h w r → (t l : ℕ) → inside t l h w w.blocks ≡ inside t l h r r.blocks
  cut_total w r a t l =
      let n : ℕ = min a.at w.blocks in
      let b : r.blocks ≡ n = ap (λ v. v.blocks) a.is in
      inside_cut t l h w n w.blocks (omega arith) (λ j from to. a.past j (omega arith) to)
      ∙ sym (ap (λ v. inside t l h v v.blocks) a.is ∙ inside_shortened t l h w a.at n)

  cut_due : (w r : Rest) → CutAt h w r → DueBy h r
  cut_due w r a j from to = subst (λ v. deadline_of v j ≤ h) (sym a.is) (a.inside j to)

  cut_lists : (ws rs : List Rest) → length ws ≡ length rs → ((k : ℕ) → k < length ws → CutAt h (get_or ws k done) (get_or rs k done))
      → ((t l : ℕ) → total t l h ws ≡ total t l h rs) × AllByRecursion (DueBy h) rs
  cut_lists [] [] e f = ((λ t l. refl), tt)
  cut_lists [] (r ∷ rs) e f = absurd (omega arith)
  cut_lists (w ∷ ws) [] e f = absurd (omega arith)
  cut_lists (w ∷ ws) (r ∷ rs) e f =
      let a : CutAt h w r = f 0 (omega arith) in
      let b = cut_lists ws rs (omega arith) (λ k lt. f (suc k) (omega arith)) in
      ((λ t l. omega (arith, cut_total w r a t l, b.0 t l)), (cut_due w r a, b.1))

  -- each lane is cut
  pub cut_each : (ws rs : List Rest) → length ws ≡ 8 → length rs ≡ 8 → ((k : ℕ) → k < 8 → CutAt h (get_or ws k done) (get_or rs k done)) → CutTo h ws rs
  cut_each ws rs m n f = (let b = cut_lists ws rs (omega arith) (λ k lt. f k (omega arith)) in record { eight = n; same = b.0; due = b.1 })

  -- the lanes before i are cut, the others as they were
  pub record CutBefore (ws rs : List Rest) (i : ℕ) : Type 0 where
    pub eight : length rs ≡ 8
    pub cut : (k : ℕ) → k < i → CutAt h (get_or ws k done) (get_or rs k done)
    pub same : (k : ℕ) → i ≤ k → get_or rs k done ≡ get_or ws k done

  pub cut_begins : (ws : List Rest) → length ws ≡ 8 → CutBefore ws ws 0
  cut_begins ws n = record { eight = n; cut = λ k lt. absurd (omega arith); same = λ k le. refl }

  pub cut_next : (ws rs : List Rest) (i : ℕ) (r : Rest) → i < 8 → CutBefore ws rs i → CutAt h (get_or rs i done) r → CutBefore ws (set rs i r) (i + 1)
  cut_next ws rs i r few b a = record {
    eight = length-set rs i r ∙ b.eight;
    cut = λ k lt. elim (cases_eq k i) [
      | inl e ↦
          let here : CutAt h (get_or ws i done) r = subst (λ w. CutAt h w r) (b.same i (omega arith)) a in
          subst (λ j. CutAt h (get_or ws j done) (get_or (set rs i r) j done)) (sym e) (subst (CutAt h (get_or ws i done)) (sym (get_or-set_same rs i r done (omega (arith, b.eight)))) here)
      | inr e ↦ subst (CutAt h (get_or ws k done)) (sym (get_or-set_other rs i k r done e)) (b.cut k (omega arith))
    ];
    same = λ k le. get_or-set_other rs i k r done (omega arith) ∙ b.same k (omega arith);
  }
