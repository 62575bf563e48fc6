-- The first of the requests of all lanes that are due is tick's choice.
use Rattle.std.proofs.Common.{◌≡◌, ℕ, ◌+◌, ◌<◌, ◌≤◌, true, false, List, [], ◌∷◌, length, Some, None, Option, sym, refl, ap, ◌∙◌, subst, inl, inr, arith}
use Rattle.std.specs.List.Sorted.{IsPermutation}
use Rattle.std.specs.List.{ContainsAt as Has}
use Rattle.std.proofs.ByRecursion.{all-has, has_append_right, all_shuffled, has_shuffled}
use Rattle.std.proofs.lemmas.List.{get_or_past}
use Rattle.std.proofs.lemmas.Bool.{both_ways, cases_Bool, cases_eq, cases_lt}
use Rattle.history.specs.declared.Lane.{Lane}
use Rattle.history.specs.Bench.{lane_in, lane_at}
use Rattle.history.specs.Calls.{due, next_deadline, choice}
use Rattle.history.specs.Requests.{Requested, Soonest}
use Rattle.history.proofs.Choosing.{choice_is, choice_none}

due_inside : (t : ℕ) (ls : List (Option Lane)) (g : ℕ) → due t (lane_at ls g) ≡ true → g < length ls
due_inside t ls g e = elim (cases_lt g (length ls)) [
  | inl lt ↦ lt
  | inr ge ↦ absurd (both_ways false refl (subst (λ o. due t (lane_in o) ≡ true) (get_or_past ls g None ge) e))
]

module _ {X : Type 0} (deadline head : X → ℕ) (t : ℕ) (ls : List (Option Lane)) where
  abbrev Of : ℕ → List X → Type 0
  Of n xs = Requested deadline head t ls n xs

  pub requested_none : Of 0 []
  requested_none = record { each = tt; every = λ g lt. absurd (omega arith) }

  -- one head more, that is due or not
  pub requested_more : (n : ℕ) (x : X) (xs : List X) → due t (lane_at ls n) ≡ true → head x ≡ n → deadline x ≡ next_deadline (lane_at ls n) → Of n xs → Of (n + 1) (x ∷ xs)
  requested_more n x xs is at by r = record {
    each = ((subst (λ h. due t (lane_at ls h) ≡ true) (sym at) is, by ∙ ap (λ h. next_deadline (lane_at ls h)) (sym at)), r.each);
    every = λ g lt e. elim (cases_eq g n) [
      | inl q ↦ (x, (0, omega arith, λ d. refl), at ∙ sym q)
      | inr q ↦ (let p = r.every g (omega arith) e in (p.0, has_append_right (x ∷ []) xs p.0 p.1, p.2))
    ];
  }

  pub requested_past : (n : ℕ) (xs : List X) → due t (lane_at ls n) ≡ false → Of n xs → Of (n + 1) xs
  requested_past n xs none r = record {
    each = r.each;
    every = λ g lt e. elim (cases_eq g n) [
      | inl q ↦ absurd (both_ways _ none (subst (λ h. due t (lane_at ls h) ≡ true) q e))
      | inr q ↦ r.every g (omega arith) e
    ];
  }

  pub requested_shuffled : (n : ℕ) (xs ys : List X) → IsPermutation xs ys → Of n xs → Of n ys
  requested_shuffled n xs ys s r = record {
    each = all_shuffled _ xs ys s r.each;
    every = λ g lt e. let p = r.every g lt e in (p.0, has_shuffled xs ys p.0 s p.1, p.2);
  }

  pub requested_first : (n : ℕ) (xs : List X) (x : X) → length ls ≤ n → Of n xs → Has xs x → Soonest deadline head xs x → choice t ls ≡ Some (head x, deadline x)
  requested_first n xs x all r h first =
      let own = all-has _ xs x r.each h in
      subst (λ d. choice t ls ≡ Some (head x, d)) (sym own.1) (choice_is t ls (head x) own.0 (λ g e.
      let p = r.every g (omega (arith, due_inside t ls g e)) e in
      let q = all-has _ xs p.0 first p.1 in
      let its = (all-has _ xs p.0 r.each p.1).1 ∙ ap (λ h. next_deadline (lane_at ls h)) p.2 in
      elim (cases_lt (next_deadline (lane_at ls (head x))) (next_deadline (lane_at ls g))) [
        | inl lt ↦ inl lt
        | inr ge ↦ (let same : deadline x ≡ deadline p.0 = omega (arith, own.1, q.0) in inr (omega (arith, own.1), omega (arith, q.1 same, p.2)))
      ]))

  pub requested_nothing : (n : ℕ) → length ls ≤ n → Of n [] → choice t ls ≡ None
  requested_nothing n all r = choice_none t ls (λ g. elim (cases_Bool (due t (lane_at ls g))) [
    | inl e ↦ (let h = (r.every g (omega (arith, due_inside t ls g e)) e).1 in absurd (omega (arith, h.1)))
    | inr e ↦ e
  ])
