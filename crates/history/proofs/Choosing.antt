-- Tick's choice is the block that the rule of the earliest deadline serves.
use Rattle.std.proofs.Common.{◌≡◌, ℕ, zero, suc, ◌+◌, ◌-◌, ◌*◌, ◌<◌, ◌≤◌, Bool, true, false, cond, ltb, ◌⊎◌, List, [], ◌∷◌, length, get_or, Some, None, Option, refl, inl, inr, mul-le-mul_right, arith, MatchOption}
use Rattle.std.proofs.lemmas.Bool.{both_ways, cases_lt, cond_both, ltb-true, ltb-false}
use Rattle.schedule.specs.Choice.{Choice}
use Rattle.schedule.specs.Orders.{deadline, release, owed}
use Rattle.schedule.specs.declared.Timing.{Timing}
use Rattle.history.specs.declared.Lane.{Lane}
use Rattle.history.specs.Bench.{lane_in, lane_at, work}
use Rattle.history.specs.Calls.{due, next_deadline, sooner, later, choice}
use Rattle.history.specs.Laws.{ready, ChoiceIsTheRule}
use Rattle.history.proofs.Charges.{charge}

pub deadline_up : (o : Timing) (i j : ℕ) → i ≤ j → deadline o i ≤ deadline o j
deadline_up o i j e = let m : i * o.period ≤ j * o.period = mul-le-mul_right o.period e in omega arith

release_up : (o : Timing) (a i j : ℕ) → a ≤ o.start → i ≤ j → release o a i ≤ release o a j
release_up o a i j early e =
    let up = deadline_up o (i - o.depth + 1) (j - o.depth + 1) (omega arith) in
    cond_both (ltb i o.depth) a (deadline o (i - o.depth + 1)) (λ x. x ≤ release o a j)
    (λ _. cond_both (ltb j o.depth) a (deadline o (j - o.depth + 1)) (λ x. a ≤ x) (λ _. omega arith) (λ _. omega arith))
    (λ p. cond_both (ltb j o.depth) a (deadline o (j - o.depth + 1)) (λ x. deadline o (i - o.depth + 1) ≤ x)
    (λ q. absurd (omega (arith, ltb-false i o.depth p, ltb-true j o.depth q))) (λ _. up))

-- where a block of a lane is charged and released, its lowest unread block is due, and no later
pub due_first : (t j : ℕ) (l : Lane) → l.admitted ≤ l.order.timing.start → j < (charge l).blocks → 0 < owed (work l) j → release l.order.timing l.admitted j ≤ t
    → (due t l ≡ true) × (next_deadline l ≤ deadline l.order.timing j)
due_first t j l early inside some rel =
    let from : l.next ≤ j = grind arith in
    let r = release_up l.order.timing l.admitted l.next j early from in
    (grind arith, deadline_up l.order.timing l.next j from)

abbrev pub Idle : ℕ → List (Option Lane) → Type 0
Idle t ls = (g : ℕ) → due t (lane_in (get_or ls g None)) ≡ false

-- place and deadline of a lane that is due; none that is due has an earlier deadline, and none before it the same
pub record Chosen (t : ℕ) (ls : List (Option Lane)) (c : ℕ × ℕ) : Type 0 where
  pub place : c.0 < length ls
  pub is_due : due t (lane_in (get_or ls c.0 None)) ≡ true
  pub is : next_deadline (lane_in (get_or ls c.0 None)) ≡ c.1
  pub first : (g : ℕ) → due t (lane_in (get_or ls g None)) ≡ true
      → (c.1 ≤ next_deadline (lane_in (get_or ls g None))) × (c.1 ≡ next_deadline (lane_in (get_or ls g None)) → c.0 ≤ g)

by_place : (P : ℕ → Type 0) → P 0 → ((g : ℕ) → P (suc g)) → (g : ℕ) → P g
by_place P here there zero = here
by_place P here there (suc g) = there g

module _ (t : ℕ) (o : Option Lane) (ls : List (Option Lane)) where
  abbrev First : ℕ → ℕ → Option Lane → ℕ → Type 0
  First k d x g = due t (lane_in x) ≡ true → (d ≤ next_deadline (lane_in x)) × (d ≡ next_deadline (lane_in x) → k ≤ g)

  -- what is chosen stands first, or one later
  chosen_here : due t (lane_in o) ≡ true → ((g : ℕ) → due t (lane_in (get_or ls g None)) ≡ true → next_deadline (lane_in o) ≤ next_deadline (lane_in (get_or ls g None)))
      → Chosen t (o ∷ ls) (0, next_deadline (lane_in o))
  chosen_here e rest = record {
    place = omega arith;
    is_due = e;
    is = refl;
    first = by_place (λ g. First 0 (next_deadline (lane_in o)) (get_or (o ∷ ls) g None) g) (λ _. (omega arith, λ _. omega arith)) (λ g yes. (rest g yes, λ _. omega arith));
  }

  chosen_later : (c : ℕ × ℕ) → Chosen t ls c → (due t (lane_in o) ≡ true → c.1 < next_deadline (lane_in o)) → Chosen t (o ∷ ls) (suc c.0, c.1)
  chosen_later c q past = record {
    place = omega (arith, q.place);
    is_due = q.is_due;
    is = q.is;
    first = by_place (λ g. First (suc c.0) c.1 (get_or (o ∷ ls) g None) g) (λ yes. let p = past yes in (omega arith, λ e. absurd (omega arith)))
        (λ g yes. ((q.first g yes).0, λ e. omega (arith, (q.first g yes).1 e)));
  }

  chosen_more : (c : Option (ℕ × ℕ)) (b : Bool) → due t (lane_in o) ≡ b → MatchOption c (Idle t ls) (Chosen t ls)
      → MatchOption (cond b (sooner (next_deadline (lane_in o)) c) (later c)) (Idle t (o ∷ ls)) (Chosen t (o ∷ ls))
  chosen_more None true e q = chosen_here e (λ g yes. absurd (both_ways _ (q g) yes))
  chosen_more None false e q = by_place (λ g. due t (lane_in (get_or (o ∷ ls) g None)) ≡ false) e q
  chosen_more (Some c) true e q =
      let d : ℕ = next_deadline (lane_in o) in
      cond_both (ltb c.1 d) (Some (suc c.0, c.1)) (Some (0, d)) (λ r. MatchOption r (Idle t (o ∷ ls)) (Chosen t (o ∷ ls)))
      (λ p. chosen_later c q (λ _. ltb-true c.1 d p))
      (λ p. chosen_here e (λ g yes. omega (arith, ltb-false c.1 d p, (q.first g yes).0)))
  chosen_more (Some c) false e q = chosen_later c q (λ yes. absurd (both_ways _ e yes))

pub chosen : (t : ℕ) (ls : List (Option Lane)) → MatchOption (choice t ls) (Idle t ls) (Chosen t ls)
unfolding choice
chosen t [] = λ g. refl
chosen t (o ∷ ls) = chosen_more t o ls (choice t ls) (due t (lane_in o)) refl (chosen t ls)

-- the lane whose lowest unread block is released and has the earliest deadline, ties to the lower head, is the choice
module _ (t : ℕ) (ls : List (Option Lane)) where
  abbrev dl : ℕ → ℕ
  dl k = next_deadline (lane_at ls k)

  pub choice_is : (k : ℕ) → due t (lane_at ls k) ≡ true
      → ((g : ℕ) → due t (lane_at ls g) ≡ true → (dl k < dl g) ⊎ ((dl k ≡ dl g) × (k ≤ g))) → choice t ls ≡ Some (k, dl k)
  choice_is k mine first = same (choice t ls) (chosen t ls)
    where
      same : (c : Option (ℕ × ℕ)) → MatchOption c (Idle t ls) (Chosen t ls) → c ≡ Some (k, dl k)
      same None q = absurd (both_ways _ (q k) mine)
      same (Some (j, d)) q = elim (first j q.is_due) [
        | inl p ↦ absurd (omega (arith, q.is, (q.first k mine).0))
        | inr p ↦
            let e : d ≡ dl k = omega (arith, q.is, p.0) in
            let i : j ≡ k = omega (arith, p.1, (q.first k mine).1 e) in
            λ x. Some (i x, e x)
      ]

  pub choice_none : ((g : ℕ) → due t (lane_at ls g) ≡ false) → choice t ls ≡ None
  choice_none none = same (choice t ls) (chosen t ls)
    where
      same : (c : Option (ℕ × ℕ)) → MatchOption c (Idle t ls) (Chosen t ls) → c ≡ None
      same None q = refl
      same (Some (j, d)) q = absurd (both_ways _ (none j) q.is_due)

  chosen_rule : (c : ℕ × ℕ) → Chosen t ls c → Choice t (length ls) (ready t ls) dl c.0
  chosen_rule (k, d) q = record {
    head = q.place;
    released = let is = q.is_due in grind arith;
    earliest = λ j in' rel.
        let its : due t (lane_at ls j) ≡ true = grind arith in
        let f = q.first j its in
        elim (cases_lt (dl k) (dl j)) [ inl lt ↦ inl lt | inr ge ↦ (let e : d ≡ dl j = omega (arith, q.is, f.0) in inr (omega (arith, q.is), f.1 e)) ];
  }

  not_ready : (j : ℕ) → due t (lane_at ls j) ≡ false → t < ready t ls j
  not_ready j none = grind arith

pub choice_law : ChoiceIsTheRule
choice_law t ls = by (choice t ls) (chosen t ls)
  where
    by : (c : Option (ℕ × ℕ)) → MatchOption c (Idle t ls) (Chosen t ls) → MatchOption c ((j : ℕ) → t < ready t ls j) (λ c. Choice t (length ls) (ready t ls) (dl t ls) c.0)
    by None q = λ j. not_ready t ls j (q j)
    by (Some c) q = chosen_rule t ls c q
