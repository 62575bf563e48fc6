-- The first released lane in the rule's order is the rule's choice, and what that says of every block that is left.
use Rattle.std.proofs.Common.{◌≡◌, ℕ, ◌+◌, ◌*◌, ◌/◌, ◌%◌, ◌<◌, ◌≤◌, ◌⊎◌, List, map, length, get_or, ap, ◌∙◌, inl, inr, arith}
use Rattle.std.specs.List.{AllByRecursion}
use Rattle.std.proofs.ByRecursion.{All-from_get_or, All-weaker}
use Rattle.std.proofs.lemmas.List.{get_or-map}
use Rattle.std.proofs.lemmas.Bool.{cases_lt, cases_eq}
use Rattle.schedule.specs.declared.rest.Rest.{Rest}
use Rattle.schedule.specs.Choice.{OneChoice}
use Rattle.schedule.specs.Rests.{release_of, deadline_of, ready, due, OverAt, done}
use Rattle.schedule.specs.Replay.{InOrder, Passed, Chosen}
use Rattle.schedule.proofs.Times.{release_deadline, release_end, ready_first, due_first}
use Rattle.schedule.proofs.Totals.{total_le, total_none, Into}
use Rattle.schedule.proofs.Serving.{Calm}
use Rattle.schedule.proofs.Queue.{ticket_head}

pub one_choice : OneChoice
one_choice t n r d j k a b = elim (a.earliest k b.head b.released) [
  | inl p ↦ elim (b.earliest j a.head a.released) [ inl q ↦ absurd (omega arith) | inr q ↦ absurd (omega (arith, q.0)) ]
  | inr p ↦ elim (b.earliest j a.head a.released) [ inl q ↦ absurd (omega (arith, p.0)) | inr q ↦ omega (arith, p.1, q.1) ]
]

module _ (t : ℕ) (lanes : List Rest) (rs os : List ℕ) (eight : length lanes ≡ 8) (releases : rs ≡ map ready lanes) (ord : InOrder 0 lanes os) where
  pub release_at : (j : ℕ) → j < 8 → get_or rs j 0 ≡ ready (get_or lanes j done)
  release_at j lt = ap (λ x. get_or x j 0) releases ∙ get_or-map ready lanes j done 0 (omega arith)

  -- the ticket at a place, taken apart
  pub ticket_due : (p : ℕ) → p < 8 → get_or os p 0 / 8 ≡ due (get_or lanes (get_or os p 0 % 8) done)
  ticket_due p lt =
      let d : ℕ = due (get_or lanes (get_or os p 0 % 8) done) in
      let n : get_or os p 0 ≡ d * 8 + get_or os p 0 % 8 = (ord.names p (omega arith) lt).1 in
      omega arith

  module _ (p coming : ℕ) (lt : p < 8) (a : Passed t rs os p coming) (rel : get_or rs (get_or os p 0 % 8) 0 ≤ t) where
    abbrev k : ℕ
    k = get_or os p 0 % 8

    -- where lane j stands
    stands : (j : ℕ) → j < 8 → (coming ≤ ready (get_or lanes j done)) ⊎ ((due (get_or lanes k done) < due (get_or lanes j done)) ⊎ ((due (get_or lanes k done) ≡ due (get_or lanes j done)) × (k ≤ j)))
    stands j hi =
        let h = ord.holds j (omega arith) hi in
        let i : ℕ = h.0 in
        let z : get_or os i 0 % 8 ≡ j = ap (λ y. y % 8) h.3 ∙ ticket_head (due (get_or lanes j done)) j hi in
        let n : get_or os p 0 ≡ due (get_or lanes k done) * 8 + k = (ord.names p (omega arith) lt).1 in
        elim (cases_lt i p) [
          | inl e ↦ inl (omega (arith, a.later i e, ap (λ y. get_or rs y 0) z, release_at j hi))
          | inr e ↦
              let m : get_or os p 0 ≤ get_or os i 0 = elim (cases_eq p i) [ inl f ↦ (let g = ap (λ y. get_or os y 0) f in omega arith) | inr f ↦ omega (arith, ord.rises p i (omega arith) (omega arith) h.2) ] in
              inr (elim (cases_lt (due (get_or lanes k done)) (due (get_or lanes j done))) [
                | inl f ↦ inl f
                | inr f ↦ inr (omega (arith, h.3), omega (arith, h.3))
              ])
        ]

    pub chosen : Chosen t lanes k coming
    chosen = record {
      choice = record {
        head = omega arith;
        released = omega (arith, release_at k (omega arith));
        earliest = λ j hi e. elim (stands j hi) [ inl f ↦ absurd (omega (arith, a.ahead)) | inr f ↦ f ];
      };
      ahead = a.ahead;
      capped = a.capped;
      later = λ j hi e f. elim (stands j hi) [
        | inl g ↦ g
        | inr g ↦ elim g [ inl h ↦ absurd (omega arith) | inr h ↦ absurd (omega (arith, h.0)) ]
      ];
    }

module _ (t k coming : ℕ) (ws : List Rest) (eight : length ws ≡ 8) (c : Chosen t ws k coming) where
  abbrev stop : ℕ
  stop = due (get_or ws k done)

  -- a lane, by whether it is released
  each : (P : Rest → Type 0)
      → ((w : Rest) → (ready w ≤ t → stop ≤ due w) → (t < ready w → due w < stop → coming ≤ ready w) → P w) → AllByRecursion P ws
  each P f = All-from_get_or P ws done (λ j hi.
      f (get_or ws j done)
      (λ e. elim (c.choice.earliest j (omega arith) e) [ inl g ↦ omega arith | inr g ↦ omega (arith, g.0) ])
      (c.later j (omega arith)))

  pub calm : (u : ℕ) → u ≤ coming → AllByRecursion (Calm u stop) ws
  calm u e = each (Calm u stop) (λ w sooner later j from to rel.
      elim (cases_lt t (ready w)) [
        | inl p ↦ elim (cases_lt (due w) stop) [
          | inl q ↦ absurd (omega (arith, later p q, ready_first w j from to))
          | inr q ↦ omega (arith, due_first w j from to)
        ]
        | inr p ↦ omega (arith, sooner p, due_first w j from to)
      ])

  -- no block is due before stop, if that comes before the next release
  none_sooner : stop < coming → AllByRecursion (λ w. (j : ℕ) → w.next ≤ j → j < w.blocks → stop ≤ deadline_of w j) ws
  none_sooner e = each (λ w. (j : ℕ) → w.next ≤ j → j < w.blocks → stop ≤ deadline_of w j) (λ w sooner later j from to.
      elim (cases_lt t (ready w)) [
        | inl p ↦ elim (cases_lt (due w) stop) [
          | inl q ↦ omega (arith, later p q, ready_first w j from to, release_deadline w j)
          | inr q ↦ omega (arith, due_first w j from to)
        ]
        | inr p ↦ omega (arith, sooner p, due_first w j from to)
      ])

  pub none_before : stop < coming → (h : ℕ) → h < stop → OverAt t h ws → ⊥
  none_before e h lt o =
      omega (arith, o.over, o.within, total_none t o.low h ws (All-weaker _ _ (λ w f j from to _. omega (arith, f j from to)) ws (none_sooner e)))

-- until slot u no lane is released
module _ (t u : ℕ) (ws : List Rest) (le : t ≤ u) (quiet : (k : ℕ) → k < length ws → u ≤ ready (get_or ws k done)) where
  idle : AllByRecursion (λ w. (j : ℕ) → w.next ≤ j → j < w.blocks → u ≤ release_of w j) ws
  idle = All-from_get_or _ ws done (λ k hi j from to.
      omega (arith, quiet k hi, ready_first (get_or ws k done) j from to))

  pub idle_on : (h : ℕ) → OverAt t h ws → OverAt u h ws
  idle_on h o = record {
    low = o.low;
    within = o.within;
    over = omega (arith, o.over, total_le t o.low h u o.low h ws (All-weaker _ (Into t o.low h u o.low h) (λ w f j from to p q. (omega (arith, f j from to), q)) ws idle));
  }

  pub idle_back : (h : ℕ) → OverAt u h ws → OverAt t h ws
  idle_back h o = record {
    low = o.low;
    within = o.within;
    over = omega (arith, o.over, total_le u o.low h t o.low h ws (All-weaker _ (Into u o.low h t o.low h) (λ w f j from to p q. (omega (arith, f j from to), q)) ws idle));
  }

  -- and nothing is left if that is past every release
  pub all_done : u ≡ 2000000 → (h : ℕ) → OverAt t h ws → ⊥
  all_done e h o =
      omega (
        arith,
        o.over,
        o.within,
        total_none t o.low h ws (All-from_get_or _ ws done (λ k hi j from to _.
            absurd (omega (arith, quiet k hi, ready_first (get_or ws k done) j from to, release_end (get_or ws k done) j to)))),
      )
