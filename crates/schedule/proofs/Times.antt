-- Releases and deadlines do not fall from block to block.
use Rattle.std.proofs.Common.{ℕ, ◌+◌, ◌<◌, ◌≤◌, inl, inr, mul-le-mul_right, mul-le-mul_left, arith}
use Rattle.std.proofs.lemmas.Bool.{cases_lt}
use Rattle.schedule.specs.declared.rest.Rest.{Rest}
use Rattle.schedule.specs.Rests.{release_of, deadline_of, ready, due}

pub deadline_mono : (w : Rest) (i j : ℕ) → i ≤ j → deadline_of w i ≤ deadline_of w j
deadline_mono w i j e = omega (arith, mul-le-mul_right {m = i} {n = j} w.period e)

pub deadline_end : (w : Rest) (j : ℕ) → j ≤ w.blocks → deadline_of w j ≤ 1000000
deadline_end w j e = omega (arith, w.ends, deadline_mono w j w.blocks e)

-- past the early blocks the lead reaches back to the admission at most
pub lead_back : (w : Rest) (j : ℕ) → w.early ≤ j → w.admitted + w.lead ≤ deadline_of w j
lead_back w j e = omega (arith, w.lead_within, deadline_mono w w.early j e)

pub release_mono : (w : Rest) (i j : ℕ) → i ≤ j → release_of w i ≤ release_of w j
release_mono w i j e =
    let g : deadline_of w i ≤ deadline_of w j = deadline_mono w i j e in
    elim (cases_lt j w.early) [
      | inl p ↦ grind arith
      | inr p ↦ (let b : w.admitted + w.lead ≤ deadline_of w j = lead_back w j p in grind arith)
    ]

pub release_deadline : (w : Rest) (j : ℕ) → release_of w j ≤ deadline_of w j
release_deadline w j = elim (cases_lt j w.early) [
  | inl p ↦ (let g : w.admitted ≤ w.start = w.admitted_first in grind arith)
  | inr p ↦ grind arith
]

pub release_end : (w : Rest) (j : ℕ) → j < w.blocks → release_of w j ≤ 1000000
release_end w j e = omega (arith, release_deadline w j, deadline_end w j (omega arith))

pub ready_first : (w : Rest) (j : ℕ) → w.next ≤ j → j < w.blocks → ready w ≤ release_of w j
ready_first w j from to =
    let g : release_of w w.next ≤ release_of w j = release_mono w w.next j from in
    grind arith

pub due_first : (w : Rest) (j : ℕ) → w.next ≤ j → j < w.blocks → due w ≤ deadline_of w j
due_first w j from to =
    let g : deadline_of w w.next ≤ deadline_of w j = deadline_mono w w.next j from in
    grind arith

pub due_most : (w : Rest) → due w ≤ 2000000
due_most w = elim (cases_lt w.next w.blocks) [
  | inl p ↦ (let g : deadline_of w w.next ≤ 1000000 = deadline_end w w.next (omega arith) in grind arith)
  | inr p ↦ grind arith
]

pub blocks_most : (w : Rest) → w.blocks ≤ 1000000
blocks_most w = omega (arith, w.ends, mul-le-mul_left {m = 1} {n = w.period} w.blocks w.period_some)
