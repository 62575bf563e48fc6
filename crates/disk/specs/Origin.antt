-- Where the fault of an answer arose.
use Rattle.std.specs.Prelude.{◌≡◌, ℕ, ◌≤◌, cond, IfSome, Result, ◌==◌}
use Rattle.refusal.specs.Told.{refusal_number, refusal_fault, answer_fault}
use Rattle.refusal.specs.declared.Fault.{Fault}
use Rattle.refusal.specs.declared.Refusal.{Refusal}

-- a fault that arose at the disk of a tag, at the block as called for there
abbrev pub Arose : ℕ → ℕ → Fault → Type 0
Arose tag b f = (f.tag ≡ tag) × (f.block ≡ b)

-- if the answer comes with a fault, it is one of P
abbrev pub ComesFrom : {T : Type 0} → (Fault → Type 0) → Result T Refusal → Type 0
ComesFrom P r = IfSome (answer_fault r) P

-- e refuses a read of block b into len bytes before anything is read: 7 for memory of another length than 64, and else
-- 14 for a block that a disk of n blocks has not, with a fault of the disk's own
pub record Unreadable (tag n b len : ℕ) (e : Refusal) : Type 0 where
  pub number : refusal_number e ≡ cond (len == 64) 14 7
  pub beyond : len ≡ 64 → n ≤ b
  pub origin : IfSome (refusal_fault e) (Arose tag b)
