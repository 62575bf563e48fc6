-- The deadline-driven rule's choice.
use Rattle.std.specs.Prelude.{◌≡◌, ℕ, ◌<◌, ◌≤◌, ◌⊎◌}

-- at slot t, among n heads, where release j and deadline j are those of the lowest unread block of head j: head k's
-- block is released, and of the released ones none has an earlier deadline, nor the same one on a lower head
pub record Choice (t n : ℕ) (release deadline : ℕ → ℕ) (k : ℕ) : Type 0 where
  pub head : k < n
  pub released : release k ≤ t
  pub earliest : (j : ℕ) → j < n → release j ≤ t → (deadline k < deadline j) ⊎ ((deadline k ≡ deadline j) × (k ≤ j))

-- The rule leaves no choice: at most one head is the rule's.
abbrev pub OneChoice : Type 0
OneChoice = (t n : ℕ) (release deadline : ℕ → ℕ) (j k : ℕ) → Choice t n release deadline j → Choice t n release deadline k → j ≡ k
