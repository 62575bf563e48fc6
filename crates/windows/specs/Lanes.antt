-- Attempts that come in lanes: block i of a lane asks for owed i attempts, each with the window from release i to
-- deadline i.
use Rattle.std.specs.Prelude.{ℕ, zero, suc, ◌+◌, ◌-◌, ◌<◌, ◌≤◌, cond, ◌&&◌, List, [], ◌∷◌, ◌++◌, replicate, ◌==◌, nat_le}
use Rattle.std.specs.List.{AllByRecursion}
use Rattle.windows.specs.Windows.{Window, Assigned, Rule}

pub record Lane : Type 0 where
  pub blocks : ℕ
  pub release : ℕ → ℕ
  pub deadline : ℕ → ℕ
  pub owed : ℕ → ℕ

abbrev pub window : Lane → ℕ → Window
window a i = record { start = a.release i; end = a.deadline i }

-- the attempts of the first n blocks, and of all lanes, as a list of windows
abbrev pub up_to : Lane → ℕ → List Window
up_to a zero = []
up_to a (suc i) = replicate (a.owed i) (window a i) ++ up_to a i

abbrev pub attempts : List Lane → List Window
attempts [] = []
attempts (a ∷ as') = up_to a a.blocks ++ attempts as'

-- how many attempts lie in the span (l, h), block by block
abbrev pub asked : ℕ → ℕ → Lane → ℕ → ℕ
asked l h a zero = 0
asked l h a (suc i) = cond (nat_le l (a.release i) && nat_le (a.deadline i) h) (a.owed i) 0 + asked l h a i

abbrev pub demand : ℕ → ℕ → List Lane → ℕ
demand l h [] = 0
demand l h (a ∷ as') = asked l h a a.blocks + demand l h as'

-- one attempt of block i is made
abbrev pub spend : Lane → ℕ → Lane
spend a i = record { blocks = a.blocks; release = a.release; deadline = a.deadline; owed = λ j. cond (j == i) (a.owed j - 1) (a.owed j) }

-- nothing that is released by t, in any lane, has its deadline before h
abbrev pub NoneSooner : ℕ → ℕ → List Lane → Type 0
NoneSooner t h as' = AllByRecursion (λ b. (j : ℕ) → j < b.blocks → 0 < b.owed j → b.release j ≤ t → h ≤ b.deadline j) as'

-- LAWS

-- Hall over lanes: no span is asked for more slots than it has exactly when every attempt of every lane can be assigned.
abbrev pub LanesFitExactlyWhenAssigned : Type 0
LanesFitExactlyWhenAssigned = (as' : List Lane)
    → (((l h : ℕ) → l ≤ h → l + demand l h as' ≤ h) → (ss : List ℕ) × Assigned (attempts as') ss)
    × ((ss : List ℕ) → Assigned (attempts as') ss → (l h : ℕ) → l ≤ h → l + demand l h as' ≤ h)

-- The rule over lanes: one attempt of a released block, than whose deadline no released block has an earlier one.
abbrev pub EarliestBlockIsTheRule : Type 0
EarliestBlockIsTheRule = (t i : ℕ) (front back : List Lane) (a : Lane) → i < a.blocks → 0 < a.owed i → a.release i ≤ t → t < a.deadline i
    → NoneSooner t (a.deadline i) (front ++ a ∷ back) → Rule t (attempts (front ++ a ∷ back)) (attempts (front ++ spend a i ∷ back))
