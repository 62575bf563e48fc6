-- Read requests, of any kind that has a deadline and a head, and what makes their first one tick's choice.
use Rattle.std.specs.Prelude.{◌≡◌, ℕ, ◌<◌, ◌≤◌, true, List, Option}
use Rattle.std.specs.List.{ContainsAt as Has, AllByRecursion}
use Rattle.history.specs.declared.Lane.{Lane}
use Rattle.history.specs.Bench.{lane_at}
use Rattle.history.specs.Calls.{due, next_deadline}

module _ {X : Type 0} (deadline head : X → ℕ) where
  -- xs are the requests of the lanes of heads below n that are due at slot t
  pub record Requested (t : ℕ) (ls : List (Option Lane)) (n : ℕ) (xs : List X) : Type 0 where
    pub each : AllByRecursion (λ x. (due t (lane_at ls (head x)) ≡ true) × (deadline x ≡ next_deadline (lane_at ls (head x)))) xs
    pub every : (g : ℕ) → g < n → due t (lane_at ls g) ≡ true → (x : X) × Has xs x × (head x ≡ g)

  -- no request of xs has an earlier deadline than x, nor the same one on a lower head
  abbrev pub Soonest : List X → X → Type 0
  Soonest xs x = AllByRecursion (λ y. (deadline x ≤ deadline y) × (deadline x ≡ deadline y → head x ≤ head y)) xs
