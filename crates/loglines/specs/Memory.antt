-- Memory after a write.
use Rattle.std.specs.Prelude.{◌≡◌, ℕ, ◌+◌, List, ◌++◌, length, take, drop}

-- bytes bs written over memory m from `at` on; the rest as it was
unfoldable pub put : List ℕ → ℕ → List ℕ → List ℕ
put m at bs = take at m ++ (bs ++ drop (at + length bs) m)

-- n is memory m, as long as before, with bs written from `at` on, up to `end`
pub record Wrote (m : List ℕ) (at : ℕ) (bs : List ℕ) (end : ℕ) (n : List ℕ) : Type 0 where
  pub ends : end ≡ at + length bs
  pub memory : n ≡ put m at bs
  pub room : length n ≡ length m
