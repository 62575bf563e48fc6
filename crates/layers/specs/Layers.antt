-- What every layer leaves of the disk below.
use Rattle.std.specs.Prelude.{◌≡◌, ℕ, ◌<◌, List, length}
use Rattle.disk.specs.Meaning.{Block, block_at, Proper}

-- the disk m', a layer over m, has its size and its bytes, and so is a disk where m is one
pub record SameBytes (m m' : List Block) : Type 0 where
  pub size : length m' ≡ length m
  pub bytes : (y : ℕ) → y < length m → (block_at m' y).bytes ≡ (block_at m y).bytes
  pub proper : Proper m → Proper m'
