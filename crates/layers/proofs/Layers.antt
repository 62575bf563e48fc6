-- A layer with the size and bytes of the disk below is a disk.
use Rattle.std.proofs.Common.{◌≡◌, ℕ, ◌<◌, List, length, ap, ◌∙◌, arith}
use Rattle.disk.specs.Meaning.{Block, block_at}
use Rattle.layers.specs.Layers.{SameBytes}

pub same_bytes : (m m' : List Block) → length m' ≡ length m → ((y : ℕ) → y < length m → (block_at m' y).bytes ≡ (block_at m y).bytes) → SameBytes m m'
same_bytes m m' l b = record { size = l; bytes = b; proper = λ p. record { some = omega (arith, p.some); few = omega (arith, p.few); whole = λ y h. let q : y < length m = omega arith in ap length (b y q) ∙ p.whole y q } }
