-- What a disk means when each read makes up to m calls below.
use Rattle.std.specs.Prelude.{ℕ, ◌/◌, ◌≤◌, List, map}
use Rattle.disk.specs.Meaning.{Block, ToCome, failures, dead}

-- calls to a read: 1 to 4
abbrev pub TriesFit : ℕ → Type 0
TriesFit m = (1 ≤ m) × (m ≤ 4)

-- f failures below are f div m; dead stays dead
abbrev pub divided : ℕ → ToCome → ToCome
divided m (failures f) = failures (f / m)
divided m dead = dead

abbrev pub retried : ℕ → Block → Block
retried m k = record { bytes = k.bytes; coming = divided m k.coming }

unfoldable pub retry_meaning : ℕ → List Block → List Block
retry_meaning m blocks = map (retried m) blocks
