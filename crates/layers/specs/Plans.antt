-- What a disk means under a plan: where p y are the failures planned for block y, they come before those below.
use Rattle.std.specs.Prelude.{ℕ, ◌+◌, List, map, length}
use Rattle.std.specs.List.{range_with_len}
use Rattle.disk.specs.Meaning.{Block, ToCome, failures, dead, block_at}

-- one after the other; dead on either side is dead
abbrev pub added : ToCome → ToCome → ToCome
added (failures a) (failures b) = failures (a + b)
added (failures a) dead = dead
added dead c = dead

abbrev pub plan_block : (ℕ → ToCome) → List Block → ℕ → Block
plan_block p m y = record { bytes = (block_at m y).bytes; coming = added (p y) (block_at m y).coming }

unfoldable pub plan_meaning : (ℕ → ToCome) → List Block → List Block
plan_meaning p m = map (plan_block p m) (range_with_len 0 (length m))
