-- What a disk means: its blocks in order, each with its bytes and its failures to come; and what a read does to that.
use Rattle.std.specs.Prelude.{◌≡◌, ℕ, ◌+◌, ◌-◌, ◌<◌, ◌≤◌, Bool, false, cond, List, [], ◌∷◌, length, ◌==◌, nat_lt, slice_index_or, slice_set}

-- how many reads of a block are still to fail: a whole number, or the block is dead, which is more than any number
pub data ToCome : Type 0 where
  failures : ℕ → ToCome
  dead : ToCome

pub record Block : Type 0 where
  pub bytes : List ℕ
  pub coming : ToCome

abbrev pub no_block : Block
no_block = record { bytes = []; coming = dead }

abbrev pub block_at : List Block → ℕ → Block
block_at m b = slice_index_or m b no_block

-- 1 to 4,096 blocks of 64 bytes
pub record Proper (m : List Block) : Type 0 where
  pub some : 1 ≤ length m
  pub few : length m ≤ 4096
  pub whole : (y : ℕ) → y < length m → length (block_at m y).bytes ≡ 64

abbrev pub none_coming : ToCome → Bool
none_coming (failures n) = n == 0
none_coming dead = false

-- one failure used up; a dead block stays dead
abbrev pub fewer : ToCome → ToCome
fewer (failures n) = failures (n - 1)
fewer dead = dead

abbrev pub worn : Block → Block
worn k = record { bytes = k.bytes; coming = fewer k.coming }

-- the number that a read answers: 7 for memory of another length than 64, then 14 for a block that the disk has not,
-- then 13 where failures are to come, and 0 where it fills the memory
abbrev pub read_number : List Block → ℕ → ℕ → ℕ
read_number m b len = cond (len == 64) (cond (nat_lt b (length m)) (cond (none_coming (block_at m b).coming) 0 13) 14) 7

-- the memory after it: the block's bytes, or as it was
abbrev pub read_memory : List Block → ℕ → List ℕ → List ℕ
read_memory m b mem = cond (read_number m b (length mem) == 0) (block_at m b).bytes mem

-- the disk after it: as it was, but for the failure that a failed read uses up
abbrev pub read_after : List Block → ℕ → ℕ → List Block
read_after m b len = cond (read_number m b len == 13) (slice_set m b (worn (block_at m b))) m

-- a read of block b of the disk m into mem answers n and leaves mem' and m'
pub record Reads (m : List Block) (b : ℕ) (mem : List ℕ) (n : ℕ) (mem' : List ℕ) (m' : List Block) : Type 0 where
  pub number : n ≡ read_number m b (length mem)
  pub memory : mem' ≡ read_memory m b mem
  pub after : m' ≡ read_after m b (length mem)

-- k failures used up
abbrev pub less : ℕ → ToCome → ToCome
less k (failures n) = failures (n - k)
less k dead = dead

-- the disk after reads of the blocks bs, one after the other
abbrev pub after_reads : List Block → List ℕ → List Block
after_reads m [] = m
after_reads m (b ∷ bs) = after_reads (read_after m b 64) bs

-- how often y stands in bs
abbrev pub times : ℕ → List ℕ → ℕ
times y [] = 0
times y (b ∷ bs) = cond (b == y) 1 0 + times y bs

-- Reads leave a disk's size and bytes as they are, and each read of a block uses up one failure of that block alone: so
-- a block with f failures to come reads from the read after the f-th on, and a dead one never.
abbrev pub ReadsUseUpOneFailureEach : Type 0
ReadsUseUpOneFailureEach = (m : List Block) (bs : List ℕ) (y : ℕ) → (length (after_reads m bs) ≡ length m) × ((block_at (after_reads m bs) y).bytes ≡ (block_at m y).bytes) × ((block_at (after_reads m bs) y).coming ≡ less (times y bs) (block_at m y).coming)
