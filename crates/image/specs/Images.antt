-- What an image of records means as a disk.
use Rattle.std.specs.Prelude.{◌≡◌, ℕ, ◌*◌, ◌/◌, ◌%◌, ◌≤◌, cond, List, map, length, take, drop, replicate}
use Rattle.std.specs.List.{range_with_len}
use Rattle.disk.specs.Meaning.{Block, failures, dead}
use Rattle.image.specs.Records.{whole, data_of}

-- 1 to 4,096 records of 70 bytes
abbrev pub ImageFits : ℕ → Type 0
ImageFits n = (n % 70 ≡ 0) × (70 ≤ n) × (n ≤ 286720)

-- record i lies at byte 70·i
abbrev pub record_at : List ℕ → ℕ → List ℕ
record_at xs i = take 70 (drop (70 * i) xs)

-- a whole record is a block with no failures to come; any other block is dead, with zero bytes
abbrev pub image_block : List ℕ → ℕ → Block
image_block xs i = record { bytes = cond (whole (record_at xs i) i) (data_of (record_at xs i)) (replicate 64 0); coming = cond (whole (record_at xs i) i) (failures 0) dead }

unfoldable pub image_meaning : List ℕ → List Block
image_meaning xs = map (image_block xs) (range_with_len 0 (length xs / 70))
