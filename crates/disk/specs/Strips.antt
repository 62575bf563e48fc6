-- What a strip of bytes means as a disk: block y lies at byte 64·y, with no failures to come.
use Rattle.std.specs.Prelude.{◌≡◌, ℕ, ◌*◌, ◌/◌, ◌%◌, ◌≤◌, List, map, length, take, drop}
use Rattle.std.specs.List.{range_with_len}
use Rattle.disk.specs.Meaning.{Block, failures}

-- whole blocks of 64 bytes, 1 to 4,096 of them
abbrev pub StripFits : ℕ → Type 0
StripFits n = (n % 64 ≡ 0) × (64 ≤ n) × (n ≤ 262144)

abbrev pub strip_block : List ℕ → ℕ → Block
strip_block xs y = record { bytes = take 64 (drop (64 * y) xs); coming = failures 0 }

unfoldable pub strip_meaning : List ℕ → List Block
strip_meaning xs = map (strip_block xs) (range_with_len 0 (length xs / 64))
