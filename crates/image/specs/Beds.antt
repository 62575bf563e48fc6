-- The bed image of a drawing's rows.
use Rattle.std.specs.Prelude.{◌≡◌, ℕ, ◌+◌, ◌-◌, ◌*◌, ◌/◌, ◌≤◌, List, ◌++◌, map, length, take, drop, replicate}
use Rattle.std.specs.List.{range_with_len, flat_map}
use Rattle.disk.specs.Meaning.{Block, failures}
use Rattle.image.specs.Images.{ImageFits, image_meaning}
use Rattle.image.specs.Records.{record_of}

-- 1 to 4,096 rows of 64 bytes, of which the last may be short
abbrev pub RowsFit : ℕ → Type 0
RowsFit n = (1 ≤ n) × (n ≤ 262144)

abbrev pub rows_in : List ℕ → ℕ
rows_in xs = (length xs + 63) / 64

-- filled with zeros to 64 bytes
abbrev pub filled : List ℕ → List ℕ
filled xs = xs ++ replicate (64 - length xs) 0

abbrev pub row_at : List ℕ → ℕ → List ℕ
row_at xs y = filled (take 64 (drop (64 * y) xs))

-- row y is record y
unfoldable pub bed_of : List ℕ → List ℕ
bed_of xs = flat_map (λ y. record_of y (row_at xs y)) (range_with_len 0 (rows_in xs))

abbrev pub row_block : List ℕ → ℕ → Block
row_block xs y = record { bytes = row_at xs y; coming = failures 0 }

-- the image of the rows is an image, and as a disk its block y is row y, with no failures to come
abbrev pub MeansItsRows : List ℕ → Type 0
MeansItsRows xs = ImageFits (length (bed_of xs)) × (image_meaning (bed_of xs) ≡ map (row_block xs) (range_with_len 0 (rows_in xs)))
