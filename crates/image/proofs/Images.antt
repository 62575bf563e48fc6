-- The length and the blocks of an image.
use Rattle.std.proofs.Common.{◌≡◌, ℕ, ◌*◌, ◌/◌, ◌<◌, Bool, true, false, cond, List, length, get_or, take, drop, replicate, ap, ◌∙◌, arith, length-drop, length-take}
use lib.ListN.{length-replicate}
use Rattle.std.proofs.lemmas.List.FromFn.{length-map-range_with_len, get_or-map-range_with_len}
use Rattle.std.proofs.lemmas.Bool.Decides.{nat_tests}
use Rattle.disk.specs.Meaning.{Block, no_block, failures, dead, Proper}
use Rattle.image.specs.Records.{Whole, whole, data_of}
use Rattle.image.proofs.Records.{whole_true, whole_false}
use Rattle.image.specs.Images.{ImageFits, record_at, image_block, image_meaning}

pub length_image : (xs : List ℕ) → length (image_meaning xs) ≡ length xs / 70
unfolding image_meaning
length_image xs = length-map-range_with_len (image_block xs) 0 (length xs / 70)

pub get_or_image : (xs : List ℕ) (y : ℕ) → y < length xs / 70 → get_or (image_meaning xs) y no_block ≡ image_block xs y
unfolding image_meaning
get_or_image xs y h = get_or-map-range_with_len (image_block xs) 0 (length xs / 70) y y no_block h (omega arith)

pub length_data : (r : List ℕ) → length r ≡ 70 → length (data_of r) ≡ 64
length_data r l = simp (length-take, length-drop) (omega arith)

length_record : (xs : List ℕ) (y : ℕ) → y < length xs / 70 → length (record_at xs y) ≡ 70
length_record xs y h = simp (length-take, length-drop) (omega arith)

block_by : (t : Bool) (xs : List ℕ) (y : ℕ) → y < length xs / 70 → length (cond t (data_of (record_at xs y)) (replicate 64 0)) ≡ 64
block_by true xs y h = length_data (record_at xs y) (length_record xs y h)
block_by false xs y h = length-replicate {A = ℕ} 64 0

pub image_proper : (xs : List ℕ) → ImageFits (length xs) → Proper (image_meaning xs)
image_proper xs f =
    let l = length_image xs in
    record { some = omega arith; few = omega arith; whole = λ y h. let g = get_or_image xs y (omega arith) in ap (λ (k : Block). length k.bytes) g ∙ block_by (whole (record_at xs y) y) xs y (omega arith) }

-- the block that record y of the image is, by whether it is whole; k is how the length of a part is written
pub get_or_image_whole : (xs : List ℕ) (y k : ℕ) → y < length xs / 70 → k ≡ 70 → Whole (take k (drop (70 * y) xs)) y → get_or (image_meaning xs) y no_block ≡ record { bytes = data_of (take k (drop (70 * y) xs)); coming = failures 0 }
get_or_image_whole xs y k h e w =
    let g = get_or_image xs y h in
    let t = whole_true (take k (drop (70 * y) xs)) y w in
    grind (arith, nat_tests)

pub get_or_image_damaged : (xs : List ℕ) (y k : ℕ) → y < length xs / 70 → k ≡ 70 → (Whole (take k (drop (70 * y) xs)) y → ⊥) → get_or (image_meaning xs) y no_block ≡ record { bytes = replicate 64 0; coming = dead }
get_or_image_damaged xs y k h e w =
    let g = get_or_image xs y h in
    let t = whole_false (take k (drop (70 * y) xs)) y w in
    grind (arith, nat_tests)
