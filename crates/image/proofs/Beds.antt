-- The records of a bed, one after the other.
use Rattle.std.proofs.Common.{◌≡◌, ℕ, zero, suc, ◌+◌, ◌*◌, ◌<◌, min, List, [], ◌++◌, length, get_or, take, drop, sym, refl, ap, ◌∙◌, mul-zero, mul-suc, arith, length-append, length-drop, length-take}
use lib.ListN.{length-replicate}
use Rattle.std.specs.List.{range_with_len, flat_map}
use Rattle.std.proofs.lemmas.List.FromFn.{length-map-range_with_len, get_or-map-range_with_len}
use Rattle.std.proofs.lemmas.List.{take_at, drop_at, drop-drop, ext_get_or, flat_map_more}
use Rattle.disk.specs.Meaning.{no_block}
use Rattle.disk.proofs.Surveys.{counting_more}
use Rattle.image.specs.Beds.{RowsFit, filled, rows_in, row_at, bed_of, row_block, MeansItsRows}
use Rattle.image.specs.Images.{record_at, image_meaning}
use Rattle.image.specs.Records.{record_of}
use Rattle.image.proofs.Parts.{front_part}
use Rattle.image.proofs.Images.{length_image, get_or_image_whole}
use Rattle.image.proofs.Records.{written_reads_back}

-- parts of one length w, joined
module _ (f : ℕ → List ℕ) (w : ℕ) (each : (y : ℕ) → length (f y) ≡ w) where
  length_joined : (a n : ℕ) → length (flat_map f (range_with_len a n)) ≡ w * n
  length_joined a zero = sym (mul-zero w)
  length_joined a (suc n) = let h = length_joined (a + 1) n in let e = each a in let m = mul-suc w n in length-append (f a) (flat_map f (range_with_len (a + 1) n)) ∙ omega arith

  part_joined : (a n y : ℕ) → y < n → take w (drop (w * y) (flat_map f (range_with_len a n))) ≡ f (a + y)
  part_joined a zero y h = absurd (omega arith)
  part_joined a (suc n) zero h =
      let z = mul-zero w in
      let e : a + 0 ≡ a = omega arith in
      ap (λ k. take w (drop k (flat_map f (range_with_len a (suc n))))) z ∙ take_at (f a) (flat_map f (range_with_len (a + 1) n)) w (each a) ∙ ap f (sym e)
  part_joined a (suc n) (suc y) h =
      let m : w * suc y ≡ w + w * y = omega (arith, mul-suc w y) in
      let e : a + 1 + y ≡ a + suc y = omega arith in
      ap (λ k. take w (drop k (flat_map f (range_with_len a (suc n))))) m
      ∙ ap (take w) (sym (drop-drop (w * y) w (flat_map f (range_with_len a (suc n)))) ∙ ap (drop (w * y)) (drop_at (f a) (flat_map f (range_with_len (a + 1) n)) w (each a)))
      ∙ part_joined (a + 1) n y (omega arith) ∙ ap f e

length_row : (xs : List ℕ) (y : ℕ) → length (row_at xs y) ≡ 64
length_row xs y = simp (length-append, length-replicate, length-take, length-drop) (omega arith)

length_bed : (xs : List ℕ) → length (bed_of xs) ≡ 70 * rows_in xs
unfolding bed_of
length_bed xs = length_joined (λ y. record_of y (row_at xs y)) 70 (λ y. (written_reads_back y (row_at xs y) (length_row xs y)).0.size) 0 (rows_in xs)

record_bed : (xs : List ℕ) (y : ℕ) → y < rows_in xs → record_at (bed_of xs) y ≡ record_of y (row_at xs y)
unfolding bed_of
record_bed xs y h = part_joined (λ z. record_of z (row_at xs z)) 70 (λ z. (written_reads_back z (row_at xs z) (length_row xs z)).0.size) 0 (rows_in xs) y h ∙ ap (λ z. record_of z (row_at xs z)) (let e : 0 + y ≡ y = omega arith in e)

block_bed : (xs : List ℕ) (y : ℕ) → y < rows_in xs → get_or (image_meaning (bed_of xs)) y no_block ≡ row_block xs y
block_bed xs y h =
    let l = length_bed xs in
    let r = record_bed xs y h in
    let w = written_reads_back y (row_at xs y) (length_row xs y) in
    get_or_image_whole (bed_of xs) y 70 (omega arith) refl (rw r w.0) ∙ rw (r, w.1) refl

pub means_its_rows : (xs : List ℕ) → RowsFit (length xs) → MeansItsRows xs
means_its_rows xs f =
    let l = length_bed xs in
    let li = length_image (bed_of xs) in
    let lr = length-map-range_with_len (row_block xs) 0 (rows_in xs) in
    ((omega arith, omega arith, omega arith), ext_get_or no_block _ _ (omega arith) (λ y h. block_bed xs y (omega arith) ∙ sym (get_or-map-range_with_len (row_block xs) 0 (rows_in xs) y y no_block (omega arith) (omega arith))))

pub bed_none : (xs : List ℕ) → flat_map (λ z. record_of z (row_at xs z)) (range_with_len 0 0) ≡ []
bed_none xs = refl

-- the bed after one record more
pub bed_more : (xs v : List ℕ) (y : ℕ) → v ≡ flat_map (λ z. record_of z (row_at xs z)) (range_with_len 0 y) → v ++ record_of y (row_at xs y) ≡ flat_map (λ z. record_of z (row_at xs z)) (range_with_len 0 (y + 1))
bed_more xs v y e = let f : ℕ → List ℕ = λ z. record_of z (row_at xs z) in ap (λ u. u ++ f y) e ∙ flat_map_more f [] (range_with_len 0 y) y ∙ ap (flat_map f) (sym (counting_more 0 y y (omega arith)))

-- row y comes off the front of the rows from y on
pub next_row : (xs rest row left : List ℕ) (y : ℕ) → rest ≡ drop (64 * y) xs → rest ≡ row ++ left → length row ≡ min 64 (length rest) → (filled row ≡ row_at xs y) × (left ≡ drop (64 * (y + 1)) xs)
next_row xs rest row left y at e h =
    let f = front_part 64 rest row left e h in (
      ap filled (sym f.0 ∙ ap (take 64) at),
      sym f.1 ∙ ap (drop 64) at ∙ drop-drop 64 (64 * y) xs ∙ ap (λ k. drop k xs) (omega arith),
    )
