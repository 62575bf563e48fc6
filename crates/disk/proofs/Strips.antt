-- The length and the blocks of a strip's meaning.
use Rattle.std.proofs.Common.{◌≡◌, ℕ, ◌/◌, ◌<◌, List, length, get_or, arith, length-drop, length-take}
use Rattle.std.proofs.lemmas.List.FromFn.{length-map-range_with_len, get_or-map-range_with_len}
use Rattle.disk.specs.Meaning.{no_block, Proper}
use Rattle.disk.specs.Strips.{StripFits, strip_block, strip_meaning}

pub length_strip : (xs : List ℕ) → length (strip_meaning xs) ≡ length xs / 64
unfolding strip_meaning
length_strip xs = length-map-range_with_len (strip_block xs) 0 (length xs / 64)

pub get_or_strip : (xs : List ℕ) (y : ℕ) → y < length xs / 64 → get_or (strip_meaning xs) y no_block ≡ strip_block xs y
unfolding strip_meaning
get_or_strip xs y h = get_or-map-range_with_len (strip_block xs) 0 (length xs / 64) y y no_block h (omega arith)

pub strip_proper : (xs : List ℕ) → StripFits (length xs) → Proper (strip_meaning xs)
strip_proper xs f =
    let l = length_strip xs in
    record { some = omega arith; few = omega arith; whole = λ y h. rw (get_or_strip xs y (omega arith)) (simp (length-take, length-drop) (omega arith)) }
