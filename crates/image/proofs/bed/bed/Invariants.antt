use Rattle.std.proofs.Common.{◌≡◌, ◌+◌, ◌*◌, ◌≤◌, length, drop, vec_items}
use Rattle.std.specs.List.{range_with_len, flat_map}
use Rattle.std.specs.Slice.Iter.{chunks_rest, chunks_size}
use Rattle.image.specs.Beds.{row_at}
use Rattle.image.specs.Records.{record_of}
use Rattle.image.proofs.bed.bed.Given as goal

abbrev pub invariant-loop-y : goal.invariant-loop-y
invariant-loop-y l =
    let y = l.y-iterator.count in
    (vec_items l.image ≡ flat_map (λ z. record_of z (row_at l.rows z)) (range_with_len 0 y))
    × (chunks_rest l.y-iterator.iter ≡ drop (64 * y) l.rows)
    × (chunks_size l.y-iterator.iter ≡ 64)
    × (64 * y ≤ length l.rows + 63)
