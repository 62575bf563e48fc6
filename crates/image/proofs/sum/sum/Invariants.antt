use Rattle.std.proofs.Common.{◌≡◌, ◌*◌, ◌<◌, ◌≤◌, length, drop}
use Rattle.std.specs.Slice.Iter.{chunks_exact_rest, chunks_exact_size}
use Rattle.image.specs.Sums.{sum_to}
use Rattle.image.proofs.sum.sum.Given as goal

abbrev pub invariant-loop-pair : goal.invariant-loop-pair
invariant-loop-pair l =
    let k = length l.yielded in
    (l.total ≡ sum_to l.bytes k) × (l.total < 65536)
    × (chunks_exact_rest l.pair-iterator ≡ drop (2 * k) l.bytes) × (chunks_exact_size l.pair-iterator ≡ 2) × (2 * k ≤ length l.bytes)
