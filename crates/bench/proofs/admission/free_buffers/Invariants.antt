use Rattle.std.proofs.Common.{◌≡◌, ◌≤◌, not, length, take, filter}
use Rattle.std.specs.List.{range_with_len}
use Rattle.history.specs.Bench.{in_use}
use Rattle.bench.proofs.admission.free_buffers.Given as goal

abbrev pub invariant-loop-buffer : goal.invariant-loop-buffer
invariant-loop-buffer l = (l.free.items ≡ filter (λ x. not (in_use l.lanes l.leases x)) (take l.buffer (range_with_len 0 32))) × (length l.free.items ≤ l.depth)
