use Rattle.std.proofs.Common.{◌≡◌}
use Rattle.disk.specs.Meaning.{block_at}
use Rattle.layers.proofs.Retries.{failed, AtLeast}
use Rattle.layers.proofs.retry.layer.RetryDisk.read.Given as goal

abbrev pub invariant-loop-failed : goal.invariant-loop-failed
invariant-loop-failed g l =
    let m = g.D.Disk.meaning in
    (m l.self.below ≡ failed l._failed (m l.initial.self.below) l.block) × AtLeast l._failed (block_at (m l.initial.self.below) l.block).coming × (l.memory ≡ l.initial.memory) × (l.self.tries.count ≡ l.initial.self.tries.count)
