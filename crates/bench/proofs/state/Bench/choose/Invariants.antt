use Rattle.std.proofs.Common.{◌≡◌, ◌≤◌, length}
use Rattle.queue.specs.Held.{held, room}
use Rattle.history.specs.Requests.{Requested}
use Rattle.bench.specs.Ticks.{deadline_of, head_of}
use Rattle.bench.proofs.state.Bench.choose.Given as goal

abbrev pub invariant-loop-head : goal.invariant-loop-head
invariant-loop-head g l = (room l.queue ≡ 8) × (length (held l.queue) ≤ l.head) × Requested deadline_of head_of l.self.now l.self.lanes l.head (held l.queue)
