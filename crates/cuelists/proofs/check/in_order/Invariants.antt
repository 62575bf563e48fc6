use Rattle.std.proofs.Common.{◌≡◌, ◌++◌, length, string_bytes}
use Rattle.std.specs.List.{flat_map}
use Rattle.queue.specs.Held.{held}
use Rattle.queue.specs.Order.{in_order}
use Rattle.cuelists.specs.Dues.{due_before}
use Rattle.cuelists.specs.Checks.{due_line}
use Rattle.cuelists.proofs.check.in_order.Given as goal

abbrev pub invariant-loop-due : goal.invariant-loop-due
invariant-loop-due l =
    string_bytes l.text ++ flat_map due_line (in_order due_before (held l.queue)) ≡ flat_map due_line (in_order due_before (held l.initial.queue))

abbrev pub decreases-loop-due : goal.decreases-loop-due
decreases-loop-due l = length (held l.queue)
