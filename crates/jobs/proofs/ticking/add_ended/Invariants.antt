use Rattle.std.proofs.Common.{◌≡◌, ◌++◌, drop, vec_items}
use Rattle.jobs.specs.Lines.{ended_lines}
use Rattle.jobs.proofs.ticking.add_ended.Given as goal

abbrev pub invariant-loop-head : goal.invariant-loop-head
invariant-loop-head l = vec_items l.log ++ ended_lines l.slot l.head (drop l.head l.ended) ≡ vec_items l.initial.log ++ ended_lines l.slot 0 l.ended
