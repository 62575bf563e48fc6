use Rattle.std.proofs.Common.{◌≡◌, ◌-◌, ◌++◌, string_bytes}
use Rattle.std.specs.List.{range_with_len}
use Rattle.charts.specs.Axis.{ticks_by}
use Rattle.charts.proofs.axis.Scale.add_ticks.Given as goal

abbrev pub invariant-loop-k : goal.invariant-loop-k
invariant-loop-k l = string_bytes l.text ++ ticks_by l.self.last l.step (range_with_len l.k (l.count - l.k)) ≡ string_bytes l.initial.text ++ ticks_by l.self.last l.step (range_with_len 0 l.count)
