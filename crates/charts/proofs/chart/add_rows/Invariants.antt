use Rattle.std.proofs.Common.{◌≡◌, ◌-◌, ◌++◌, string_bytes}
use Rattle.std.specs.List.{range_with_len, flat_map}
use Rattle.charts.specs.Charts.{row_lines, rows_lines}
use Rattle.charts.proofs.chart.add_rows.Given as goal

abbrev pub invariant-loop-head : goal.invariant-loop-head
invariant-loop-head l = string_bytes l.text ++ flat_map (row_lines l.scale.last l.entries) (range_with_len l.head (8 - l.head)) ≡ string_bytes l.initial.text ++ rows_lines l.scale.last l.entries
