use Rattle.std.proofs.Common.{◌≡◌, ◌++◌, length, string_bytes}
use Rattle.charts.specs.Lines.{marks_lines}
use Rattle.charts.proofs.lines.add_marks.Given as goal

abbrev pub invariant-loop-entry : goal.invariant-loop-entry
invariant-loop-entry l = string_bytes l.text ++ marks_lines l.scale.last l.rest ≡ string_bytes l.initial.text ++ marks_lines l.scale.last l.entries

abbrev pub decreases-loop-entry : goal.decreases-loop-entry
decreases-loop-entry l = length l.rest
