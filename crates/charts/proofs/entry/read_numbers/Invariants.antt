use Rattle.std.proofs.Common.{◌≡◌, ◌-◌, length}
use Rattle.cues.specs.Reading.{left, end}
use Rattle.charts.specs.Entries.{filled, zeros}
use Rattle.charts.proofs.entry.read_numbers.Given as goal

abbrev pub invariant-loop-i : goal.invariant-loop-i
invariant-loop-i l =
    (l.words.line ≡ l.initial.words.line)
    × (filled l.kind 0 zeros (end l.initial.words) (left l.initial.words) ≡ filled l.kind l.i l.n (end l.initial.words) (left l.words))
    × (length l.n ≡ 5)

abbrev pub decreases-loop-i : goal.decreases-loop-i
decreases-loop-i l = 5 - l.i
