use Rattle.std.proofs.Common.{◌≡◌, ◌+◌, ◌≤◌, length, vec_items}
use Rattle.std.specs.Iterator.Adapters.{enumerate_source, enumerate_count}
use Rattle.cues.specs.Reading.{lines_left}
use Rattle.charts.specs.Logs.{lines_read, log_read}
use Rattle.charts.proofs.Logs.{with_front}
use Rattle.charts.proofs.log.read_log.Given as goal

abbrev pub invariant-loop-before : goal.invariant-loop-before
invariant-loop-before l =
    (goal.iterator-loop-before).can_next l.before-iterator
    × (goal.iterator-loop-before).is_finite l.before-iterator
    × (enumerate_count l.before-iterator + length (lines_left (enumerate_source l.before-iterator)) ≤ length l.input)
    × (log_read l.input ≡ with_front (vec_items l.entries) (lines_read (enumerate_count l.before-iterator + 1) l.over (lines_left (enumerate_source l.before-iterator))))
