use Rattle.std.proofs.Common.{◌≡◌, ◌+◌, ◌≤◌, length, false}
use Rattle.std.specs.Iterator.Adapters.{enumerate_source, enumerate_count}
use Rattle.layers.specs.Entries.{listed}
use Rattle.queue.specs.Held.{held, room}
use Rattle.cues.specs.Reading.{lines_left}
use Rattle.cues.specs.Words.{lines}
use Rattle.cuelists.specs.Lists.{sofar, most, lines_read}
use Rattle.cuelists.proofs.Lines.{Same}
use Rattle.cuelists.proofs.list.read_list.Given as goal

abbrev pub invariant-loop-before : goal.invariant-loop-before
invariant-loop-before l =
    (goal.iterator-loop-before).can_next l.before-iterator
    × (goal.iterator-loop-before).is_finite l.before-iterator
    × (enumerate_count l.before-iterator + length (lines_left (enumerate_source l.before-iterator)) ≤ length l.input)
    × (room l.queue ≡ room l.initial.queue)
    × Same (lines_read (most (room l.initial.queue)) 1 (sofar (listed l.initial.entries) (held l.initial.queue) false) (lines l.input))
    (lines_read (most (room l.initial.queue)) (enumerate_count l.before-iterator + 1) (sofar (listed l.entries) (held l.queue) l.begun) (lines_left (enumerate_source l.before-iterator)))
