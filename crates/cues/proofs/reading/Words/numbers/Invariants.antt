use Rattle.std.proofs.Common.{◌≡◌, ◌-◌, length, take}
use Rattle.cues.specs.Forms.{numbers}
use Rattle.cues.specs.Reading.{left, end}
use Rattle.cues.proofs.Forms.{with_front}
use Rattle.cues.proofs.reading.Words.numbers.Given as goal

abbrev pub invariant-loop-number : goal.invariant-loop-number
invariant-loop-number g l =
    (l.self.line ≡ l.initial.self.line)
    × (length l.number-items ≡ g.row.N)
    × (numbers (length l.number-items) (end l.initial.self) (left l.initial.self) ≡ with_front (take l.number-index l.number-items) (numbers (length l.number-items - l.number-index) (end l.initial.self) (left l.self)))
