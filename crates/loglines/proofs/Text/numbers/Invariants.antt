use Rattle.std.proofs.Common.{◌≡◌, ◌+◌, ◌*◌, ◌≤◌, take}
use Rattle.loglines.specs.Memory.{Wrote}
use Rattle.loglines.specs.Text.{spaced}
use Rattle.loglines.proofs.Text.numbers.Given as goal

abbrev pub invariant-loop-number : goal.invariant-loop-number
invariant-loop-number l =
    (l.self.out.ghost_name ≡ l.initial.self.out.ghost_name)
    × Wrote l.initial.self.out.now l.initial.self.len (spaced (take l.number-index l.numbers)) l.self.len l.self.out.now
    × (l.self.len ≤ l.initial.self.len + 11 * l.number-index)
