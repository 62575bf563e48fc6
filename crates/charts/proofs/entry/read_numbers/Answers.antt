use Rattle.std.proofs.Common.{◌≤◌, sym, ap, ◌∙◌, arith}
use Rattle.cues.specs.Reading.{end}
use Rattle.charts.specs.Entries.{wanted, made_entry}
use Rattle.charts.proofs.Entries.{filled_some}
use Rattle.charts.proofs.entry.read_numbers.Goals as goal

pub returns-in-Some : goal.returns-in-Some
returns-in-Some c =
    let l = c.loop-i in
    let k = c.args.kind in
    let all : wanted k l.n ≤ l.i = omega arith in
    let read = filled_some k l.i l.n (end c.args.words.now) l.words.line.now l.words.at all c.in-Some.place c.in-Some.is in
    sym (ap (made_entry k c.args.first) (l.invariant.1 ∙ read))
