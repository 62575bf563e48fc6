use Rattle.std.proofs.Common.{string_bytes}
use Rattle.charts.proofs.Marked.{line_marked, line_unmarked, lines_end}
use Rattle.charts.proofs.lines.add_marks.Goals as goal

pub loop-entry-preserved-in_ok-add : goal.loop-entry-preserved-in_ok-add
loop-entry-preserved-in_ok-add c =
    let l = c.loop-entry in
    line_marked c.args.scale.last l.rest.now c.in-Some.after.now c.in-Some.entry.now (string_bytes l.text) _ c.in-Some.ensures.cases.0 l.invariant c.in-Some-mark_of.mark c.in-Some-mark_of.ensures (string_bytes c.add.new.text) c.in_ok-add.ensures

pub loop-entry-preserved : goal.loop-entry-preserved
loop-entry-preserved c =
    let l = c.loop-entry in
    line_unmarked c.args.scale.last l.rest.now c.in-Some.after.now c.in-Some.entry.now (string_bytes l.text) _ c.in-Some.ensures.cases.0 l.invariant c.in_default-mark_of.ensures

pub returns : goal.returns
returns c =
    let l = c.loop-entry in
    lines_end c.args.scale.last l.rest.now (string_bytes l.text) _ c.in_default.ensures.cases l.invariant
