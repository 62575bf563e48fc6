use Rattle.std.proofs.Common.{ℕ, ◌+◌, List, ◌++◌, drop, string_bytes, Option, ap, ◌∙◌}
use Rattle.std.proofs.lemmas.Result.{IfOk-weaker}
use Rattle.charts.specs.Bands.{bars, band_spans, bar_lines}
use Rattle.charts.specs.Marks.{mark_line}
use Rattle.charts.specs.declared.bands.Span.{Span}
use Rattle.charts.specs.declared.mark.Mark.{Mark}
use Rattle.charts.proofs.Bars.{turn_other, turn_shown, end_none, end_some}
use Rattle.charts.proofs.bands.Band.add.Goals as goal
use Rattle.charts.proofs.bands.Band.add.Goals.{in-Some+in_ok-next, in_default}

pub loop-entry-preserved : goal.loop-entry-preserved
loop-entry-preserved c =
    let l = c.loop-entry in
    let a = c.args in
    let lines : Option Span → List ℕ = λ o. bar_lines a.self a.head (bars (band_spans a.scale.last a.self a.head (drop (l.entry-index + 1) a.entries.now)) o) in
    elim c.match-slot_in.branch [
      | in-Some+in_ok-next w ↦
          (λ i. string_bytes (w.text-is i) ++ lines (w.pending-is i))
          ∙ turn_shown a.scale.last a.self a.head a.entries.now l.entry-index l.pending (string_bytes l.text) _ l.invariant _ c.loop-entry-test.true w.in-Some.slot w.in-Some.ensures w.span_of-span.result w.in_ok-next.next (string_bytes w.add_span.new.text) w.span_of-span.ensures w.in_ok-next.ensures.0 w.in_ok-next.ensures.1
      | in_default w ↦
          (λ i. string_bytes (w.text-is i) ++ lines (w.pending-is i))
          ∙ turn_other a.scale.last a.self a.head a.entries.now l.entry-index l.pending (string_bytes l.text) _ l.invariant _ c.loop-entry-test.true w.in_default.ensures
    ]

pub returns-in-Some-pending : goal.returns-in-Some-pending
returns-in-Some-pending c =
    let l = c.loop-entry in
    let a = c.args in
    let whole = end_some a.scale.last a.self a.head a.entries.now l.entry-index l.pending (string_bytes l.text) _ l.invariant c.loop-entry-test.false c.in-Some-pending.span c.in-Some-pending.is in
    IfOk-weaker c.add.result _ _ (λ x e. e ∙ ap (λ (m : Mark). string_bytes l.text ++ mark_line m) c.bar.ensures ∙ whole) c.add.ensures

pub returns-in-None : goal.returns-in-None
returns-in-None c =
    let l = c.loop-entry in
    let a = c.args in
    end_none a.scale.last a.self a.head a.entries.now l.entry-index l.pending (string_bytes l.text) _ l.invariant c.loop-entry-test.false c.in-None.is
