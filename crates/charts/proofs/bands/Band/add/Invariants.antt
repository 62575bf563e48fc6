use Rattle.std.proofs.Common.{◌≡◌, ◌++◌, drop, string_bytes}
use Rattle.charts.specs.Bands.{bars, band_spans, bar_lines, band_lines}
use Rattle.charts.proofs.bands.Band.add.Given as goal

abbrev pub invariant-loop-entry : goal.invariant-loop-entry
invariant-loop-entry l =
    string_bytes l.text ++ bar_lines l.self l.head (bars (band_spans l.scale.last l.self l.head (drop l.entry-index l.entries)) l.pending)
    ≡ string_bytes l.initial.text ++ band_lines l.scale.last l.self l.head l.entries
