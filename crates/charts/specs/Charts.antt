-- The chart of a log: its frame, the slots on its axis, the bars of each head's row, and the marks of its lines in
-- their order.
use Rattle.std.specs.Prelude.{ℕ, max, List, [], ◌∷◌, ◌++◌, Ok, Err, decimal, Result}
use Rattle.std.specs.List.{range_with_len, flat_map}
use Rattle.charts.specs.Axis.{ticks_lines}
use Rattle.charts.specs.Bands.{band_lines}
use Rattle.charts.specs.Frame.{head_lines, legend_lines}
use Rattle.charts.specs.Lines.{slot_of, marks_lines}
use Rattle.charts.specs.Logs.{log_read}
use Rattle.charts.specs.declared.bands.Band.TheVariants.{Reads, Failures}
use Rattle.charts.specs.declared.entry.Entry.{Entry}
use Rattle.charts.specs.declared.log.LogFault.{LogFault}

abbrev pub latest : ℕ → List Entry → ℕ
latest slot [] = slot
latest slot (e ∷ es) = latest (max (slot_of e) slot) es

abbrev pub last_slot : List Entry → ℕ
last_slot es = latest 0 es

-- a head's reads and its failed attempts
abbrev pub row_lines : ℕ → List Entry → ℕ → List ℕ
row_lines last es head = band_lines last Reads head es ++ band_lines last Failures head es

abbrev pub rows_lines : ℕ → List Entry → List ℕ
rows_lines last es = flat_map (row_lines last es) (range_with_len 0 8)

abbrev pub text_by : ℕ → List Entry → List ℕ
text_by last es = head_lines ++ (ticks_lines last ++ (rows_lines last es ++ (marks_lines last es ++ legend_lines)))

abbrev pub chart_text : List Entry → List ℕ
chart_text es = text_by (last_slot es) es

-- a wrong line is told as that of a cue list: number, line and place
abbrev pub fault_words : LogFault → List ℕ
fault_words f = decimal 17 ++ (32 ∷ (decimal f.line ++ (32 ∷ decimal f.place)))

abbrev pub fault_text : LogFault → List ℕ
fault_text f = fault_words f ++ 10 ∷ []

abbrev pub outcome_text : Result (List Entry) LogFault → List ℕ
outcome_text (Ok es) = chart_text es
outcome_text (Err f) = fault_text f

abbrev pub log_chart : List ℕ → List ℕ
log_chart input = outcome_text (log_read input)
