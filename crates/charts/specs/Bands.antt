-- Where slots and heads lie on the chart, and the bars of a head's row.
use Rattle.std.specs.Prelude.{ℕ, ◌+◌, ◌-◌, ◌*◌, ◌/◌, min, max, Bool, cond, ◌&&◌, List, [], ◌∷◌, ◌++◌, Some, None, Option, ◌==◌, nat_le}
use Rattle.std.specs.List.{flat_map}
use Rattle.charts.specs.Marks.{mark_line}
use Rattle.charts.specs.declared.bands.Band.{Band}
use Rattle.charts.specs.declared.bands.Band.TheVariants as band
use Rattle.charts.specs.declared.bands.Span.{Span}
use Rattle.charts.specs.declared.entry.Entry.{Entry}
use Rattle.charts.specs.declared.entry.Entry.TheVariants.{Order, Take, Give, Close, Read, Failed, Ended, Done, Refused}
use Rattle.charts.specs.declared.mark.Mark.{Mark}
use Rattle.charts.specs.declared.mark.Mark.TheVariants.{Reads, Failures}

-- the slots 0 to `last` share the dots 100 to 1,100
abbrev pub x_of : ℕ → ℕ → ℕ
x_of last slot = 100 + slot * 1000 / (last + 1)

-- a row has 48 dots; heads above 7 share the last
abbrev pub y_of : ℕ → ℕ
y_of head = 50 + 48 * min head 8

abbrev pub span : ℕ → ℕ → Span
span a b = record { from = a; to = b }

-- the dots of a slot, all but the last where it has several
abbrev pub span_of : ℕ → ℕ → Span
span_of last slot = span (x_of last slot) (max (x_of last (slot + 1) - 1) (x_of last slot + 1))

-- the slot of a read for that head
abbrev pub read_slot : ℕ → Entry → Option ℕ
read_slot shown (Read slot head block) = cond (head == shown) (Some slot) None
read_slot shown (Order slot head answer l h) = None
read_slot shown (Take slot head block party answer lease) = None
read_slot shown (Give slot party lease answer) = None
read_slot shown (Close slot head answer) = None
read_slot shown (Failed slot head block attempt) = None
read_slot shown (Ended slot head cause) = None
read_slot shown (Done slot attempts failed) = None
read_slot shown (Refused number line place) = None

abbrev pub failed_slot : ℕ → Entry → Option ℕ
failed_slot shown (Failed slot head block attempt) = cond (head == shown) (Some slot) None
failed_slot shown (Order slot head answer l h) = None
failed_slot shown (Take slot head block party answer lease) = None
failed_slot shown (Give slot party lease answer) = None
failed_slot shown (Close slot head answer) = None
failed_slot shown (Read slot head block) = None
failed_slot shown (Ended slot head cause) = None
failed_slot shown (Done slot attempts failed) = None
failed_slot shown (Refused number line place) = None

abbrev pub slot_in : Band → ℕ → Entry → Option ℕ
slot_in band.Reads head e = read_slot head e
slot_in band.Failures head e = failed_slot head e

abbrev pub one_more : ℕ → Option ℕ → List Span → List Span
one_more last None ss = ss
one_more last (Some slot) ss = span_of last slot ∷ ss

-- the dots of each read of a head, or of each failed attempt, in the order of the log
unfoldable pub band_spans : ℕ → Band → ℕ → List Entry → List Span
band_spans last b head [] = []
band_spans last b head (e ∷ es) = one_more last (slot_in b head e) (band_spans last b head es)

-- no dot lies between the two
abbrev pub touching : Span → Span → Bool
touching a b = nat_le a.from b.to && nat_le b.from a.to

abbrev pub joint : Span → Span → Span
joint a b = span (min a.from b.from) (max a.to b.to)

-- the bar that is done once a span comes, and the bar that is then open
abbrev pub closed : Option Span → Span → List Span
closed None s = []
closed (Some b) s = cond (touching b s) [] (b ∷ [])

abbrev pub opened : Option Span → Span → Span
opened None s = s
opened (Some b) s = cond (touching b s) (joint b s) s

-- spans as bars, those that touch joined, from an open bar on
unfoldable pub bars : List Span → Option Span → List Span
bars [] None = []
bars [] (Some b) = b ∷ []
bars (s ∷ ss) so_far = closed so_far s ++ bars ss (Some (opened so_far s))

abbrev pub bar : Band → ℕ → Span → Mark
bar band.Reads head s = Reads s.from (y_of head + 21) (s.to - s.from)
bar band.Failures head s = Failures s.from (y_of head + 30) (s.to - s.from)

abbrev pub bar_lines : Band → ℕ → List Span → List ℕ
bar_lines b head ss = flat_map (λ s. mark_line (bar b head s)) ss

-- one band of a head's row
abbrev pub band_bars : ℕ → Band → ℕ → List Entry → List Span
band_bars last b head es = bars (band_spans last b head es) None

abbrev pub band_lines : ℕ → Band → ℕ → List Entry → List ℕ
band_lines last b head es = bar_lines b head (band_bars last b head es)
