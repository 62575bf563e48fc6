-- What the bars of a head's row show, dot by dot.
use Rattle.std.specs.Prelude.{◌≡◌, ℕ, ◌<◌, ◌≤◌, Bool, true, false, ◌&&◌, ◌||◌, List, [], ◌∷◌, ◌++◌, nat_le, nat_lt}
use Rattle.charts.specs.Bands.{x_of, band_spans, band_bars}
use Rattle.charts.specs.Charts.{last_slot}
use Rattle.charts.specs.Lines.{slot_of}
use Rattle.charts.specs.declared.bands.Band.{Band}
use Rattle.charts.specs.declared.bands.Band.TheVariants.{Reads, Failures}
use Rattle.charts.specs.declared.bands.Span.{Span}
use Rattle.charts.specs.declared.entry.Entry.{Entry}
use Rattle.charts.specs.declared.entry.Entry.TheVariants.{Read, Failed}

abbrev pub covers : ℕ → Span → Bool
covers x s = nat_le s.from x && nat_lt x s.to

-- the dot x is in one of the spans
abbrev pub covered : ℕ → List Span → Bool
covered x [] = false
covered x (s ∷ ss) = covers x s || covered x ss

-- a dot of a head's row is in one of its bars exactly where one of its reads, or of its failed attempts, falls on it
abbrev pub BarsCoverTheirReads : Type 0
BarsCoverTheirReads = (last head x : ℕ) (b : Band) (es : List Entry) → covered x (band_bars last b head es) ≡ covered x (band_spans last b head es)

-- each read falls within a bar of its head's row, at its slot's place; and so does each failed attempt
abbrev pub ReadsAreShown : Type 0
ReadsAreShown =
    (last slot head block : ℕ) (before after : List Entry) → covered (x_of last slot) (band_bars last Reads head (before ++ Read slot head block ∷ after)) ≡ true

abbrev pub FailuresAreShown : Type 0
FailuresAreShown =
    (last slot head block attempt : ℕ) (before after : List Entry) → covered (x_of last slot) (band_bars last Failures head (before ++ Failed slot head block attempt ∷ after)) ≡ true

-- each line's place is on the chart
abbrev pub PlacesAreOnTheChart : Type 0
PlacesAreOnTheChart =
    (before after : List Entry) (e : Entry) → (100 ≤ x_of (last_slot (before ++ e ∷ after)) (slot_of e)) × (x_of (last_slot (before ++ e ∷ after)) (slot_of e) < 1100)

pub record ChartLaws : Type 0 where
  pub bars : BarsCoverTheirReads
  pub reads : ReadsAreShown
  pub failures : FailuresAreShown
  pub places : PlacesAreOnTheChart
