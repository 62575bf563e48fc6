-- The bars of a head's row cover just the dots of its reads; each line's place is on the chart.
use Rattle.std.proofs.Common.{◌≡◌, ℕ, ◌+◌, ◌-◌, ◌*◌, ◌/◌, ◌<◌, ◌≤◌, min, max, Bool, true, false, cond, ◌&&◌, ◌||◌, ltb, leb, List, [], ◌∷◌, ◌++◌, Some, None, Option, sym, refl, ap, ◌∙◌, div-lt_iff_lt-mul, arith}
use native.Mathlib.Nat.{le-max_left, le-max_right}
use Rattle.std.proofs.lemmas.Bool.{cond-true, eq-eqb}
use Rattle.std.proofs.lemmas.Bool.Decides.{nat_tests}
use Rattle.charts.specs.Bands.{x_of, span_of, slot_in, one_more, band_spans, touching, joint, closed, opened, bars, band_bars}
use Rattle.charts.specs.Charts.{latest, last_slot}
use Rattle.charts.specs.Covers.{covers, covered, BarsCoverTheirReads, ReadsAreShown, FailuresAreShown, PlacesAreOnTheChart, ChartLaws}
use Rattle.charts.specs.Lines.{slot_of}
use Rattle.charts.specs.declared.bands.Band.{Band}
use Rattle.charts.specs.declared.bands.Band.TheVariants as band
use Rattle.charts.specs.declared.bands.Span.{Span}
use Rattle.charts.specs.declared.entry.Entry.{Entry}
use Rattle.charts.specs.declared.entry.Entry.TheVariants.{Read, Failed}

covers_joint : (x a b c d : ℕ) → (leb a d && leb c b) ≡ true → (leb (min a c) x && ltb x (max b d)) ≡ ((leb a x && ltb x b) || (leb c x && ltb x d))
covers_joint x a b c d h = grind (arith, nat_tests)

or_assoc : (a b c : Bool) → ((a || b) || c) ≡ (a || (b || c))
or_assoc true b c = refl
or_assoc false b c = refl

or_none : (a : Bool) → (a || false) ≡ a
or_none true = refl
or_none false = refl

covered_append : (x : ℕ) (ss ts : List Span) → covered x (ss ++ ts) ≡ (covered x ss || covered x ts)
covered_append x [] ts = refl
covered_append x (s ∷ ss) ts = ap (λ (b : Bool). covers x s || b) (covered_append x ss ts) ∙ sym (or_assoc (covers x s) (covered x ss) (covered x ts))

abbrev pending_covers : ℕ → Option Span → Bool
pending_covers x None = false
pending_covers x (Some b) = covers x b

-- one span more, with R what the spans after it cover
covered_step : (x : ℕ) (pending : Option Span) (s : Span) (R : Bool) → (covered x (closed pending s) || (covers x (opened pending s) || R)) ≡ (pending_covers x pending || (covers x s || R))
covered_step x None s R = refl
covered_step x (Some b) s R = by (touching b s) refl
  where
    by : (t : Bool) → touching b s ≡ t → (covered x (cond t [] (b ∷ [])) || (covers x (cond t (joint b s) s) || R)) ≡ (covers x b || (covers x s || R))
    by true e = ap (λ (c : Bool). c || R) (covers_joint x b.from b.to s.from s.to e) ∙ or_assoc (covers x b) (covers x s) R
    by false e = ap (λ (c : Bool). c || (covers x s || R)) (or_none (covers x b))

covered_bars : (x : ℕ) (ss : List Span) (pending : Option Span) → covered x (bars ss pending) ≡ (pending_covers x pending || covered x ss)
unfolding bars
covered_bars x [] None = refl
covered_bars x [] (Some b) = refl
covered_bars x (s ∷ ss) pending =
    covered_append x (closed pending s) (bars ss (Some (opened pending s))) ∙ ap (λ (b : Bool). covered x (closed pending s) || b) (covered_bars x ss (Some (opened pending s)))
    ∙ covered_step x pending s (covered x ss)

bars_cover : BarsCoverTheirReads
bars_cover last head x b es = covered_bars x (band_spans last b head es) None

covers_own : (x m : ℕ) → (leb x x && ltb x (max m (x + 1))) ≡ true
covers_own x m = grind (arith, nat_tests)

or_true : (a b : Bool) → b ≡ true → (a || b) ≡ true
or_true true b e = refl
or_true false b e = e

module _ (last head slot : ℕ) (b : Band) (e : Entry) (after : List Entry) (shows : slot_in b head e ≡ Some slot) where
  spans_cover : (before : List Entry) → covered (x_of last slot) (band_spans last b head (before ++ e ∷ after)) ≡ true
  unfolding band_spans
  spans_cover [] =
      ap (λ (o : Option ℕ). covered (x_of last slot) (one_more last o (band_spans last b head after))) shows
      ∙ ap (λ (c : Bool). c || covered (x_of last slot) (band_spans last b head after)) (covers_own (x_of last slot) (x_of last (slot + 1) - 1))
  spans_cover (f ∷ fs) = by (slot_in b head f) (spans_cover fs)
    where
      by : (o : Option ℕ) → covered (x_of last slot) (band_spans last b head (fs ++ e ∷ after)) ≡ true → covered (x_of last slot) (one_more last o (band_spans last b head (fs ++ e ∷ after))) ≡ true
      by None h = h
      by (Some k) h = or_true (covers (x_of last slot) (span_of last k)) _ h

  shown : (before : List Entry) → covered (x_of last slot) (band_bars last b head (before ++ e ∷ after)) ≡ true
  shown before = bars_cover last head (x_of last slot) b (before ++ e ∷ after) ∙ spans_cover before

reads_shown : ReadsAreShown
reads_shown last slot head block before after = shown last head slot band.Reads (Read slot head block) after (cond-true _ _ _ (eq-eqb head head refl)) before

failures_shown : FailuresAreShown
failures_shown last slot head block attempt before after = shown last head slot band.Failures (Failed slot head block attempt) after (cond-true _ _ _ (eq-eqb head head refl)) before

latest_from : (m : ℕ) (es : List Entry) → m ≤ latest m es
latest_from m [] = omega arith
latest_from m (e ∷ es) = let h = latest_from (max (slot_of e) m) es in omega (arith, le-max_right (slot_of e) m)

slot_by_latest : (m : ℕ) (before : List Entry) (e : Entry) (after : List Entry) → slot_of e ≤ latest m (before ++ e ∷ after)
slot_by_latest m [] e after = let h = latest_from (max (slot_of e) m) after in omega (arith, le-max_left (slot_of e) m)
slot_by_latest m (f ∷ fs) e after = slot_by_latest (max (slot_of f) m) fs e after

on_chart : (last slot : ℕ) → slot ≤ last → (100 ≤ x_of last slot) × (x_of last slot < 1100)
on_chart last slot h =
    let some : 0 < last + 1 = omega arith in
    let fits : slot * 1000 < 1000 * (last + 1) = omega arith in
    let part : slot * 1000 / (last + 1) < 1000 = (div-lt_iff_lt-mul {k = last + 1} {x = slot * 1000} {y = 1000} some).1 fits in
    (omega arith, omega arith)

places_on_chart : PlacesAreOnTheChart
places_on_chart before after e = on_chart (last_slot (before ++ e ∷ after)) (slot_of e) (slot_by_latest 0 before e after)

pub chart_laws : ChartLaws
chart_laws = record { bars = bars_cover; reads = reads_shown; failures = failures_shown; places = places_on_chart }
