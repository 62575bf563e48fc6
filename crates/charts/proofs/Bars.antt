-- Bars added one after another, and the dots that they cover.
use Rattle.std.proofs.Common.{◌≡◌, ℕ, ◌+◌, ◌<◌, ◌≤◌, List, [], ◌∷◌, ◌++◌, length, get_or, drop, Some, None, Option, sym, ap, ◌∙◌, append_assoc, append-nil}
use Rattle.std.proofs.lemmas.Grind.{flat_map-append}
use Rattle.std.proofs.lemmas.List.{at_drop_more, at_drop_all}
use Rattle.charts.specs.Marks.{mark_line}
use Rattle.charts.specs.Bands.{span_of, slot_in, one_more, band_spans, closed, opened, bars, bar, bar_lines}
use Rattle.charts.specs.declared.bands.Band.{Band}
use Rattle.charts.specs.declared.bands.Span.{Span}
use Rattle.charts.specs.declared.entry.Entry.{Entry}

module _ (last : ℕ) (b : Band) (head : ℕ) (es : List Entry) (i : ℕ) (pending : Option Span) (text whole : List ℕ)
    (so_far : text ++ bar_lines b head (bars (band_spans last b head (drop i es)) pending) ≡ whole) where
  -- one turn of the loop over the entries
  at_entry : (d : Entry) → i < length es → (said : Option ℕ) → said ≡ slot_in b head (get_or es i d) → text ++ bar_lines b head (bars (one_more last said (band_spans last b head (drop (i + 1) es))) pending) ≡ whole
  unfolding band_spans
  at_entry d h said is =
      ap (λ (o : Option ℕ). text ++ bar_lines b head (bars (one_more last o (band_spans last b head (drop (i + 1) es))) pending)) is
      ∙ sym (ap (λ (ss : List Span). text ++ bar_lines b head (bars ss pending)) (at_drop_more (band_spans last b head) es i d h)) ∙ so_far

  pub turn_other : (d : Entry) → i < length es → None ≡ slot_in b head (get_or es i d) → text ++ bar_lines b head (bars (band_spans last b head (drop (i + 1) es)) pending) ≡ whole
  turn_other d h is = at_entry d h None is

  pub turn_shown : (d : Entry) → i < length es → (slot : ℕ) → Some slot ≡ slot_in b head (get_or es i d) → (s next : Span) (after : List ℕ) → s ≡ span_of last slot → after ≡ text ++ bar_lines b head (closed pending s) → next ≡ opened pending s
      → after ++ bar_lines b head (bars (band_spans last b head (drop (i + 1) es)) (Some next)) ≡ whole
  unfolding bars
  turn_shown d h slot is s next after span added opens =
      let rest = band_spans last b head (drop (i + 1) es) in
      (λ j. added j ++ bar_lines b head (bars rest (Some (opens j)))) ∙ append_assoc text (bar_lines b head (closed pending s)) (bar_lines b head (bars rest (Some (opened pending s))))
      ∙ ap (λ (l : List ℕ). text ++ l) (sym (flat_map-append (λ s. mark_line (bar b head s)) (closed pending s) (bars rest (Some (opened pending s)))))
      ∙ ap (λ (t : Span). text ++ bar_lines b head (bars (t ∷ rest) pending)) span ∙ at_entry d h (Some slot) is

  -- after the last entry the open bar is left
  at_end : length es ≤ i → text ++ bar_lines b head (bars [] pending) ≡ whole
  unfolding band_spans
  at_end h = sym (ap (λ (ss : List Span). text ++ bar_lines b head (bars ss pending)) (at_drop_all (band_spans last b head) es i h)) ∙ so_far

  pub end_none : length es ≤ i → pending ≡ None → text ≡ whole
  unfolding bars
  end_none h e = sym (append-nil text) ∙ ap (λ (o : Option Span). text ++ bar_lines b head (bars [] o)) (sym e) ∙ at_end h

  pub end_some : length es ≤ i → (s : Span) → pending ≡ Some s → text ++ mark_line (bar b head s) ≡ whole
  unfolding bars
  end_some h s e = ap (λ (l : List ℕ). text ++ l) (sym (append-nil (mark_line (bar b head s)))) ∙ ap (λ (o : Option Span). text ++ bar_lines b head (bars [] o)) (sym e) ∙ at_end h
