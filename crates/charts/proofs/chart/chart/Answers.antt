use Rattle.std.proofs.Common.{◌≡◌, ℕ, List, ◌++◌, ap, ◌∙◌, append_assoc}
use Rattle.charts.specs.Frame.{head_lines, legend_lines}
use Rattle.charts.specs.Charts.{text_by}
use Rattle.charts.proofs.chart.chart.Goals as goal

module _ {t u v w x : List ℕ} (a b c d e : List ℕ) where
  five_parts : t ≡ a → u ≡ t ++ b → v ≡ u ++ c → w ≡ v ++ d → x ≡ w ++ e → x ≡ a ++ (b ++ (c ++ (d ++ e)))
  five_parts f g h i j =
      let four : w ≡ ((a ++ b) ++ c) ++ d = i ∙ ap (λ (l : List ℕ). l ++ d) (h ∙ ap (λ (l : List ℕ). l ++ c) (g ∙ ap (λ (l : List ℕ). l ++ b) f)) in
      let grouped : (((a ++ b) ++ c) ++ d) ++ e ≡ a ++ (b ++ (c ++ (d ++ e))) = simp append_assoc in
      j ∙ ap (λ (l : List ℕ). l ++ e) four ∙ grouped

pub returns-clause-text : goal.returns-clause-text
unfolding head_lines legend_lines
returns-clause-text c =
    five_parts head_lines _ _ _ legend_lines c.in_ok-text.ensures.ok c.in_ok-add_ticks.ensures c.in_ok-add_rows.ensures c.in_ok-add_marks.ensures c.in_ok-push_str.ensures.bytes ∙ ap (λ (n : ℕ). text_by n c.args.entries.now) c.of-scale.ensures
