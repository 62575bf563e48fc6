-- A line of the log with a word too many.
use Rattle.std.proofs.Common.{◌≡◌, ℕ, ◌≤◌, List, drop, Some, Err, Option, ap, ◌∙◌}
use Rattle.std.proofs.lemmas.Bool.{cond-false, le-ltb}
use Rattle.cues.specs.Forms.{placed}
use Rattle.cues.specs.Reading.{words_from}
use Rattle.cues.proofs.Cuts.{front_first}
use Rattle.charts.specs.declared.entry.Kind.{Kind}
use Rattle.charts.specs.Entries.{wanted, filled}

-- all numbers are read, and another word begins at `place`
pub filled_some : (k : Kind) (i : ℕ) (ns : List ℕ) (end : ℕ) (line : List ℕ) (at : Option ℕ) → wanted k ns ≤ i → (place : ℕ) → at ≡ Some place → filled k i ns end (words_from line at) ≡ Err place
filled_some k i ns end line at h place e =
    ap (λ (o : Option ℕ). filled k i ns end (words_from line o)) e ∙ ap (λ (l : List (List ℕ)). filled k i ns end (placed place l)) (front_first (drop place line)).1
    ∙ cond-false _ _ _ (le-ltb i (wanted k ns) h)
