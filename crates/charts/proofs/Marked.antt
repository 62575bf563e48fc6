-- The marks of lines, one after another; where a lease ends; the last slot.
use Rattle.std.specs.Prelude.{find, MatchOption, max, fold}
use Rattle.std.proofs.Common.{◌≡◌, ℕ, ◌+◌, Bool, true, false, cond, List, [], ◌∷◌, ◌++◌, Some, None, Option, sym, refl, ap, ◌∙◌, append_assoc, append-nil, length, arith}
use Rattle.charts.specs.Marks.{mark_line}
use Rattle.charts.specs.Charts.{latest}
use Rattle.charts.specs.Lines.{slot_of, ends_lease, lease_end, mark_of, mark_lines, marks_lines}
use Rattle.charts.specs.declared.entry.Entry.{Entry}
use Rattle.charts.specs.declared.mark.Mark.{Mark}

pub latest_fold : (n : ℕ) (es : List Entry) → fold (λ m e. max (slot_of e) m) n es ≡ latest n es
latest_fold n [] = refl
latest_fold n (e ∷ es) = latest_fold (max (slot_of e) n) es

-- the first line that ends the lease, where there is one
pub lease_found : (last lease : ℕ) (es : List Entry) (found : Option Entry) → found ≡ find (ends_lease lease) es → MatchOption found (last + 1 ≡ lease_end last lease es) (λ e. slot_of e ≡ lease_end last lease es)
lease_found last lease [] (Some e) f = absurd (cc)
lease_found last lease [] None f = refl
lease_found last lease (x ∷ xs) found f = by (ends_lease lease x) found f (lease_found last lease xs)
  where
    by : (b : Bool) (found : Option Entry) → found ≡ cond b (Some x) (find (ends_lease lease) xs)
        → ((found : Option Entry) → found ≡ find (ends_lease lease) xs → MatchOption found (last + 1 ≡ lease_end last lease xs) (λ e. slot_of e ≡ lease_end last lease xs))
        → MatchOption found (last + 1 ≡ cond b (slot_of x) (lease_end last lease xs)) (λ e. slot_of e ≡ cond b (slot_of x) (lease_end last lease xs))
    by true (Some e) f later = let same : e ≡ x = cc in ap slot_of same
    by true None f later = absurd (cc)
    by false found f later = later found f

-- one turn of the loop over the lines, and its end
module _ (last : ℕ) (rest after : List Entry) (e : Entry) (text whole : List ℕ) (is : rest ≡ e ∷ after) (so_far : text ++ marks_lines last rest ≡ whole) where
  at_line : (said : Option Mark) → said ≡ mark_of last e after → text ++ (mark_lines said ++ marks_lines last after) ≡ whole
  unfolding marks_lines
  at_line said s =
      ap (λ (o : Option Mark). text ++ (mark_lines o ++ marks_lines last after)) s ∙ sym (ap (λ (l : List Entry). text ++ marks_lines last l) is) ∙ so_far

  pub line_marked : (m : Mark) → Some m ≡ mark_of last e after → (added : List ℕ) → added ≡ text ++ mark_line m → added ++ marks_lines last after ≡ whole
  line_marked m s added put =
      ap (λ (l : List ℕ). l ++ marks_lines last after) put ∙ append_assoc text (mark_line m) (marks_lines last after) ∙ at_line (Some m) s

  pub line_unmarked : None ≡ mark_of last e after → text ++ marks_lines last after ≡ whole
  line_unmarked s = at_line None s

pub lines_end : (last : ℕ) (rest : List Entry) (text whole : List ℕ) → length rest ≡ 0 → text ++ marks_lines last rest ≡ whole → text ≡ whole
unfolding marks_lines
lines_end last [] text whole none so_far = sym (append-nil text) ∙ so_far
lines_end last (e ∷ es) text whole none so_far = absurd (omega arith)
