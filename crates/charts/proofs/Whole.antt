-- The log of a job reads as what its lines tell.
use Rattle.std.proofs.Common.{◌≡◌, ℕ, ◌+◌, ◌≤◌, Bool, false, eqb, List, [], ◌∷◌, ◌++◌, map, Ok, decimal, Result, sym, refl, ap, ◌∙◌, append_assoc, append-nil, lit<}
use Rattle.std.specs.List.{flat_map, AllByRecursion}
use Rattle.std.proofs.lemmas.Bool.{cond-false, true≢false}
use Rattle.cues.specs.Words.{lines, cut}
use Rattle.cues.proofs.RoundTrip.{Lacks, cut_lacking, lacks_decimal}
use Rattle.loglines.specs.Text.{spaced, opening, order_told, take_told, log_text, log_line}
use Rattle.loglines.specs.declared.LogLine.{LogLine}
use Rattle.loglines.specs.declared.LogLine.TheVariants as line
use Rattle.refusal.specs.Told.{answer_number}
use Rattle.charts.specs.Back.{told_entry, Short, Running, RunsReadBack, RefusedListsReadBack, LogsReadBack}
use Rattle.charts.specs.Logs.{is_end, is_misplaced, placed_entry, and_then, onto, lines_read}
use Rattle.charts.specs.declared.entry.Entry.{Entry}
use Rattle.charts.specs.declared.entry.Entry.TheVariants.{Order, Take, Give, Close, Read, Failed, Ended, Done, Refused}
use Rattle.charts.specs.declared.log.LogFault.{LogFault}
use Rattle.charts.proofs.Back.{written_lines_read_back}

lacks_both : (xs ys : List ℕ) → Lacks 10 xs → Lacks 10 ys → Lacks 10 (xs ++ ys)
lacks_both [] ys a b = b
lacks_both (x ∷ xs) ys a b = (a.0, lacks_both xs ys a.1 b)

lacks_spaced : (ns : List ℕ) → AllByRecursion (λ n. n ≤ 9999999) ns → Lacks 10 (spaced ns)
lacks_spaced [] a = tt
lacks_spaced (n ∷ ns) a = (refl, lacks_both (decimal n) (spaced ns) (lacks_decimal n a.0 10 (lit< tt)) (lacks_spaced ns a.1))

lacks_lettered : (s c : ℕ) (ns : List ℕ) → s ≤ 9999999 → AllByRecursion (λ n. n ≤ 9999999) ns → eqb c 10 ≡ false → Lacks 10 (opening s c ++ spaced ns)
lacks_lettered s c ns small a u = lacks_both (opening s c) (spaced ns) (lacks_both (decimal s) (32 ∷ c ∷ []) (lacks_decimal s small 10 (lit< tt)) (refl, (u, tt))) (lacks_spaced ns a)

-- no line has byte 10 but at its end
lacks_line : (l : LogLine) → Short l → Lacks 10 (log_text l)
lacks_line (line.Order slot head answer) a = lacks_lettered slot 111 (head ∷ order_told answer) a.0 a.1 refl
lacks_line (line.Take slot head block party answer) a = lacks_lettered slot 116 (head ∷ block ∷ party ∷ take_told answer) a.0 a.1 refl
lacks_line (line.Give slot party lease answer) a = lacks_lettered slot 103 (party ∷ lease ∷ answer_number answer ∷ []) a.0 a.1 refl
lacks_line (line.Close slot head answer) a = lacks_lettered slot 99 (head ∷ answer_number answer ∷ []) a.0 a.1 refl
lacks_line (line.Read slot head block) a = lacks_lettered slot 114 (head ∷ block ∷ []) a.0 a.1 refl
lacks_line (line.Failed slot head block attempt) a = lacks_lettered slot 102 (head ∷ block ∷ attempt ∷ []) a.0 a.1 refl
lacks_line (line.Ended slot head cause) a = lacks_lettered slot 101 (head ∷ cause ∷ []) a.0 a.1 refl
lacks_line (line.Done slot attempts failed) a = (refl, (refl, (refl, (refl, lacks_spaced (slot ∷ attempts ∷ failed ∷ []) a))))
lacks_line (line.BadList n ln place) a = lacks_both (decimal n) (spaced (ln ∷ place ∷ [])) (lacks_decimal n a.0 10 (lit< tt)) (lacks_spaced (ln ∷ place ∷ []) a.1)

-- the first line apart
lines_more : (l : LogLine) (rest : List ℕ) → Short l → lines (log_line l ++ rest) ≡ log_text l ∷ lines rest
lines_more l rest a = ap lines (append_assoc (log_text l) (10 ∷ []) rest) ∙ cut_lacking 10 [] (log_text l) rest (lacks_line l a)

-- a line that stands where it may is read
line_taken : (l : LogLine) (n : ℕ) (ls : List (List ℕ)) → Short l → is_misplaced (told_entry l) n ≡ false → lines_read n false (log_text l ∷ ls) ≡ onto (told_entry l) (lines_read (n + 1) (is_end (told_entry l)) ls)
unfolding lines_read
line_taken l n ls a placed =
    let next : Entry → Result (List Entry) LogFault = λ e. onto e (lines_read (n + 1) (is_end e) ls) in
    ap (λ (r : Result Entry ℕ). and_then (placed_entry n false r) next) (written_lines_read_back l a) ∙ ap (λ (r : Result Entry LogFault). and_then r next) (cond-false _ _ _ placed)

running_placed : (e : Entry) (n : ℕ) → is_end e ≡ false → is_misplaced e n ≡ false
running_placed (Order slot head answer l h) n r = refl
running_placed (Take slot head block party answer lease) n r = refl
running_placed (Give slot party lease answer) n r = refl
running_placed (Close slot head answer) n r = refl
running_placed (Read slot head block) n r = refl
running_placed (Failed slot head block attempt) n r = refl
running_placed (Ended slot head cause) n r = refl
running_placed (Done slot attempts failed) n r = refl
running_placed (Refused number ln place) n r = absurd (true≢false r)

module _ (slot attempts failed : ℕ) (last : Short (line.Done slot attempts failed)) where
  runs_from : (n : ℕ) (ls : List LogLine) → AllByRecursion (λ l. Running l × Short l) ls → lines_read n false (lines (flat_map log_line (ls ++ line.Done slot attempts failed ∷ []))) ≡ Ok (map told_entry (ls ++ line.Done slot attempts failed ∷ []))
  unfolding cut lines_read
  runs_from n [] a =
      ap (lines_read n false) (lines_more (line.Done slot attempts failed) [] last) ∙ line_taken (line.Done slot attempts failed) n [] last refl
  runs_from n (l ∷ ls) a =
      let rest = flat_map log_line (ls ++ line.Done slot attempts failed ∷ []) in
      ap (lines_read n false) (lines_more l rest a.0.1) ∙ line_taken l n (lines rest) a.0.1 (running_placed (told_entry l) n a.0.0)
      ∙ ap (λ (b : Bool). onto (told_entry l) (lines_read (n + 1) b (lines rest))) a.0.0 ∙ ap (onto (told_entry l)) (runs_from (n + 1) ls a.1)

runs_read_back : RunsReadBack
runs_read_back ls slot attempts failed a last = runs_from slot attempts failed last 1 ls a

refused_lists_read_back : RefusedListsReadBack
unfolding cut lines_read
refused_lists_read_back n ln place a =
    let l = line.BadList n ln place in
    ap (λ (bs : List ℕ). lines_read 1 false (lines bs)) (sym (append-nil (log_line l))) ∙ ap (lines_read 1 false) (lines_more l [] a) ∙ line_taken l 1 [] a refl

pub logs_read_back : LogsReadBack
logs_read_back = record { runs = runs_read_back; refused = refused_lists_read_back }
