-- Well-formed lists are read.
use Rattle.std.proofs.Common.{◌≡◌, ℕ, suc, ◌+◌, ◌≤◌, Bool, true, false, List, [], ◌∷◌, ◌++◌, map, length, Ok, Result, sym, refl, ap, ◌∙◌, subst, append_assoc, add-zero, arith}
use Rattle.std.specs.List.{AllByRecursion}
use Rattle.std.proofs.lemmas.Bool.{cond-true, cond-false, lt-ltb, le-ltb, eq-eqb}
use Rattle.std.proofs.lemmas.Bool.Decides.{nat_tests}
use Rattle.layers.specs.Entries.{add_number, add_after}
use Rattle.layers.specs.declared.plan.Entry.{Entry}
use Rattle.cues.specs.Text.{cue_line, Writable}
use Rattle.cues.specs.Words.{lines, cut}
use Rattle.cues.specs.declared.Cue.{Cue}
use Rattle.cues.proofs.RoundTrip.{cut_lacking, lacks_line, reads_back}
use Rattle.cuelists.specs.Lists.{Sofar, sofar, Outcome, go_on, cue_read, lines_read, list_read, most}
use Rattle.cuelists.specs.Laws.{Planned, Called, planned_cue, called_cue, Accepted, entries_after, waiting, list_text, ReadWhole, WellFormedListsAreRead}
use Rattle.cuelists.specs.declared.due.Due.{Due}

-- the lines of a list that begins with the line of a cue
lines_more : (cue : Cue) (begun : Bool) (cues : List Cue) → Writable begun cue → lines (list_text (cue ∷ cues)) ≡ cue_line cue ∷ lines (list_text cues)
lines_more cue begun cues w =
    ap lines (append_assoc (cue_line cue) (10 ∷ []) (list_text cues)) ∙ cut_lacking 10 [] (cue_line cue) (list_text cues) (lacks_line cue begun w)

-- a line that says a cue is taken in as the cue says
line_says : (room line : ℕ) (s t : Sofar) (cue : Cue) (cues : List Cue) → Writable s.begun cue → cue_read room line (Ok cue) s ≡ Ok t
    → lines_read room line s (lines (list_text (cue ∷ cues))) ≡ lines_read room (suc line) t (lines (list_text cues))
unfolding lines_read
line_says room line s t cue cues w e =
    ap (lines_read room line s) (lines_more cue s.begun cues w)
    ∙ ap (λ (said : Result Cue ℕ). go_on s (cue_read room line said s) (λ u. lines_read room (suc line) u (lines (list_text cues)))) (reads_back cue s.begun w)
    ∙ ap (λ (step : Result Sofar _). go_on s step (λ u. lines_read room (suc line) u (lines (list_text cues)))) e

any_begun : (b : Bool) (c : Called) → Writable true (called_cue c) → Writable b (called_cue c)
any_begun b c w = w

calls_whole : (room line : ℕ) (s : Sofar) (cs : List Called) → AllByRecursion (λ c. Writable true (called_cue c)) cs → length s.calls + length cs ≤ room
    → ReadWhole (lines_read room line s (lines (list_text (map called_cue cs)))) s.entries (waiting line s.calls cs)
unfolding lines_read cut
calls_whole room line s [] w h = record { no_fault = refl; entries = refl; calls = refl }
calls_whole room line s (c ∷ cs) w h =
    let due : Due = record { slot = c.slot; line = line; call = c.call } in
    let t = sofar s.entries (due ∷ s.calls) true in
    let step = line_says room line s t (called_cue c) (map called_cue cs) (any_begun s.begun c w.0) (cond-true _ _ _ (lt-ltb (length s.calls) room (omega arith))) in
    subst (λ (o : Outcome). ReadWhole o s.entries (waiting (suc line) (due ∷ s.calls) cs)) (sym step) (calls_whole room (suc line) t cs w.1 (omega arith))

-- an accepted entry has numbers that a line may say
writable_plan : (es : List Entry) (p : Planned) → add_number es p.block p.count ≡ 0 → Writable false (planned_cue p)
writable_plan es p e =
    let block : p.block ≤ 4095 = grind (arith, nat_tests) in
    let count : p.count ≤ 200 = grind (arith, nat_tests) in
    (refl, (omega arith, (omega arith, tt)))

plans_whole : (room line : ℕ) (es : List Entry) (ds : List Due) (ps : List Planned) (cs : List Called) → Accepted es ps → AllByRecursion (λ c. Writable true (called_cue c)) cs → length ds + length cs ≤ room
    → ReadWhole (lines_read room line (sofar es ds false) (lines (list_text (map planned_cue ps ++ map called_cue cs)))) (entries_after es ps) (waiting (line + length ps) ds cs)
plans_whole room line es ds [] cs a w h =
    subst (λ (n : ℕ). ReadWhole (lines_read room line (sofar es ds false) (lines (list_text (map called_cue cs)))) es (waiting n ds cs)) (sym (add-zero line)) (calls_whole room line (sofar es ds false) cs w h)
plans_whole room line es ds (p ∷ ps) cs a w h =
    let more = add_after es p.block p.count in
    let t = sofar more ds false in
    let step = line_says room line (sofar es ds false) t (planned_cue p) (map planned_cue ps ++ map called_cue cs) (writable_plan es p a.0) (cond-true _ _ _ (eq-eqb (add_number es p.block p.count) 0 a.0)) in
    let n : suc line + length ps ≡ line + suc (length ps) = omega arith in
    let rest = plans_whole room (suc line) more ds ps cs a.1 w h in
    subst (λ (k : ℕ). ReadWhole (lines_read room line (sofar es ds false) (lines (list_text (map planned_cue (p ∷ ps) ++ map called_cue cs)))) (entries_after more ps) (waiting k ds cs)) n
    (subst (λ (o : Outcome). ReadWhole o (entries_after more ps) (waiting (suc line + length ps) ds cs)) (sym step) rest)

pub well_formed_lists_are_read : WellFormedListsAreRead
well_formed_lists_are_read room es ds ps cs a w h b =
    let input = list_text (map planned_cue ps ++ map called_cue cs) in
    let short = cond-false _ _ _ (le-ltb 65536 (length input) b) in
    let n : 1 + length ps ≡ suc (length ps) = omega arith in
    subst (λ (k : ℕ). ReadWhole (list_read room es ds input) (entries_after es ps) (waiting k ds cs)) n
    (subst (λ (o : Outcome). ReadWhole o (entries_after es ps) (waiting (1 + length ps) ds cs)) (sym short) (plans_whole (most room) 1 es ds ps cs a w h))
