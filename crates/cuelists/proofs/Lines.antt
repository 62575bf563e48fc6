-- A list read line by line.
use Rattle.std.proofs.Common.{◌≡◌, ℕ, suc, ◌+◌, Bool, true, false, cond, eqb, ltb, List, [], ◌∷◌, length, Some, None, Ok, Err, Result, sym, refl, ap, ◌∙◌, subst, add-one, arith}
use Rattle.std.specs.List.Sorted.{IsPermutation}
use Rattle.std.proofs.lemmas.List.Sorted.{IsPermutation-refl, IsPermutation-trans, IsPermutation-cons, length_permutation}
use Rattle.layers.specs.Entries.{add_number, add_after}
use Rattle.layers.specs.declared.plan.Entry.{Entry}
use Rattle.cues.specs.Forms.{line_cue}
use Rattle.cues.specs.declared.Cue.{Cue}
use Rattle.cues.specs.declared.Cue.TheVariants.{Plan, At}
use Rattle.cuelists.specs.Lists.{Sofar, sofar, Outcome, fault, go_on, call_read, cue_read, lines_read, Took, Reads, fault_of}
use Rattle.cuelists.specs.declared.due.Due.{Due}
use Rattle.cuelists.specs.declared.list.ListFault.{ListFault}
use Rattle.cuelists.specs.declared.list.Reason.TheVariants.{BadCue, BadEntry, Full}

-- two outcomes that differ at most in the order of the calls
pub record Same (o p : Outcome) : Type 0 where
  pub faults : o.first_fault ≡ p.first_fault
  pub entries : o.left.entries ≡ p.left.entries
  pub calls : IsPermutation o.left.calls p.left.calls

pub same_trans : (o p q : Outcome) → Same o p → Same p q → Same o q
same_trans o p q a b = record { faults = a.faults ∙ b.faults; entries = a.entries ∙ b.entries; calls = IsPermutation-trans _ _ _ a.calls b.calls }

stopped : (es : List Entry) (cs ds : List Due) (b : Bool) (f : ListFault) → IsPermutation cs ds → Same (record { left = sofar es cs b; first_fault = Some f }) (record { left = sofar es ds b; first_fault = Some f })
stopped es cs ds b f h = record { faults = refl; entries = refl; calls = h }

-- the order of the calls that wait does not matter
pub same_lines : (room line : ℕ) (es : List Entry) (cs ds : List Due) (b : Bool) (ls : List (List ℕ)) → IsPermutation cs ds → Same (lines_read room line (sofar es cs b) ls) (lines_read room line (sofar es ds b) ls)
unfolding lines_read
same_lines room line es cs ds b [] h = record { faults = refl; entries = refl; calls = h }
same_lines room line es cs ds b (l ∷ ls) h = by (line_cue b l) (λ es cs ds b k. same_lines room (suc line) es cs ds b ls k)
  where
    next : Sofar → Outcome
    next t = lines_read room (suc line) t ls

    by_plan : (t : Bool) (more : List Entry) → (Same (next (sofar more cs false)) (next (sofar more ds false)))
        → Same (go_on (sofar es cs b) (cond t (Ok (sofar more cs false)) (Err (fault BadEntry line))) next) (go_on (sofar es ds b) (cond t (Ok (sofar more ds false)) (Err (fault BadEntry line))) next)
    by_plan true more k = k
    by_plan false more k = stopped es cs ds b (fault BadEntry line) h

    by_call : (t : Bool) (due : Due) → Same (next (sofar es (due ∷ cs) true)) (next (sofar es (due ∷ ds) true))
        → Same (go_on (sofar es cs b) (cond t (Ok (sofar es (due ∷ cs) true)) (Err (fault Full line))) next) (go_on (sofar es ds b) (cond t (Ok (sofar es (due ∷ ds) true)) (Err (fault Full line))) next)
    by_call true due k = k
    by_call false due k = stopped es cs ds b (fault Full line) h

    by : (said : Result Cue ℕ) → ((es : List Entry) (cs ds : List Due) (b : Bool) → IsPermutation cs ds → Same (next (sofar es cs b)) (next (sofar es ds b)))
        → Same (go_on (sofar es cs b) (cue_read room line said (sofar es cs b)) next) (go_on (sofar es ds b) (cue_read room line said (sofar es ds b)) next)
    by (Err place) k = stopped es cs ds b (fault (BadCue place) line) h
    by (Ok (Plan block count)) k = by_plan (eqb (add_number es block count) 0) (add_after es block count) (k (add_after es block count) cs ds false h)
    by (Ok (At slot call)) k =
        let due : Due = record { slot = slot; line = line; call = call } in
        subst (λ (n : ℕ). Same (go_on (sofar es cs b) (call_read room due (sofar es cs b)) next) (go_on (sofar es ds b) (cond (ltb n room) (Ok (sofar es (due ∷ ds) true)) (Err (fault Full line))) next)) (sym (length_permutation cs ds h))
        (by_call (ltb (length cs) room) due (k es (due ∷ cs) (due ∷ ds) true (IsPermutation-cons due cs ds h)))

module _ (s : Sofar) (r : Result Bool ListFault) (es : List Entry) (cs : List Due) where
  taken : (room line : ℕ) (ls : List (List ℕ)) (step : Result Sofar ListFault) (b : Bool) → Took s step r es cs → r ≡ Ok b → Same (go_on s step (λ t. lines_read room line t ls)) (lines_read room line (sofar es cs b) ls)
  taken room line ls (Ok t) b h e =
      let came : t.begun ≡ b = cc in
      let state : sofar t.entries cs t.begun ≡ sofar es cs b = (λ i. sofar (sym h.1 i) cs (came i)) in
      subst (λ (u : Sofar). Same (lines_read room line t ls) (lines_read room line u ls)) state (same_lines room line t.entries t.calls cs t.begun ls h.2)
  taken room line ls (Err f) b h e = let z : ◌≡◌ {A = ℕ} 0 1 = cc in absurd (omega arith)

  refused : (next : Sofar → Outcome) (step : Result Sofar ListFault) (f : ListFault) → Took s step r es cs → r ≡ Err f → Same (go_on s step next) (record { left = sofar es cs s.begun; first_fault = Some f })
  refused next (Ok t) f h e = let z : ◌≡◌ {A = ℕ} 0 1 = cc in absurd (omega arith)
  refused next (Err g) f h e =
      let same : g ≡ f = cc in
      record { faults = ap (λ (x : ListFault). Some x) same; entries = sym h.1; calls = subst (IsPermutation s.calls) (sym h.2) (IsPermutation-refl s.calls) }

module _ (room line : ℕ) (s : Sofar) (l : List ℕ) (ls : List (List ℕ)) (r : Result Bool ListFault) (es : List Entry) (cs : List Due) (took : Took s (cue_read room line (line_cue s.begun l) s) r es cs) where
  -- a line that was taken in
  pub line_taken : (b : Bool) → r ≡ Ok b → Same (lines_read room line s (l ∷ ls)) (lines_read room (line + 1) (sofar es cs b) ls)
  unfolding lines_read
  line_taken b e = subst (λ (n : ℕ). Same (go_on s (cue_read room line (line_cue s.begun l) s) (λ t. lines_read room (suc line) t ls)) (lines_read room n (sofar es cs b) ls)) (sym (add-one line)) (taken s r es cs room (suc line) ls (cue_read room line (line_cue s.begun l) s) b took e)

  -- a line that was not
  pub line_refused : (f : ListFault) → r ≡ Err f → Same (lines_read room line s (l ∷ ls)) (record { left = sofar es cs s.begun; first_fault = Some f })
  unfolding lines_read
  line_refused f e = refused s r es cs (λ t. lines_read room (suc line) t ls) (cue_read room line (line_cue s.begun l) s) f took e

pub lines_none : (room line : ℕ) (s : Sofar) → lines_read room line s [] ≡ record { left = s; first_fault = None }
unfolding lines_read
lines_none room line s = refl

-- an outcome with the same fault, entries and calls is the list's
pub reads_from : (o p : Outcome) (r : Result (Unit {0}) ListFault) (es : List Entry) (cs : List Due) → Same o p → fault_of r ≡ p.first_fault → es ≡ p.left.entries → cs ≡ p.left.calls → Reads o r es cs
reads_from o p r es cs same f e c = record { answer = f ∙ sym same.faults; entries = e ∙ sym same.entries; calls = subst (IsPermutation o.left.calls) (sym c) same.calls }

-- the loop begins at the first line
pub turn_first : (room count : ℕ) (s : Sofar) (ls left : List (List ℕ)) → count ≡ 0 → left ≡ ls → Same (lines_read room 1 s ls) (lines_read room (count + 1) s left)
turn_first room count s ls left n e =
    let o = lines_read room 1 s ls in
    let self : Same o o = record { faults = refl; entries = refl; calls = IsPermutation-refl o.left.calls } in
    subst (Same o) (λ j. lines_read room (sym n j + 1) s (sym e j)) self

-- one turn of the loop: the line `text` first of those that are left, with `start` the outcome of the whole list
module _ (start : Outcome) (room now line number : ℕ) (s : Sofar) (left rest : List (List ℕ)) (text : List ℕ) (r : Result Bool ListFault) (es : List Entry) (cs : List Due)
    (same-room : now ≡ room) (same-line : number ≡ line) (is : left ≡ text ∷ rest) (took : Took s (cue_read now number (line_cue s.begun text) s) r es cs)
    (so_far : Same start (lines_read room line s left)) where
  here : Took s (cue_read room line (line_cue s.begun text) s) r es cs
  here =
      subst (λ (n : ℕ). Took s (cue_read n line (line_cue s.begun text) s) r es cs) same-room
      (subst (λ (k : ℕ). Took s (cue_read now k (line_cue s.begun text) s) r es cs) same-line took)

  from : Same start (lines_read room line s (text ∷ rest))
  from = subst (λ (ls : List (List ℕ)). Same start (lines_read room line s ls)) is so_far

  pub turn_taken : (b : Bool) (count : ℕ) → r ≡ Ok b → count ≡ line → Same start (lines_read room (count + 1) (sofar es cs b) rest)
  turn_taken b count e n =
      subst (λ (k : ℕ). Same start (lines_read room (k + 1) (sofar es cs b) rest)) (sym n) (same_trans _ _ _ from (line_taken room line s text rest r es cs here b e))

  pub turn_refused : (f : ListFault) → r ≡ Err f → Reads start (Err f) es cs
  turn_refused f e = reads_from start _ (Err f) es cs (same_trans _ _ _ from (line_refused room line s text rest r es cs here f e)) refl refl refl

-- the end of the loop
pub turn_none : (start : Outcome) (room line : ℕ) (s : Sofar) (left : List (List ℕ)) → left ≡ [] → Same start (lines_read room line s left) → Reads start (Ok tt) s.entries s.calls
turn_none start room line s left none so_far =
    let last = ap (lines_read room line s) none ∙ lines_none room line s in
    reads_from start _ (Ok tt) s.entries s.calls (subst (Same start) last so_far) refl refl refl
