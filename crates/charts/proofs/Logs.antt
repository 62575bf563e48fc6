-- A log read line by line.
use Rattle.std.proofs.Common.{◌≡◌, ℕ, ◌+◌, Bool, false, List, [], ◌∷◌, ◌++◌, Ok, Err, Result, sym, refl, ap, ◌∙◌, append_assoc, append-nil}
use Rattle.charts.specs.Logs.{is_end, line_read, and_then, onto, lines_read}
use Rattle.charts.specs.declared.entry.Entry.{Entry}
use Rattle.charts.specs.declared.log.LogFault.{LogFault}

-- the entries es were read, and r is read of the rest
abbrev pub with_front : List Entry → Result (List Entry) LogFault → Result (List Entry) LogFault
with_front es (Ok fs) = Ok (es ++ fs)
with_front es (Err f) = Err f

pub with_front_none : (r : Result (List Entry) LogFault) → r ≡ with_front [] r
with_front_none (Ok es) = refl
with_front_none (Err f) = refl

with_front_more : (es : List Entry) (e : Entry) (r : Result (List Entry) LogFault) → with_front es (onto e r) ≡ with_front (es ++ e ∷ []) r
with_front_more es e (Ok fs) = ap (λ (l : List Entry). Ok l) (sym (append_assoc es (e ∷ []) fs))
with_front_more es e (Err f) = refl

-- the loop begins at the first line, with no entries
pub turn_first : (count : ℕ) (es : List Entry) (ls left : List (List ℕ)) → es ≡ [] → count ≡ 0 → left ≡ ls → lines_read 1 false ls ≡ with_front es (lines_read (count + 1) false left)
turn_first count es ls left none n e = with_front_none (lines_read 1 false ls) ∙ (λ j. with_front (sym none j) (lines_read (sym n j + 1) false (sym e j)))

-- one turn of the loop: the line `text` first of those that are left, with `all` what the whole log says
module _ (all : Result (List Entry) LogFault) (es : List Entry) (n number : ℕ) (over : Bool) (left rest : List (List ℕ)) (text : List ℕ) (r : Result Entry LogFault)
    (same-line : number ≡ n) (is : left ≡ text ∷ rest) (read : r ≡ line_read number over text) (so_far : all ≡ with_front es (lines_read n over left)) where
  split : all ≡ with_front es (and_then r (λ e. onto e (lines_read (n + 1) (is_end e) rest)))
  unfolding lines_read
  split =
      so_far ∙ ap (λ (ls : List (List ℕ)). with_front es (lines_read n over ls)) is
      ∙ ap (λ (x : Result Entry LogFault). with_front es (and_then x (λ e. onto e (lines_read (n + 1) (is_end e) rest)))) (sym (read ∙ ap (λ (k : ℕ). line_read k over text) same-line))

  pub turn_taken : (e : Entry) (count : ℕ) (after : List Entry) (end : Bool) → r ≡ Ok e → count ≡ n → after ≡ es ++ e ∷ [] → end ≡ is_end e → all ≡ with_front after (lines_read (count + 1) end rest)
  turn_taken e count after end came k put over =
      split ∙ ap (λ (x : Result Entry LogFault). with_front es (and_then x (λ e. onto e (lines_read (n + 1) (is_end e) rest)))) came
      ∙ with_front_more es e (lines_read (n + 1) (is_end e) rest) ∙ (λ j. with_front (sym put j) (lines_read (sym k j + 1) (sym over j) rest))

  pub turn_refused : (f : LogFault) → r ≡ Err f → all ≡ Err f
  turn_refused f came = split ∙ ap (λ (x : Result Entry LogFault). with_front es (and_then x (λ e. onto e (lines_read (n + 1) (is_end e) rest)))) came

pub turn_none : (all : Result (List Entry) LogFault) (es : List Entry) (n : ℕ) (over : Bool) (left : List (List ℕ)) → left ≡ [] → all ≡ with_front es (lines_read n over left) → all ≡ Ok es
unfolding lines_read
turn_none all es n over left none so_far =
    so_far ∙ ap (λ (l : List (List ℕ)). with_front es (lines_read n over l)) none ∙ ap (λ (l : List Entry). Ok l) (append-nil es)
