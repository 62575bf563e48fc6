-- What the words of a line must be for it to be a cue, and which word is wrong where it is none: the leftmost that its
-- form does not allow, or, where words are missing, the end of the line.
use Rattle.std.specs.Prelude.{ℕ, zero, suc, ◌+◌, Bool, cond, List, [], ◌∷◌, length, Some, None, Ok, Err, Option, Result, ◌==◌, nat_le, slice_index}
use Rattle.cues.specs.Words.{Word, number, letter, neither, words, word_of}
use Rattle.cues.specs.declared.Call.TheVariants.{Order, Take, Give, Close}
use Rattle.cues.specs.declared.Cue.{Cue}
use Rattle.cues.specs.declared.Cue.TheVariants.{Plan, At}

-- a word and its place, the offset of its first byte
pub record Placed : Type 0 where
  pub place : ℕ
  pub bytes : List ℕ

-- words with one space between them, the first at `at`
abbrev pub placed : ℕ → List (List ℕ) → List Placed
placed at [] = []
placed at (w ∷ ws) = record { place = at; bytes = w } ∷ placed (at + length w + 1) ws

abbrev pub then_number : Word → ℕ → Result (List ℕ) ℕ → Result (List ℕ) ℕ
then_number (number n) at (Ok ns) = Ok (n ∷ ns)
then_number (number n) at (Err p) = Err p
then_number (letter c) at r = Err at
then_number neither at r = Err at

-- just k numbers and then the line's end, at `end`
abbrev pub numbers : ℕ → ℕ → List Placed → Result (List ℕ) ℕ
numbers zero end [] = Ok []
numbers zero end (w ∷ ws) = Err w.place
numbers (suc k) end [] = Err end
numbers (suc k) end (w ∷ ws) = then_number (word_of w.bytes) w.place (numbers k end ws)

-- the cue that numbers make
abbrev pub made_cue : (List ℕ → Cue) → Result (List ℕ) ℕ → Result Cue ℕ
made_cue f (Ok ns) = Ok (f ns)
made_cue f (Err p) = Err p

abbrev pub plan : List ℕ → Cue
plan ns = Plan (slice_index ns 0) (slice_index ns 1)

abbrev pub order : ℕ → List ℕ → Cue
order s ns = At s (Order (slice_index ns 0) (slice_index ns 1) (slice_index ns 2) (slice_index ns 3) (slice_index ns 4) (slice_index ns 5) (slice_index ns 6))

abbrev pub take_block : ℕ → List ℕ → Cue
take_block s ns = At s (Take (slice_index ns 0) (slice_index ns 1) (slice_index ns 2))

abbrev pub give : ℕ → List ℕ → Cue
give s ns = At s (Give (slice_index ns 0) (slice_index ns 1))

abbrev pub close : ℕ → List ℕ → Cue
close s ns = At s (Close (slice_index ns 0))

-- a letter at `at`, alone or after a slot, and as many numbers as it wants
abbrev pub letter_form : ℕ → Option ℕ → ℕ → ℕ → List Placed → Result Cue ℕ
letter_form end None c at ws = cond (c == 112) (made_cue plan (numbers 2 end ws)) (Err at)
letter_form end (Some s) c at ws =
    cond (c == 111) (made_cue (order s) (numbers 7 end ws))
    (cond (c == 116) (made_cue (take_block s) (numbers 3 end ws))
    (cond (c == 103) (made_cue (give s) (numbers 2 end ws))
    (cond (c == 99) (made_cue (close s) (numbers 1 end ws)) (Err at))))

abbrev pub call_form : ℕ → ℕ → Word → ℕ → List Placed → Result Cue ℕ
call_form end s (letter c) at ws = letter_form end (Some s) c at ws
call_form end s (number n) at ws = Err at
call_form end s neither at ws = Err at

abbrev pub after_slot : ℕ → ℕ → List Placed → Result Cue ℕ
after_slot end s [] = Err end
after_slot end s (w ∷ ws) = call_form end s (word_of w.bytes) w.place ws

-- a line begins with a letter, p, unless a call came before it; or with a slot, which is at most 1,000,000
abbrev pub cue_form : ℕ → Bool → Word → ℕ → List Placed → Result Cue ℕ
cue_form end begun (letter c) at ws = cond begun (Err at) (letter_form end None c at ws)
cue_form end begun (number s) at ws = cond (nat_le s 1000000) (after_slot end s ws) (Err at)
cue_form end begun neither at ws = Err at

abbrev pub form : ℕ → Bool → List Placed → Result Cue ℕ
form end begun [] = Err end
form end begun (w ∷ ws) = cue_form end begun (word_of w.bytes) w.place ws

-- what a line says, where `begun` tells whether a call came before it; or the place of its first wrong word
abbrev pub line_cue : Bool → List ℕ → Result Cue ℕ
line_cue begun line = form (length line) begun (placed 0 (words line))
