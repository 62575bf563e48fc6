-- What a line of a log says: the form of each kind of line, and which word is wrong where a line has none of them.
use Rattle.std.specs.Prelude.{ℕ, ◌+◌, Bool, cond, ◌&&◌, ◌||◌, List, [], ◌∷◌, length, Some, None, Ok, Err, Option, Result, ◌==◌, nat_le, nat_lt, slice_index, slice_set}
use Rattle.cues.specs.Words.{Word, number, letter, neither, words, word_of}
use Rattle.cues.specs.Forms.{Placed, placed}
use Rattle.cues.specs.Reading.{words_from, place_after}
use Rattle.charts.specs.declared.entry.Entry.{Entry}
use Rattle.charts.specs.declared.entry.Entry.TheVariants.{Order, Take, Give, Close, Read, Failed, Ended, Done, Refused}
use Rattle.charts.specs.declared.entry.Kind.{Kind}
use Rattle.charts.specs.declared.entry.Kind.TheVariants as kind

-- the letters are those of the cues, r for read, f for failed and e for ended
abbrev pub letter_kind : ℕ → Option Kind
letter_kind c =
    cond (c == 111) (Some kind.Order)
    (cond (c == 116) (Some kind.Take)
    (cond (c == 103) (Some kind.Give)
    (cond (c == 99) (Some kind.Close)
    (cond (c == 114) (Some kind.Read)
    (cond (c == 102) (Some kind.Failed)
    (cond (c == 101) (Some kind.Ended) None))))))

-- how many numbers a line has, those among them that are not yet read being 0: a crowded order, 6, tells its span, and
-- a granted take, 0, its lease
abbrev pub wanted : Kind → List ℕ → ℕ
wanted kind.Order ns = cond (slice_index ns 1 == 6) 4 2
wanted kind.Take ns = cond (slice_index ns 3 == 0) 5 4
wanted kind.Give ns = 3
wanted kind.Close ns = 2
wanted kind.Read ns = 2
wanted kind.Failed ns = 3
wanted kind.Ended ns = 2
wanted kind.Done ns = 3
wanted kind.Refused ns = 2

-- the entry of a first number, a slot but for the lines with no letter, and the numbers that follow
abbrev pub entry_from : Kind → ℕ → List ℕ → Entry
entry_from kind.Order s ns = Order s (slice_index ns 0) (slice_index ns 1) (slice_index ns 2) (slice_index ns 3)
entry_from kind.Take s ns = Take s (slice_index ns 0) (slice_index ns 1) (slice_index ns 2) (slice_index ns 3) (slice_index ns 4)
entry_from kind.Give s ns = Give s (slice_index ns 0) (slice_index ns 1) (slice_index ns 2)
entry_from kind.Close s ns = Close s (slice_index ns 0) (slice_index ns 1)
entry_from kind.Read s ns = Read s (slice_index ns 0) (slice_index ns 1)
entry_from kind.Failed s ns = Failed s (slice_index ns 0) (slice_index ns 1) (slice_index ns 2)
entry_from kind.Ended s ns = Ended s (slice_index ns 0) (slice_index ns 1)
entry_from kind.Done s ns = Done (slice_index ns 0) (slice_index ns 1) (slice_index ns 2)
entry_from kind.Refused s ns = Refused s (slice_index ns 0) (slice_index ns 1)

abbrev pub zeros : List ℕ
zeros = 0 ∷ 0 ∷ 0 ∷ 0 ∷ 0 ∷ []

abbrev pub then_number : Word → ℕ → (ℕ → Result (List ℕ) ℕ) → Result (List ℕ) ℕ
then_number (number n) at next = next n
then_number (letter c) at next = Err at
then_number neither at next = Err at

-- the numbers of a line, of which the first i are read, up to the line's end, at `end`
abbrev pub filled : Kind → ℕ → List ℕ → ℕ → List Placed → Result (List ℕ) ℕ
filled k i ns end [] = cond (nat_lt i (wanted k ns)) (Err end) (Ok ns)
filled k i ns end (w ∷ ws) =
    cond (nat_lt i (wanted k ns)) (then_number (word_of w.bytes) w.place (λ n. filled k (i + 1) (slice_set ns i n) end ws)) (Err w.place)

abbrev pub made_entry : Kind → ℕ → Result (List ℕ) ℕ → Result Entry ℕ
made_entry k s (Ok ns) = Ok (entry_from k s ns)
made_entry k s (Err p) = Err p

-- a line of kind k, once its numbers are to be read
abbrev pub numbered : Kind → ℕ → ℕ → List Placed → Result Entry ℕ
numbered k s end ws = made_entry k s (filled k 0 zeros end ws)

abbrev pub lettered : Option Kind → ℕ → ℕ → ℕ → List Placed → Result Entry ℕ
lettered None at s end ws = Err at
lettered (Some k) at s end ws = numbered k s end ws

-- after the first number a letter says which line it is; without one it tells why the job did not run
abbrev pub second_word : Word → ℕ → ℕ → Placed → List Placed → Result Entry ℕ
second_word (letter c) s end w ws = lettered (letter_kind c) w.place s end ws
second_word (number n) s end w ws = numbered kind.Refused s end (w ∷ ws)
second_word neither s end w ws = Err w.place

abbrev pub after_number : ℕ → ℕ → List Placed → Result Entry ℕ
after_number s end [] = Err end
after_number s end (w ∷ ws) = second_word (word_of w.bytes) s end w ws

abbrev pub first_word : Word → ℕ → ℕ → List Placed → Result Entry ℕ
first_word (number s) end at ws = after_number s end ws
first_word (letter c) end at ws = Err at
first_word neither end at ws = Err at

abbrev pub entry_form : ℕ → List Placed → Result Entry ℕ
entry_form end [] = Err end
entry_form end (w ∷ ws) = first_word (word_of w.bytes) end w.place ws

-- the first word is `done`
abbrev pub begins_done : List ℕ → Bool
begins_done l =
    nat_le 4 (length l)
    && (slice_index l 0 == 100 && (slice_index l 1 == 111 && (slice_index l 2 == 110 && (slice_index l 3 == 101 && (length l == 4 || slice_index l 4 == 32)))))

-- what a line says, or the place of its first wrong word
abbrev pub line_entry : List ℕ → Result Entry ℕ
line_entry l = cond (begins_done l) (numbered kind.Done 0 (length l) (words_from l (place_after l 4))) (entry_form (length l) (placed 0 (words l)))
