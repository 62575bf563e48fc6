-- Words, and lines, as they are read one after another.
use Rattle.std.specs.Prelude.{◌≡◌, ℕ, ◌+◌, cond, List, [], ◌∷◌, length, drop, Some, None, Ok, Err, Option, Result, nat_lt}
use Rattle.cues.specs.Forms.{Placed, placed}
use Rattle.cues.specs.Tokens.{Tells}
use Rattle.cues.specs.Words.{Word, number, letter, neither, lines, words, word_of}
use Rattle.cues.specs.declared.lines.Lines.{Lines}
use Rattle.cues.specs.declared.reading.Words.{Words}
use Rattle.cues.specs.declared.token.Token.{Token}

-- the words of a line from `from` on
abbrev pub words_from : List ℕ → Option ℕ → List Placed
words_from line None = []
words_from line (Some from) = placed from (words (drop from line))

-- where a word begins after one that ends at `end`
abbrev pub place_after : List ℕ → ℕ → Option ℕ
place_after line end = cond (nat_lt end (length line)) (Some (end + 1)) None

abbrev pub left : Words → List Placed
left w = words_from w.line.now w.at

abbrev pub end : Words → ℕ
end w = length w.line.now

-- r is the first of the words ws and others are the rest, or r is the place of the fault
abbrev pub Next : List Placed → ℕ → Result Token ℕ → List Placed → Type 0
Next [] end (Ok token) others = ⊥
Next [] end (Err place) others = place ≡ end
Next (w ∷ ws) end (Ok token) others = Tells w.place w.bytes token × (others ≡ ws)
Next (w ∷ ws) end (Err place) others = (place ≡ w.place) × (word_of w.bytes ≡ neither)

abbrev pub IsNoNumber : Word → Type 0
IsNoNumber (number n) = ⊥
IsNoNumber (letter c) = Unit {0}
IsNoNumber neither = Unit {0}

-- r is the number that the first of the words ws writes and others are the rest, or r is the place of the fault
abbrev pub NextNumber : List Placed → ℕ → Result ℕ ℕ → List Placed → Type 0
NextNumber [] end (Ok n) others = ⊥
NextNumber [] end (Err place) others = place ≡ end
NextNumber (w ∷ ws) end (Ok n) others = (word_of w.bytes ≡ number n) × (others ≡ ws)
NextNumber (w ∷ ws) end (Err place) others = (place ≡ w.place) × IsNoNumber (word_of w.bytes)

abbrev pub lines_left : Lines → List (List ℕ)
lines_left l = lines l.rest.now
