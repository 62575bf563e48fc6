-- What a token says of the line that it borrows from.
use Rattle.std.specs.Prelude.{◌≡◌, ℕ, ◌≤◌, List, length, drop, Ok, Err, Result}
use Rattle.cues.specs.Words.{Word, number, letter, neither, word_of, front}
use Rattle.cues.specs.declared.token.Token.{Token}
use Rattle.cues.specs.declared.token.Token.TheVariants.{Number, Letter}

abbrev pub token_place : Token → ℕ
token_place (Number word place value) = place
token_place (Letter word place c) = place

abbrev pub token_word : Token → List ℕ
token_word (Number word place value) = word.now
token_word (Letter word place c) = word.now

abbrev pub token_says : Token → Word
token_says (Number word place value) = number value
token_says (Letter word place c) = letter c

-- the token is the word w at the place `at`, and says what the word says
pub record Tells (at : ℕ) (w : List ℕ) (token : Token) : Type 0 where
  pub place : token_place token ≡ at
  pub word : token_word token ≡ w
  pub says : word_of w ≡ token_says token

-- the word that begins at `from`
abbrev pub word_at : List ℕ → ℕ → List ℕ
word_at line from = front 32 (drop from line)

abbrev pub Reads : List ℕ → ℕ → Result Token ℕ → Type 0
Reads line from (Ok token) = (from ≤ length line) × Tells from (word_at line from) token
Reads line from (Err place) = (place ≡ from) × (word_of (word_at line from) ≡ neither)
