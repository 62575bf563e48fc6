use Rattle.std.proofs.Common.{◌≡◌, ℕ, ◌^◌, ◌<◌, true, get_or, take}
use Rattle.std.specs.Char.{is_ascii_digit}
use Rattle.cues.specs.Words.{number_value}
use Rattle.cues.proofs.token.number.Given as goal

abbrev pub invariant-loop-digit : goal.invariant-loop-digit
invariant-loop-digit l =
    (l.value ≡ number_value (take l.digit-index l.word))
    × (l.value < 10 ^ l.digit-index)
    × ((k : ℕ) → k < l.digit-index → is_ascii_digit (get_or l.word k 0) ≡ true)
