-- The order of calls that wait: by slot, then by line, other fields last.
use Rattle.std.specs.Prelude.{ℕ, Bool, List, [], ◌∷◌}
use Rattle.queue.specs.Keys.{by_keys}
use Rattle.cues.specs.declared.Call.{Call}
use Rattle.cues.specs.declared.Call.TheVariants.{Order, Take, Give, Close}
use Rattle.cuelists.specs.declared.due.Due.{Due}

-- a number for the kind of call, and then its numbers, with zeros to make eight
abbrev pub call_keys : Call → List ℕ
call_keys (Order head first count start period depth spare) = 0 ∷ head ∷ first ∷ count ∷ start ∷ period ∷ depth ∷ spare ∷ []
call_keys (Take head block party) = 1 ∷ head ∷ block ∷ party ∷ 0 ∷ 0 ∷ 0 ∷ 0 ∷ []
call_keys (Give party lease) = 2 ∷ party ∷ lease ∷ 0 ∷ 0 ∷ 0 ∷ 0 ∷ 0 ∷ []
call_keys (Close head) = 3 ∷ head ∷ 0 ∷ 0 ∷ 0 ∷ 0 ∷ 0 ∷ 0 ∷ []

abbrev pub due_keys : Due → List ℕ
due_keys d = d.slot ∷ d.line ∷ call_keys d.call

abbrev pub due_before : Due → Due → Bool
due_before = by_keys due_keys
