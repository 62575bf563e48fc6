-- What is printed of a list that is checked.
use Rattle.std.specs.Prelude.{ℕ, List, [], ◌∷◌, ◌++◌, length, Some, None, decimal, Option}
use Rattle.std.specs.List.{flat_map}
use Rattle.queue.specs.Order.{in_order}
use Rattle.cues.specs.Text.{cue_line}
use Rattle.cues.specs.declared.Cue.TheVariants.{At}
use Rattle.cuelists.specs.Dues.{due_before}
use Rattle.cuelists.specs.Lists.{fault_words, Outcome, list_read}
use Rattle.cuelists.specs.declared.due.Due.{Due}
use Rattle.cuelists.specs.declared.list.ListFault.{ListFault}

abbrev pub due_line : Due → List ℕ
due_line d = cue_line (At d.slot d.call) ++ 10 ∷ []

-- the calls in the order in which they run, a line each, and then their number
abbrev pub calls_text : List Due → List ℕ
calls_text ds = flat_map due_line (in_order due_before ds) ++ (decimal (length ds) ++ 10 ∷ [])

abbrev pub fault_text : ListFault → List ℕ
fault_text f = fault_words f ++ 10 ∷ []

abbrev pub outcome_text : Option ListFault → List Due → List ℕ
outcome_text None ds = calls_text ds
outcome_text (Some f) ds = fault_text f

-- a list read with no entries and no calls before it, and room for 512
abbrev pub check_text : List ℕ → List ℕ
check_text input = let o : Outcome = list_read 512 [] [] input in outcome_text o.first_fault o.left.calls
