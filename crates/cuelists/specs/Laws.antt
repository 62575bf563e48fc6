-- A list of well-formed lines, in the right order and number, is always read.
use Rattle.std.specs.Prelude.{◌≡◌, ℕ, suc, ◌+◌, ◌≤◌, true, List, [], ◌∷◌, ◌++◌, map, length, None}
use Rattle.std.specs.List.{flat_map, AllByRecursion}
use Rattle.layers.specs.Entries.{add_number, add_after}
use Rattle.layers.specs.declared.plan.Entry.{Entry}
use Rattle.cues.specs.Text.{cue_line, Writable}
use Rattle.cues.specs.declared.Call.{Call}
use Rattle.cues.specs.declared.Cue.{Cue}
use Rattle.cues.specs.declared.Cue.TheVariants.{Plan, At}
use Rattle.cuelists.specs.Lists.{Outcome, most, list_read}
use Rattle.cuelists.specs.declared.due.Due.{Due}

-- an entry as block and count, and a call with its slot
pub record Planned : Type 0 where
  pub block : ℕ
  pub count : ℕ

pub record Called : Type 0 where
  pub slot : ℕ
  pub call : Call

abbrev pub planned_cue : Planned → Cue
planned_cue p = Plan p.block p.count

abbrev pub called_cue : Called → Cue
called_cue c = At c.slot c.call

-- the plan takes each entry, one after another
abbrev pub Accepted : List Entry → List Planned → Type 0
Accepted es [] = Unit {0}
Accepted es (p ∷ ps) = (add_number es p.block p.count ≡ 0) × Accepted (add_after es p.block p.count) ps

abbrev pub entries_after : List Entry → List Planned → List Entry
entries_after es [] = es
entries_after es (p ∷ ps) = entries_after (add_after es p.block p.count) ps

-- calls that wait, the latest first, the first of cs from line n
abbrev pub waiting : ℕ → List Due → List Called → List Due
waiting n ds [] = ds
waiting n ds (c ∷ cs) = waiting (suc n) (record { slot = c.slot; line = n; call = c.call } ∷ ds) cs

-- the text of a list: each cue as its line
abbrev pub list_text : List Cue → List ℕ
list_text cues = flat_map (λ cue. cue_line cue ++ 10 ∷ []) cues

-- a list was read to its end, and left these entries and calls
pub record ReadWhole (o : Outcome) (es : List Entry) (ds : List Due) : Type 0 where
  pub no_fault : o.first_fault ≡ None
  pub entries : o.left.entries ≡ es
  pub calls : o.left.calls ≡ ds

-- entries that the plan takes and then calls that a line may say, no more than there is room for, within 65,536 bytes
abbrev pub WellFormedListsAreRead : Type 0
WellFormedListsAreRead =
    (room : ℕ) (es : List Entry) (ds : List Due) (ps : List Planned) (cs : List Called)
    → Accepted es ps → AllByRecursion (λ c. Writable true (called_cue c)) cs → length ds + length cs ≤ most room
    → length (list_text (map planned_cue ps ++ map called_cue cs)) ≤ 65536
    → ReadWhole (list_read room es ds (list_text (map planned_cue ps ++ map called_cue cs))) (entries_after es ps) (waiting (suc (length ps)) ds cs)
