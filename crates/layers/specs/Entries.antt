-- What the entries of a plan mean: for each block, the failures that are planned and not used up.
use Rattle.std.specs.Prelude.{◌≡◌, ℕ, suc, cond, not, ◌&&◌, List, [], ◌∷◌, ◌++◌, length, take, ◌==◌, nat_le, nat_lt, slice_index_or}
use Rattle.disk.specs.Meaning.{ToCome, failures, dead, less}
use Rattle.layers.specs.declared.plan.Entries.{Entries}
use Rattle.layers.specs.declared.plan.Entry.{Entry}
use Rattle.layers.specs.declared.plan.Left.{Left}
use Rattle.layers.specs.declared.plan.Left.TheVariants.{Times, Dead}

abbrev pub listed : Entries → List Entry
listed e = take e.len e.table

-- the place of the first entry for block b, or the length
abbrev pub place_of : List Entry → ℕ → ℕ
place_of [] b = 0
place_of (e ∷ es) b = cond (e.block == b) 0 (suc (place_of es b))

abbrev pub left_coming : Left → ToCome
left_coming (Times n) = failures n
left_coming Dead = dead

abbrev pub no_entry : Entry
no_entry = record { block = 0; left = Times 0 }

-- the failures that the entries still have for block b
unfoldable pub planned : List Entry → ℕ → ToCome
planned es b = left_coming (slice_index_or es (place_of es b) no_entry).left

-- a count of 0 plans a dead block
abbrev pub planned_times : ℕ → ToCome
planned_times n = cond (n == 0) dead (failures n)

-- 16 for a block above 4,095 or that has an entry, a count above 200, or a 17th entry
abbrev pub add_number : List Entry → ℕ → ℕ → ℕ
add_number es b n = cond (nat_le b 4095 && (nat_le n 200 && (nat_lt (length es) 16 && not (nat_lt (place_of es b) (length es))))) 0 16

abbrev pub new_entry : ℕ → ℕ → Entry
new_entry b n = record { block = b; left = cond (n == 0) Dead (Times n) }

abbrev pub add_after : List Entry → ℕ → ℕ → List Entry
add_after es b n = cond (add_number es b n == 0) (es ++ new_entry b n ∷ []) es

-- a failure that was planned for block b is used up, and no other
abbrev pub UsedUp : (ℕ → ToCome) → ℕ → (ℕ → ToCome) → Type 0
UsedUp p b p' = (y : ℕ) → p' y ≡ less (cond (b == y) 1 0) (p y)
