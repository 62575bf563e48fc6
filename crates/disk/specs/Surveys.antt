-- What a survey of a disk tells, and what it leaves.
use Rattle.std.specs.Prelude.{◌≡◌, ℕ, Bool, not, List, map, length, filter}
use Rattle.std.specs.List.{range_with_len, AllByRecursion}
use Rattle.refusal.specs.declared.Fault.{Fault}
use Rattle.refusal.specs.declared.FaultKind.TheVariants.{ReadFailed}
use Rattle.disk.specs.Meaning.{Block, block_at, none_coming, worn}
use Rattle.disk.specs.declared.survey.Unread.{Unread}

-- block y has a failure to come
abbrev pub fails_at : List Block → ℕ → Bool
fails_at m y = not (none_coming (block_at m y).coming)

abbrev pub block_of : Unread → ℕ
block_of u = u.block

-- a failed read, by a fault that F allows for its block
abbrev pub ToldTruly : (ℕ → Fault → Type 0) → Unread → Type 0
ToldTruly F u = F u.block u.fault × (u.fault.kind ≡ ReadFailed)

-- a survey of the disk m, whose faults are those of F, tells us and leaves the disk m'
pub record Surveyed (F : ℕ → Fault → Type 0) (m : List Block) (us : List Unread) (m' : List Block) : Type 0 where
  -- just the blocks with failures to come did not read
  pub blocks : map block_of us ≡ filter (fails_at m) (range_with_len 0 (length m))
  -- each with a fault that the disk told
  pub faults : AllByRecursion (ToldTruly F) us
  -- and each has used a failure up
  pub after : m' ≡ map worn m
