-- The scan for the largest start of an overfull span that ends at h.
use Rattle.std.specs.Prelude.{◌≡◌, ℕ, ◌+◌, ◌-◌, ◌<◌, ◌≤◌, min, max, List, length, Option, MatchOption, slice_index_or}
use Rattle.std.specs.List.{AllByRecursion}
use Rattle.schedule.specs.Rests.{release_of, deadline_of, shortened, total, done}
use Rattle.schedule.specs.declared.rest.Rest.{Rest}
use Rattle.schedule.specs.declared.scan.Top.{Top}

-- every block of w that is left is due by h
abbrev pub DueBy : ℕ → Rest → Type 0
DueBy h w = (j : ℕ) → w.next ≤ j → j < w.blocks → deadline_of w j ≤ h

-- r is w without the blocks that are due past h
pub record CutAt (h : ℕ) (w r : Rest) : Type 0 where
  pub at : ℕ
  pub is : r ≡ shortened w at
  pub inside : (j : ℕ) → j < r.blocks → deadline_of w j ≤ h
  pub past : (j : ℕ) → r.blocks ≤ j → j < w.blocks → h < deadline_of w j

-- rs has what counts up to h of ws, and no more
pub record CutTo (h : ℕ) (ws rs : List Rest) : Type 0 where
  pub eight : length rs ≡ 8
  pub same : (t l : ℕ) → total t l h ws ≡ total t l h rs
  pub due : AllByRecursion (DueBy h) rs

-- where the window of the last block of w starts, or h if that is past h
abbrev pub top_start : ℕ → ℕ → Rest → ℕ
top_start t h w = min h (max t (release_of w (w.blocks - 1)))

-- among the first n lanes none has a block left, or the last block of top's lane starts at low, and none later
abbrev pub Latest : ℕ → ℕ → List Rest → ℕ → Option Top → Type 0
Latest t h ws n top = MatchOption top
    ((k : ℕ) → k < n → (slice_index_or ws k done).blocks ≤ (slice_index_or ws k done).next)
    (λ b. (b.head < n) × ((slice_index_or ws b.head done).next < (slice_index_or ws b.head done).blocks)
    × (b.low ≡ top_start t h (slice_index_or ws b.head done))
    × ((k : ℕ) → k < n → (slice_index_or ws k done).next < (slice_index_or ws k done).blocks → top_start t h (slice_index_or ws k done) ≤ b.low))

-- the largest start of an overfull span that ends at h
pub record LastStart (t h : ℕ) (ws : List Rest) (low : ℕ) : Type 0 where
  pub within : low ≤ h
  pub over : h < low + total t low h ws
  pub clear : (l : ℕ) → low < l → l ≤ h → l + total t l h ws ≤ h

-- where the scan stands: counted attempts start at low or later, none of those left does
pub record Scanning (t h : ℕ) (ws lanes : List Rest) (counted : ℕ) : Type 0 where
  pub low : ℕ
  pub within : low ≤ h
  pub eight : length lanes ≡ 8
  pub sum : (l : ℕ) → l ≤ low → total t l h ws ≡ counted + total t l h lanes
  pub room : low + counted ≤ h
  pub clear : (l : ℕ) → low < l → l ≤ h → l + total t l h ws ≤ h
  pub due : AllByRecursion (DueBy h) lanes
  pub under : AllByRecursion (λ w. w.next < w.blocks → top_start t h w ≤ low) lanes
