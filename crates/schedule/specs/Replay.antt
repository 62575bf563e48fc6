-- The rule replayed over what is left of eight lanes.
use Rattle.std.specs.Prelude.{◌≡◌, ℕ, ◌+◌, ◌*◌, ◌/◌, ◌%◌, ◌<◌, ◌≤◌, ◌-◌, Some, None, List, map, length, get_or, Option, MatchOption, slice_index, slice_index_or, slice_set}
use Rattle.std.specs.List.{AllByRecursion}
use Rattle.schedule.specs.Choice.{Choice}
use Rattle.schedule.specs.Rests.{OverAt, deadline_of, ready, due, served, done}
use Rattle.schedule.specs.declared.replay.First.{First}
use Rattle.schedule.specs.declared.replay.Replay.{Replay}
use Rattle.schedule.specs.declared.rest.Rest.{Rest}

-- the place of lane k in the rule's order, as one number: by deadline, then by head
abbrev pub ticket : List Rest → ℕ → ℕ
ticket lanes k = due (slice_index_or lanes k done) * 8 + k

-- the places of order from n on hold the tickets of the lanes from n on, and rise
pub record InOrder (n : ℕ) (lanes : List Rest) (order : List ℕ) : Type 0 where
  pub rises : (i j : ℕ) → n ≤ i → i < j → j < 8 → slice_index order i < slice_index order j
  pub holds : (k : ℕ) → n ≤ k → k < 8 → (i : ℕ) × (n ≤ i) × (i < 8) × (slice_index order i ≡ ticket lanes k)
  pub names : (i : ℕ) → n ≤ i → i < 8 → (n ≤ slice_index order i % 8) × (slice_index order i ≡ ticket lanes (slice_index order i % 8))

-- o with what stands at place p taken out, those behind it that are below x moved up, and x put in behind them
pub record Requeued (o : List ℕ) (p x : ℕ) (r : List ℕ) : Type 0 where
  pub at : ℕ
  pub from : p ≤ at
  pub to : at < 8
  pub before : (i : ℕ) → i < p → slice_index r i ≡ slice_index o i
  pub moved : (i : ℕ) → p ≤ i → i < at → slice_index r i ≡ slice_index o (i + 1)
  pub put : get_or r at 0 ≡ x
  pub after : (i : ℕ) → at < i → i < 8 → slice_index r i ≡ slice_index o i
  pub below : (i : ℕ) → p < i → i ≤ at → slice_index o i < x
  pub above : at < 7 → x ≤ slice_index o (at + 1)

-- the same, under way: place n is free
pub record Requeuing (o : List ℕ) (p x n : ℕ) (r : List ℕ) : Type 0 where
  pub eight : length r ≡ 8
  pub before : (i : ℕ) → i < p → slice_index r i ≡ slice_index o i
  pub moved : (i : ℕ) → p ≤ i → i < n → slice_index r i ≡ slice_index o (i + 1)
  pub after : (i : ℕ) → n < i → i < 8 → slice_index r i ≡ slice_index o i
  pub below : (i : ℕ) → p < i → i ≤ n → slice_index o i < x

-- before any attempt: the lanes are those of work
pub record Begun (work : List Rest) (r : Replay) : Type 0 where
  pub lanes : r.lanes ≡ work
  pub releases : r.release ≡ map ready work
  pub order : InOrder 0 work r.order

-- the head of the lane at place p, and what is left of it
abbrev pub head_at : Replay → ℕ → ℕ
head_at r p = slice_index r.order p % 8

abbrev pub lane_at : Replay → ℕ → Rest
lane_at r p = slice_index_or r.lanes (head_at r p) done

-- the lane at place p has a block, which is due when its ticket says
pub record GoesOn (r : Replay) (p : ℕ) : Type 0 where
  pub place : p < 8
  pub eight : length r.lanes ≡ 8
  pub some : (lane_at r p).next < (lane_at r p).blocks
  pub due : slice_index r.order p / 8 ≡ deadline_of (lane_at r p) (lane_at r p).next

-- that block has had its attempts
abbrev pub next_of : Rest → Rest
next_of w = served w w.left

pub record GoneOn (r : Replay) (p : ℕ) (s : Replay) : Type 0 where
  pub lane : s.lanes ≡ slice_set r.lanes (head_at r p) (next_of (lane_at r p))
  pub release : s.release ≡ slice_set r.release (head_at r p) (ready (next_of (lane_at r p)))
  pub order : Requeued r.order p (due (next_of (lane_at r p)) * 8 + head_at r p) s.order

-- u is the first slot from t on at which a lane is released: t itself if one is already
pub record Busy (t : ℕ) (rs : List ℕ) (u : ℕ) : Type 0 where
  pub from : t ≤ u
  pub early : u < 2000000
  pub quiet : t < u → (k : ℕ) → k < 8 → u ≤ slice_index rs k
  pub some : (k : ℕ) × (k < 8) × (slice_index rs k ≤ u)

abbrev pub BusyFrom : ℕ → List ℕ → Option ℕ → Type 0
BusyFrom t rs r = MatchOption r ((k : ℕ) → k < 8 → 2000000 ≤ slice_index rs k) (Busy t rs)

-- the lanes at the first n places are not released by t, and none of them before coming
pub record Passed (t : ℕ) (rs order : List ℕ) (n coming : ℕ) : Type 0 where
  pub ahead : t < coming
  pub capped : coming ≤ 2000000
  pub later : (i : ℕ) → i < n → coming ≤ slice_index rs (slice_index order i % 8)

-- the first place whose lane is released, or none
pub record ReleasedAt (t : ℕ) (rs order : List ℕ) (f : First) : Type 0 where
  pub place : f.place < 8
  pub passed : Passed t rs order f.place f.coming
  pub released : slice_index rs (slice_index order f.place % 8) ≤ t

abbrev pub FirstReleased : ℕ → List ℕ → List ℕ → Option First → Type 0
FirstReleased t rs order r = MatchOption r ((i : ℕ) → i < 8 → t < slice_index rs (slice_index order i % 8)) (ReleasedAt t rs order)

-- head k is the rule's choice at t, and stays so until coming
pub record Chosen (t : ℕ) (lanes : List Rest) (k coming : ℕ) : Type 0 where
  pub choice : Choice t 8 (λ j. ready (slice_index_or lanes j done)) (λ j. due (slice_index_or lanes j done)) k
  pub ahead : t < coming
  pub capped : coming ≤ 2000000
  pub later : (j : ℕ) → j < 8 → t < ready (slice_index_or lanes j done) → due (slice_index_or lanes j done) < due (slice_index_or lanes k done) → coming ≤ ready (slice_index_or lanes j done)

-- what holds at each turn: from slot t on, what is left has an overfull span at the ends where the whole had one
pub record Replayed (slot : ℕ) (work : List Rest) (t : ℕ) (r : Replay) : Type 0 where
  pub early : t < 2000000
  pub eight : length r.lanes ≡ 8
  pub releases : r.release ≡ map ready r.lanes
  pub order : InOrder 0 r.lanes r.order
  pub on : (h : ℕ) → OverAt slot h work → OverAt t h r.lanes
  pub back : (h : ℕ) → OverAt t h r.lanes → OverAt slot h work

-- no block of w that is left was released at the admission
abbrev pub Grown : Rest → Type 0
Grown w = w.next < w.blocks → w.early ≤ w.next

-- no lane has a lead above longest, which is 1 at least
pub record Leads (longest : ℕ) (lanes : List Rest) : Type 0 where
  pub some : 1 ≤ longest
  pub most : AllByRecursion (λ w. w.lead ≤ longest) lanes

-- where there is a lead, it is the longest of lanes that have all grown
abbrev pub GrownBy : List Rest → Option ℕ → Type 0
GrownBy lanes lead = MatchOption lead (Unit {0}) (λ longest. Leads longest lanes × AllByRecursion Grown lanes)

-- a slot before which no such lane is released, where the earliest deadline is d
abbrev pub quiet_by : Option ℕ → ℕ → ℕ
quiet_by None d = 0
quiet_by (Some longest) d = d - longest

-- a turn of the replay, with what it knows of the lanes' leads
pub record Running (slot : ℕ) (work : List Rest) (t : ℕ) (r : Replay) (lead : Option ℕ) : Type 0 where
  pub replayed : Replayed slot work t r
  pub grown : GrownBy r.lanes lead

-- the least end of an overfull span
abbrev pub FirstEnd : ℕ → List Rest → Option ℕ → Type 0
FirstEnd t ws r = MatchOption r ((h : ℕ) → OverAt t h ws → ⊥) (λ e. (e < 2000000) × OverAt t e ws × ((h : ℕ) → h < e → OverAt t h ws → ⊥))
