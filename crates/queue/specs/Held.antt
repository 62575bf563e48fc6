-- What a clause reads of a queue.
--     held q    the items that it holds, as they lie; contracts read them as a bag, by `IsPermutation`
--     room q    how many it can hold
use Rattle.std.specs.Prelude.{ℕ, List, length, take}
use Rattle.queue.specs.declared.state.Queue.{Queue}
use Rattle.queue.specs.declared.ordered.Ordered.{Ghosts}

module _ {X : Type 0} {G : Ghosts X} where
  abbrev pub held : Queue X G → List X
  held q = take q.len q.items.now

  abbrev pub room : Queue X G → ℕ
  room q = length q.items.now
