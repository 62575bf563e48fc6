use Rattle.std.proofs.Common.{[], arith}
use Rattle.std.proofs.lemmas.Bool.Decides.{nat_tests}
use Rattle.jobs.proofs.slots.is_over.Goals as goal

pub returns-then-slot-eq-LAST : goal.returns-then-slot-eq-LAST
returns-then-slot-eq-LAST g c = let now = c.slot.ensures [] in grind (arith, nat_tests)

pub returns-then-is_none : goal.returns-then-is_none
returns-then-is_none g c =
    let now = c.slot.ensures [] in
    let running = c.is_running.ensures in
    let none = c.is_none.ensures in
    grind (arith, nat_tests)

pub returns-else-is_none : goal.returns-else-is_none
returns-else-is_none g c =
    let now = c.slot.ensures [] in
    let none = c.is_none.ensures in
    grind (arith, nat_tests)
