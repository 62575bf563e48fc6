use Rattle.std.proofs.Common.{◌≡◌, ◌<◌, length, sym, ◌∙◌, arith}
use Rattle.std.proofs.lemmas.Bool.Decides.{nat_tests}
use Rattle.disk.specs.Meaning.{failures, dead}
use Rattle.layers.specs.Entries.{place_of, planned}
use Rattle.layers.proofs.Entries.{place_found, place_missing, planned_is, planned_none, used_none, used_dead, used_one}
use Rattle.layers.proofs.plan.filling.use_up.Goals as goal

pub returns-in_default : goal.returns-in_default
returns-in_default c =
    let es = c.args.entries.now in
    let p = planned_none es c.args.block (place_missing es c.args.block (sym c.place.ensures ∙ c.in_default.is)) in
    record { answer = grind (arith, nat_tests); after = used_none es c.args.block p }

pub returns-in-Dead : goal.returns-in-Dead
returns-in-Dead c =
    let es = c.args.entries.now in
    let at = place_found es c.args.block c.in-Some.i (sym c.place.ensures ∙ c.in-Some.is) in
    let i = planned_is es c.args.block in
    let p : planned es c.args.block ≡ dead = grind (arith, nat_tests) in
    record { answer = grind (arith, nat_tests); after = used_dead es c.args.block p }

pub returns-in-Times-eq0 : goal.returns-in-Times-eq0
returns-in-Times-eq0 c =
    let es = c.args.entries.now in
    let at = place_found es c.args.block c.in-Some.i (sym c.place.ensures ∙ c.in-Some.is) in
    let i = planned_is es c.args.block in
    let p : planned es c.args.block ≡ failures 0 = grind (arith, nat_tests) in
    record { answer = grind (arith, nat_tests); after = used_none es c.args.block p }

pub returns-in-Times : goal.returns-in-Times
returns-in-Times c =
    let es = c.args.entries.now in
    let at = place_found es c.args.block c.in-Some.i (sym c.place.ensures ∙ c.in-Some.is) in
    let i = planned_is es c.args.block in
    let p : planned es c.args.block ≡ failures c.in-Times.n = grind (arith, nat_tests) in
    let lt : place_of es c.args.block < length es = omega (arith, at) in
    record { answer = grind (arith, nat_tests); after = rw (← at.0) (used_one es c.args.block c.in-Times.n lt p) }
