use Rattle.std.proofs.Common.{◌≡◌, ◌+◌, ◌≤◌, ltb, [], ◌∷◌, ◌++◌, length, take, set, is_some, ap, ◌∙◌, arith, rules}
use Rattle.std.proofs.lemmas.List.{take_more_set, length-take-le}
use Rattle.std.proofs.lemmas.Bool.Decides.{nat_tests}
use Rattle.layers.specs.Entries.{listed, planned, place_of, new_entry}
use Rattle.layers.proofs.Entries.{is_placed, planned_push}
use Rattle.layers.proofs.plan.Entries.add.Goals as goal
use Rattle.layers.proofs.plan.Entries.add.Goals.{in-0, in_default}

pub returns-then-block-gt4095 : goal.returns-then-block-gt4095
returns-then-block-gt4095 c =
    let es = listed c.args.self.now in
    let l : length es ≡ c.args.self.now.len = length-take-le c.args.self.now.len c.args.self.now.table (omega (arith, c.args.self.now.within)) in
    let taken : c.is_some-taken.result ≡ ltb (place_of es c.args.block) (length es) = c.is_some-taken.ensures ∙ ap is_some c.place.ensures ∙ is_placed es c.args.block in
    let e = c.then-block-gt4095.either in
    record { answer = grind (arith, nat_tests); after = grind (arith, nat_tests); planned = tt }

pub returns : goal.returns
returns c =
    let es = listed c.args.self.now in
    let len = c.args.self.now.len in
    let sixteen : length c.args.self.now.table ≡ 16 = search rules in
    let l : length es ≡ len = length-take-le len c.args.self.now.table (omega (arith, c.args.self.now.within)) in
    let taken : c.is_some-taken.result ≡ ltb (place_of es c.args.block) (length es) = c.is_some-taken.ensures ∙ ap is_some c.place.ensures ∙ is_placed es c.args.block in
    let p : length es ≤ place_of es c.args.block = grind (arith, nat_tests) in
    let x = new_entry c.args.block c.args.count in
    let left : c.match-count.left ≡ x.left = elim c.match-count.branch [ in-0 w ↦ grind (arith, nat_tests) | in_default w ↦ grind (arith, nat_tests) ] in
    let t : take (len + 1) (set c.args.self.now.table len (record { block = c.args.block; left = c.match-count.left })) ≡ es ++ x ∷ [] = rw left (take_more_set c.args.self.now.table len x (omega (arith, c.args.self.now.within))) in
    record { answer = grind (arith, nat_tests); after = t ∙ grind (arith, nat_tests); planned = λ y. ap (λ xs. planned xs y) t ∙ (let q = planned_push es x y p in grind (arith, nat_tests)) }
