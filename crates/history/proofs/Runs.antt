-- One list of calls after another.
use Rattle.std.proofs.Common.{◌≡◌, List, [], ◌∷◌, ◌++◌, refl, ap}
use Rattle.history.specs.Bench.{World}
use Rattle.history.specs.Told.{Call, call, after, answers}

pub after-++ : (w : World) (xs ys : List Call) → after w (xs ++ ys) ≡ after (after w xs) ys
after-++ w [] ys = refl
after-++ w (x ∷ xs) ys = after-++ (call w x).0 xs ys

pub answers-++ : (w : World) (xs ys : List Call) → answers w (xs ++ ys) ≡ answers w xs ++ answers (after w xs) ys
answers-++ w [] ys = refl
answers-++ w (x ∷ xs) ys = ap (λ as'. (call w x).1 ∷ as') (answers-++ (call w x).0 xs ys)

-- one call more
pub after_more : (w : World) (cs : List Call) (c : Call) → after w (cs ++ c ∷ []) ≡ (call (after w cs) c).0
after_more w cs c = after-++ w cs (c ∷ [])

pub answers_more : (w : World) (cs : List Call) (c : Call) → answers w (cs ++ c ∷ []) ≡ answers w cs ++ (call (after w cs) c).1 ∷ []
answers_more w cs c = answers-++ w cs (c ∷ [])
