-- What is left of the lanes, made work by work.
use Rattle.std.proofs.Common.{◌≡◌, ℕ, ◌+◌, ◌<◌, List, [], ◌∷◌, ◌++◌, length, get_or, take, set, sym, subst, arith}
use Rattle.std.proofs.lemmas.List.{take_more, take_all, length-take-le}
use Rattle.schedule.specs.declared.Work.{Work}
use Rattle.schedule.specs.declared.rest.Rest.{Rest}
use Rattle.schedule.specs.Rests.{IsRestOf, LeftOf}

left_one : (ws : List Work) (out : List Rest) (w : Work) (r : Rest) → IsRestOf w r → length ws < length out → LeftOf ws out → LeftOf (ws ++ w ∷ []) (set out (length ws) r)
left_one [] [] w r is lt a = absurd (omega arith)
left_one [] (o ∷ out) w r is lt a = (is, a.1)
left_one (v ∷ ws) [] w r is lt a = absurd a
left_one (v ∷ ws) (o ∷ out) w r is lt a = (a.0, left_one ws out w r is (omega arith) a.1)

-- where lane k is made from work k
pub left_more : (ws : List Work) (out : List Rest) (k : ℕ) (d : Work) (r : Rest) → k < length ws → k < length out → IsRestOf (get_or ws k d) r
    → LeftOf (take k ws) out → LeftOf (take (k + 1) ws) (set out k r)
left_more ws out k d r lt in' is a =
    let n : length (take k ws) ≡ k = length-take-le k ws (omega arith) in
    subst (λ v. LeftOf v (set out k r)) (sym (take_more ws k d lt))
    (subst (λ i. LeftOf (take k ws ++ get_or ws k d ∷ []) (set out i r)) n (left_one (take k ws) out (get_or ws k d) r is (omega arith) a))

pub left_all : (ws : List Work) (out : List Rest) (k : ℕ) → k ≡ length ws → LeftOf (take k ws) out → LeftOf ws out
left_all ws out k e a = subst (λ v. LeftOf v out) (take_all k ws (omega arith)) a
