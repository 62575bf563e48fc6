-- The rule run until its first miss finds the least end of an overfull span.

use Rattle.std.proofs.Common.{ℕ, List, sym, subst, arith}
use Rattle.windows.specs.Windows.{Window, clip, since, OverfullAt, Run, done, then, FirstMissIsLeastOverfullEnd}
use Rattle.windows.proofs.Counts.{count_none}
use Rattle.windows.proofs.Steps.{step}
use Rattle.windows.proofs.Serve.{since_zero, missed}

runs : {t u : ℕ} {ws left : List Window} → Run t ws u left
    → (h : ℕ) → (OverfullAt h (since t ws) → OverfullAt h (since u left)) × (OverfullAt h (since u left) → OverfullAt h (since t ws))
runs done h = ((λ o. o), λ o. o)
runs (then r more) h = ((λ o. (runs more h).0 ((step _ _ _ r h).0 o)), λ o. (step _ _ _ r h).1 ((runs more h).1 o))

pub first_miss : FirstMissIsLeastOverfullEnd
first_miss ws left rest c t run q p e = (
  subst (OverfullAt t) (since_zero ws) ((runs run t).1 (subst (λ x. OverfullAt x (since t left)) e (missed t p (omega arith)))),
  λ h lt o.
      let m : OverfullAt h (since t left) = (runs run h).0 (subst (OverfullAt h) (sym (since_zero ws)) o) in
      omega (arith, count_none _ (clip t) m.0 h (λ w late. grind arith) left q),
)
