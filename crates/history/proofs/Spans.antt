-- The first overfull span, found in whatever way, is the one that trying finds; so what the search of `schedule` answers
-- is what admission's last check tells.
use Rattle.std.proofs.Common.{◌≡◌, ℕ, List, Some, None, Ok, Option, sym, refl, ap, subst, inl, inr, arith, MatchOption}
use Rattle.std.proofs.lemmas.Bool.{cases_lt}
use Rattle.refusal.specs.declared.Span.{Span}
use Rattle.windows.specs.Windows.{Window, Overfull, NoneOverfull, FirstOverfull, tried}
use Rattle.windows.proofs.Find.{decision}
use Rattle.schedule.specs.Answers.{FirstOverfullOrNone}

-- there is one first overfull span
pub first_is_one : (ws : List Window) (r s : ℕ × ℕ) → FirstOverfull ws r → FirstOverfull ws s → r ≡ s
first_is_one ws (l, h) (m, k) p q =
    let e : h ≡ k = elim (cases_lt h k) [
      | inl lt ↦ absurd (q.1 h lt (l, p.0))
      | inr ge ↦ elim (cases_lt k h) [ inl gt ↦ absurd (p.1 k gt (m, q.0)) | inr le ↦ omega arith ]
    ] in
    let f : l ≡ m = elim (cases_lt l m) [
      | inl lt ↦ absurd (p.2 m lt (subst (λ x. Overfull m x ws) (sym e) q.0))
      | inr ge ↦ elim (cases_lt m l) [ inl gt ↦ absurd (q.2 l gt (subst (λ x. Overfull l x ws) e p.0)) | inr le ↦ omega arith ]
    ] in
    λ i. (f i, e i)

pub tried_first : (ws : List Window) (s : ℕ × ℕ) → FirstOverfull ws s → tried ws ≡ Some s
tried_first ws s p = by (tried ws) (decision ws).0
  where
    by : (o : Option (ℕ × ℕ)) → MatchOption o (NoneOverfull ws) (FirstOverfull ws) → o ≡ Some s
    by None none = absurd (none s.1 (s.0, p.0))
    by (Some r) q = ap Some (first_is_one ws r s q p)

pub tried_none : (ws : List Window) → NoneOverfull ws → tried ws ≡ None
tried_none ws none = by (tried ws) (decision ws).0
  where
    by : (o : Option (ℕ × ℕ)) → MatchOption o (NoneOverfull ws) (FirstOverfull ws) → o ≡ None
    by None q = refl
    by (Some r) q = absurd (none r.1 (r.0, q.0))

-- the ends of a span, as trying tells them
abbrev pub ends : Option Span → Option (ℕ × ℕ)
ends None = None
ends (Some s) = Some (s.l, s.h)

-- what `overfull` answers is what trying finds
pub tried_is : (ws : List Window) (o : Option Span) → FirstOverfullOrNone ws (Ok o) → tried ws ≡ ends o
tried_is ws None p = tried_none ws p
tried_is ws (Some s) p = tried_first ws (s.l, s.h) p
