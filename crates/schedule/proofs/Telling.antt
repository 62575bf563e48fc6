-- What is found of the totals, told of the charged windows.
use Rattle.std.proofs.Common.{◌≡◌, ℕ, ◌<◌, List, Some, None, Ok, Option, MatchOption, arith}
use Rattle.std.specs.List.{AllByRecursion}
use Rattle.std.specs.Option.{IsSomeAnd}
use Rattle.refusal.specs.declared.Span.{Span}
use Rattle.windows.specs.Windows.{count, Assigned, NoneOverfull, FirstOverfull, OverfullAt}
use Rattle.windows.proofs.Serve.{hall}
use Rattle.windows.proofs.Slots.{pigeonhole}
use Rattle.schedule.specs.declared.Work.{Work}
use Rattle.schedule.specs.declared.rest.Rest.{Rest}
use Rattle.schedule.specs.Orders.{Proper, charged}
use Rattle.schedule.specs.Rests.{LeftOf, total, OverAt}
use Rattle.schedule.specs.Replay.{FirstEnd}
use Rattle.schedule.specs.Scan.{LastStart}
use Rattle.schedule.specs.Answers.{FirstOverfullOrNone, NoneExactlyWhenAssigned}
use Rattle.schedule.proofs.Charging.{count_charged}

module _ (t : ℕ) (ws : List Work) (proper : AllByRecursion Proper ws) (rs : List Rest) (left : LeftOf ws rs) where
  counts : (l h : ℕ) → count l h (charged t ws) ≡ total t l h rs
  counts l h = count_charged t l h ws rs proper left

  over_at : (h : ℕ) → OverfullAt h (charged t ws) → OverAt t h rs
  over_at h o = record { low = o.0; within = o.1.0; over = omega (arith, o.1.0, o.1.1, counts o.0 h) }

  module _ (none : (h : ℕ) → OverAt t h rs → ⊥) where
    pub none_told : NoneOverfull (charged t ws)
    none_told h o = none h (over_at h o)

    pub none_assigned : (ss : List ℕ) × Assigned (charged t ws) ss
    none_assigned = hall (charged t ws) none_told

  module _ (l h : ℕ) (first : (e : ℕ) → e < h → OverAt t e rs → ⊥) (last : LastStart t h rs l) where
    pub some_told : FirstOverfull (charged t ws) (l, h)
    some_told = (
      (last.within, omega (arith, last.within, last.over, counts l h)),
      (λ e lt o. first e lt (over_at e o)),
      λ m lt o. omega (arith, last.clear m lt o.0, o.0, o.1, counts m h),
    )

    pub some_unassigned : (ss : List ℕ) → Assigned (charged t ws) ss → ⊥
    some_unassigned ss a = pigeonhole (charged t ws) ss a h (l, some_told.0)

  -- what the search answers, once its span is made of the least end
  pub told : (Q : ℕ → Span → Type 0) → ((h : ℕ) (s : Span) → Q h s → (s.h ≡ h) × LastStart t h rs s.l) → (o : Option ℕ) (r : Option Span)
      → FirstEnd t rs o → MatchOption o (r ≡ None) (λ h. IsSomeAnd r (Q h))
      → FirstOverfullOrNone (charged t ws) (Ok r) × NoneExactlyWhenAssigned (charged t ws) (Ok r)
  told Q made None None none k = (none_told none, none_assigned none)
  told Q made None (Some s) none k = absurd (cc)
  told Q made (Some h) None end k = absurd k
  told Q made (Some h) (Some s) end k =
      let m = made h s k in
      let first : (e : ℕ) → e < s.h → OverAt t e rs → ⊥ = λ e lt. end.2 e (omega (arith, m.0)) in
      let last : LastStart t s.h rs s.l = rw m.0 m.1 in
      (some_told s.l s.h first last, some_unassigned s.l s.h first last)
