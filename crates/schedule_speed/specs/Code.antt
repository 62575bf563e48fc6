-- The answer of the search for the overfull span, as one number.
use Rattle.std.specs.Prelude.{◌≡◌, ℕ, ◌+◌, ◌*◌, List, Some, None, Ok, Err, Option, Result}
use Rattle.refusal.specs.declared.Refusal.{Refusal}
use Rattle.refusal.specs.declared.Span.{Span}
use Rattle.schedule.specs.declared.Work.{Work}
use Rattle.schedule.specs.Answers.{BoundsExactlyOutsideLimits, FirstOverfullOrNone, NoneExactlyWhenAssigned}
use Rattle.schedule.specs.Orders.{charged}

abbrev pub code : Result (Option Span) Refusal → ℕ
code (Ok (Some s)) = s.l * 4294967296 + s.h
code (Ok None) = 18446744073709551615
code (Err e) = 18446744073709551614

-- r is the code of an answer that holds of the lanes
pub record Coded (slot : ℕ) (ws : List Work) (r : ℕ) : Type 0 where
  pub answer : Result (Option Span) Refusal
  pub is : r ≡ code answer
  pub bounds : BoundsExactlyOutsideLimits slot ws answer
  pub span : FirstOverfullOrNone (charged slot ws) answer
  pub assigned : NoneExactlyWhenAssigned (charged slot ws) answer
