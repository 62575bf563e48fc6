-- Calls and answers as the code has them, and what a list of calls on a new bench comes to.
use Rattle.std.specs.Prelude.{◌≡◌, ℕ, Bool, cond, List, [], ◌∷◌, map, length, Ok, Err, Option, Result}
use Rattle.refusal.specs.declared.Fault.{Fault}
use Rattle.refusal.specs.declared.Refusal.{Refusal}
use Rattle.history.specs.declared.Lane.{Lane}
use Rattle.history.specs.Bench.{World}
use Rattle.history.specs.Calls.{Answer as Told, refuse, done, ticked, leased, slipped, reported, ends}
use Rattle.history.specs.Told.{Call as Asks, admits, ticks, takes, gives, gives_slip, closes, call, after, answers}
use Rattle.bench.specs.declared.performing.Answer.{Answer}
use Rattle.bench.specs.declared.performing.Answer.TheVariants.{Done, Ticked, Leased, Slipped, Reported}
use Rattle.bench.specs.declared.performing.Call.{Call}
use Rattle.bench.specs.declared.performing.Call.TheVariants.{Admit, Tick, Take, Give, GiveSlip, Close}
use Rattle.bench.specs.Model.{of_numbers}
use Rattle.bench.specs.Limits.{valid}
use Rattle.bench.specs.Ticks.{no_fault, fault_in}

-- an answer in the words of the definitions
abbrev pub answer_told : Result Answer Refusal → Told
answer_told (Err e) = refuse e
answer_told (Ok Done) = done
answer_told (Ok (Ticked t)) = ticked t.did
answer_told (Ok (Leased m)) = leased m
answer_told (Ok (Slipped s)) = slipped (of_numbers s)
answer_told (Ok (Reported r)) = reported r

-- lease m as a take answers it, by slip or by number
abbrev pub lent : ℕ → ℕ → Bool → ℕ → Answer
lent bench party slip m = cond slip (Slipped (record { lease = m; bench = bench; party = party })) (Leased m)

-- the fault that an answer tells
abbrev pub fault_of : Result Answer Refusal → Fault
fault_of (Ok (Ticked t)) = fault_in t.did
fault_of (Err e) = no_fault
fault_of (Ok Done) = no_fault
fault_of (Ok (Leased m)) = no_fault
fault_of (Ok (Slipped s)) = no_fault
fault_of (Ok (Reported r)) = no_fault

-- a call in the words of the definitions; a tick comes with the fault f that its answer tells
abbrev pub asks : Call → Fault → Asks
asks (Admit o) f = admits o.asked (valid o.asked o.limits)
asks Tick f = ticks f
asks (Take head block party slip) f = takes head block party slip
asks (Give party lease) f = gives party lease
asks (GiveSlip s) f = gives_slip (of_numbers s)
asks (Close head) f = closes head

-- a tick's answer tells the lanes that it ended
abbrev pub Ended : List (Option Lane) → List (Option Lane) → Result Answer Refusal → Type 0
Ended ls ls' (Ok (Ticked t)) = t.ended ≡ ends ls ls'
Ended ls ls' (Err e) = Unit {0}
Ended ls ls' (Ok Done) = Unit {0}
Ended ls ls' (Ok (Leased m)) = Unit {0}
Ended ls ls' (Ok (Slipped s)) = Unit {0}
Ended ls ls' (Ok (Reported r)) = Unit {0}

-- the call c of a bench that is w answers a and leaves it as w'
pub record Obeys (w : World) (c : Call) (a : Result Answer Refusal) (w' : World) : Type 0 where
  pub answer : answer_told a ≡ (call w (asks c (fault_of a))).1
  pub bench : w' ≡ (call w (asks c (fault_of a))).0
  pub ended : Ended w.lanes w'.lanes a

-- the history that calls and their answers are
abbrev pub history : List Call → List (Result Answer Refusal) → List Asks
history [] as' = []
history (c ∷ cs) [] = []
history (c ∷ cs) (a ∷ as') = asks c (fault_of a) ∷ history cs as'

abbrev pub AllEnded : World → List Asks → List (Result Answer Refusal) → Type 0
AllEnded w [] as' = Unit {0}
AllEnded w (c ∷ cs) [] = Unit {0}
AllEnded w (c ∷ cs) (a ∷ as') = Ended w.lanes (call w c).0.lanes a × AllEnded (call w c).0 cs as'

-- the calls cs of a bench that is w answer as', one each, as the definitions say, and leave it as w'
pub record Performs (w : World) (cs : List Call) (as' : List (Result Answer Refusal)) (w' : World) : Type 0 where
  pub each : length as' ≡ length cs
  pub answers : map answer_told as' ≡ answers w (history cs as')
  pub bench : w' ≡ after w (history cs as')
  pub ended : AllEnded w (history cs as') as'
