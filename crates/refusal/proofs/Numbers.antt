-- Which answers have the number 0, and which come with a fault.
use Rattle.std.proofs.Common.{◌≡◌, ◌≤◌, true, false, is_ok, Some, Ok, Err, Result, refl, arith}
use Rattle.std.proofs.lemmas.Bool.{true≢false, false≢true}
use Rattle.std.proofs.lemmas.Bool.Decides.{nat_tests}
use Rattle.refusal.specs.Told.{refusal_number, refusal_fault, answer_number}
use Rattle.refusal.specs.declared.Fault.{Fault}
use Rattle.refusal.specs.declared.Refusal.{Refusal}

-- no refusal has it
pub refusal_above : (e : Refusal) → refusal_number e ≡ 0 → ⊥
refusal_above e z = grind (arith, nat_tests)

pub number_ok : {T : Type 0} (r : Result T Refusal) → is_ok r ≡ true → answer_number r ≡ 0
number_ok (Ok x) e = refl
number_ok (Err y) e = absurd (false≢true e)

pub number_err : {T : Type 0} (r : Result T Refusal) → is_ok r ≡ false → answer_number r ≡ 0 → ⊥
number_err (Ok x) e z = true≢false e
number_err (Err y) e z = refusal_above y z

pub fault_above : (e : Refusal) (f : Fault) → refusal_fault e ≡ Some f → 13 ≤ refusal_number e
fault_above e f h = grind (arith, nat_tests)
