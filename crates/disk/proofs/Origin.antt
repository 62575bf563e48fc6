-- The fault of an answer, passed on.
use Rattle.std.proofs.Common.{◌≡◌, ℕ, Bool, true, false, ltb, IfSome, Some, None, MatchBool, Option, refl, arith}
use Rattle.std.proofs.lemmas.Bool.{true≢false, false≢true, le-ltb}
use Rattle.std.proofs.lemmas.Bool.Decides.{nat_tests}
use Rattle.refusal.specs.Told.{refusal_fault}
use Rattle.refusal.proofs.Numbers.{fault_above}
use Rattle.refusal.specs.declared.Fault.{Fault}
use Rattle.refusal.specs.declared.Refusal.{Refusal}
use Rattle.disk.specs.Origin.{Arose, Unreadable}

pub when_then : (t : Bool) (P Q : Type 0) → t ≡ true → P → MatchBool t P Q
when_then true P Q e p = p
when_then false P Q e p = absurd (false≢true e)

pub when_else : (t : Bool) (P Q : Type 0) → t ≡ false → Q → MatchBool t P Q
when_else true P Q e q = absurd (true≢false e)
when_else false P Q e q = q

-- a fault that is one of P is one of Q, where each of P is
pub comes_weaker : (o : Option Fault) (P Q : Fault → Type 0) → ((f : Fault) → P f → Q f) → IfSome o P → IfSome o Q
comes_weaker None P Q w h = tt
comes_weaker (Some f) P Q w h = w f h

beyond_by : (o : Option Fault) (e : Refusal) (tag n k b len : ℕ) (P : Fault → Type 0) → refusal_fault e ≡ o → n ≡ k → Unreadable tag n b len e → IfSome o (Arose tag b) → IfSome o (λ f. MatchBool (ltb b k) (P f) (Arose tag b f))
beyond_by None e tag n k b len P h s u a = tt
beyond_by (Some f) e tag n k b len P h s u a =
    let m = fault_above e f h in
    let v = u.number in
    let l : len ≡ 64 = grind (arith, nat_tests) in
    when_else (ltb b k) (P f) (Arose tag b f) (le-ltb b k (omega (arith, u.beyond l))) a

-- a fault that comes before anything is read is of a block that the disk, of k blocks, has not
pub comes_beyond : (e : Refusal) (tag n k b len : ℕ) (P : Fault → Type 0) → n ≡ k → Unreadable tag n b len e → IfSome (refusal_fault e) (λ f. MatchBool (ltb b k) (P f) (Arose tag b f))
comes_beyond e tag n k b len P s u = beyond_by (refusal_fault e) e tag n k b len P refl s u u.origin
