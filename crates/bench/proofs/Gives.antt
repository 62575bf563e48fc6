-- What give and show answer and leave, check by check.
use Rattle.std.proofs.Common.{◌≡◌, ℕ, Bool, true, false, not, ◌&&◌, ◌||◌, eqb, ltb, length, Err, Result, refl, ap, ◌∙◌}
use Rattle.std.specs.Result.{IsErrAnd}
use Rattle.std.proofs.lemmas.Result.{err_from_is_err_and}
use Rattle.refusal.specs.declared.Refusal.{Refusal}
use Rattle.refusal.specs.declared.Refusal.TheVariants.{Bounds, WrongSize, NotHeld}
use Rattle.history.specs.Bench.{World}
use Rattle.history.specs.Calls.{Slip, refuse, done, is_out, given, shows, give, show, give_slip, show_slip}

-- a refusal that a call passes on
pub passed_on : {T : Type 0} (r : Result T Refusal) (e x : Refusal) → IsErrAnd r (λ y. y ≡ e) → e ≡ x → r ≡ Err x
passed_on r e x h is = let p = err_from_is_err_and r h in p.1 ∙ ap Err (p.2 ∙ is)

module _ (w : World) (party m : ℕ) where
  abbrev pub off_limits : Bool
  off_limits = ltb 3 party || ltb 15 m

  pub give_off_limits : off_limits ≡ true → give w party m ≡ (w, refuse Bounds)
  unfolding give
  give_off_limits p = rw p refl

  pub show_off_limits : off_limits ≡ true → show w party m ≡ (w, refuse Bounds)
  unfolding show
  show_off_limits p = rw p refl

  module _ (p : off_limits ≡ false) where
    pub give_not_held : not (is_out w party m false) ≡ true → give w party m ≡ (w, refuse NotHeld)
    unfolding give
    give_not_held q = rw (p, q) refl

    pub give_taken : not (is_out w party m false) ≡ false → give w party m ≡ (given w m, done)
    unfolding give
    give_taken q = rw (p, q) refl

    pub show_wrong_size : not (eqb (length w.pool) 2048) ≡ true → show w party m ≡ (w, refuse WrongSize)
    unfolding show
    show_wrong_size q = rw (p, q) refl

    pub show_not_held : not (eqb (length w.pool) 2048) ≡ false → not (is_out w party m false) ≡ true → show w party m ≡ (w, refuse NotHeld)
    unfolding show
    show_not_held q r = rw (p, q, r) refl

    pub show_shown : not (eqb (length w.pool) 2048) ≡ false → not (is_out w party m false) ≡ false → show w party m ≡ (w, shows w m)
    unfolding show
    show_shown q r = rw (p, q, r) refl

module _ (w : World) (s : Slip) where
  abbrev pub not_of : Bool
  not_of = not (eqb s.bench w.number && is_out w s.party s.lease true)

  pub give_slip_not_held : not_of ≡ true → give_slip w s ≡ (w, refuse NotHeld)
  unfolding give_slip
  give_slip_not_held q = rw q refl

  pub give_slip_taken : not_of ≡ false → give_slip w s ≡ (given w s.lease, done)
  unfolding give_slip
  give_slip_taken q = rw q refl

  pub show_slip_wrong_size : not (eqb (length w.pool) 2048) ≡ true → show_slip w s ≡ (w, refuse WrongSize)
  unfolding show_slip
  show_slip_wrong_size p = rw p refl

  pub show_slip_not_held : not (eqb (length w.pool) 2048) ≡ false → not_of ≡ true → show_slip w s ≡ (w, refuse NotHeld)
  unfolding show_slip
  show_slip_not_held p q = rw (p, q) refl

  pub show_slip_shown : not (eqb (length w.pool) 2048) ≡ false → not_of ≡ false → show_slip w s ≡ (w, shows w s.lease)
  unfolding show_slip
  show_slip_shown p q = rw (p, q) refl
