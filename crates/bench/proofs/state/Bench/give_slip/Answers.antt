use Rattle.std.proofs.Common.{◌≡◌, ℕ, not, List, [], refl, ap, ◌∙◌, arith}
use Rattle.history.specs.Calls.{refused, refuse, done}
use Rattle.bench.specs.Model.{world, named}
use Rattle.bench.proofs.Gives.{give_slip_taken}
use Rattle.std.proofs.lemmas.Bool.Decides.{nat_tests}
use Rattle.bench.proofs.state.Bench.give_slip.Goals as goal

pub returns-in_err-give_named-clause-back : goal.returns-in_err-give_named-clause-back
returns-in_err-give_named-clause-back g c = λ fresh good.
    let taken = give_slip_taken (world g.D.Disk.meaning [] c.args.self.now) (named c.args.slip.now) (ap not good) in
    let no : refuse c.in_err-give_named.field-0.0 ≡ done = c.in_err-give_named.ensures.answer [] ∙ ap (λ r. r.1) taken in
    absurd (not_done _ no)
  where
    not_done : (ns : List ℕ) → refused ns ≡ done → ⊥
    not_done ns e = cc
