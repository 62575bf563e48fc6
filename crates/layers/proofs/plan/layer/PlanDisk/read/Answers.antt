use Rattle.std.proofs.Common.{◌≡◌, ◌<◌, true, false, length, sym, refl, ◌∙◌, arith}
use Rattle.std.proofs.lemmas.Result.{err_from_is_err_and}
use Rattle.std.proofs.lemmas.Bool.{lt-ltb}
use Rattle.std.proofs.lemmas.Bool.Decides.{nat_tests}
use Rattle.refusal.specs.Told.{answer_fault}
use Rattle.disk.specs.Meaning.{none_coming}
use Rattle.disk.proofs.Meaning.{reads_none}
use Rattle.disk.proofs.Origin.{when_then, when_else, comes_weaker, comes_beyond}
use Rattle.layers.specs.Entries.{listed, planned}
use Rattle.layers.proofs.Plans.{length_plan, plan_fails, plan_below}
use Rattle.layers.proofs.plan.layer.PlanDisk.read.Goals as goal

pub returns-in_err-check_read : goal.returns-in_err-check_read
returns-in_err-check_read g c =
    let m = g.D.Disk.meaning c.args.self.now.below in
    let q = err_from_is_err_and c.from_residual.result c.from_residual.ensures.1 in
    let u = c.in_err-check_read.ensures.answer in
    record { outcome = rw (q.1, q.2) (reads_none _ _ _ 3 _ _ (c.size.ensures ∙ sym (length_plan _ m)) u); origin = rw (q.1, q.2) (comes_beyond c.in_err-check_read.field-0.0 3 _ _ _ _ _ c.size.ensures u) }

pub returns-then-fails : goal.returns-then-fails
returns-then-fails g c =
    let b = c.args.block in
    let p = planned (listed c.args.self.now.entries) in
    let m = g.D.Disk.meaning c.args.self.now.below in
    let r = c.in_ok-check_read.ensures.answer in
    let h : b < length m = omega (arith, r.1) in
    let z : none_coming (p b) ≡ false = let a = c.if-fails.ensures.answer in grind (arith, nat_tests) in
    record { outcome = plan_fails p _ m b h _ r.0 c.fails.ensures.after z; origin = when_then _ _ _ (lt-ltb b (length m) h) (when_else _ _ _ z (refl, refl)) }

pub returns : goal.returns
returns g c =
    let b = c.args.block in
    let p = planned (listed c.args.self.now.entries) in
    let m = g.D.Disk.meaning c.args.self.now.below in
    let r = c.in_ok-check_read.ensures.answer in
    let h : b < length m = omega (arith, r.1) in
    let z : none_coming (p b) ≡ true = let a = c.if-fails.ensures.answer in grind (arith, nat_tests) in
    let told = c.read.ensures in
    record {
      outcome = plan_below p _ m b h _ r.0 c.fails.ensures.after _ _ _ z told.outcome;
      origin = comes_weaker (answer_fault c.read.result) _ _ (λ f o. when_then _ _ _ (lt-ltb b (length m) h) (when_then _ _ _ z o)) told.origin;
    }
