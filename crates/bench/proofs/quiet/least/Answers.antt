use Rattle.std.proofs.Common.{◌≡◌, ℕ, ◌≤◌, Some, None, get_or, subst, arith}
use Rattle.std.specs.Fn.{FnReturnsAt}
use Rattle.std.proofs.lemmas.List.{take_all}
use Rattle.bench.proofs.Sound.{one_more}
use Rattle.bench.proofs.quiet.least.Goals.{in-Some, in_default}
use Rattle.bench.proofs.quiet.least.Goals as goal

pub loop-item-preserved : goal.loop-item-preserved
loop-item-preserved g c =
    let all = c.args.all.now in
    let i = c.loop-item.item-index in
    let more = one_more (λ t. (r : ℕ) × FnReturnsAt g.F.Fn c.args.of t r × (c.match-item.least ≤ r)) all i c.item-item.result (omega arith) c.item-item.is in
    let least : c.match-item.least ≤ c.loop-item.least = elim c.match-item.branch [ in-Some w ↦ omega (arith, w.least-is, w.min-least.ensures) | in_default w ↦ omega (arith, w.least-is) ] in
    more (λ k t e. let o = c.loop-item.invariant k t e in (o.0, o.1, omega (arith, least, o.2)))
    (λ t e. elim c.match-item.branch [
      | in-Some w ↦ (let same : w.in-Some.item ≡ t = cc in (w.of.result, record { shown = _; shows = same; says = record { met = w.of.ensures } }, omega (arith, w.least-is, w.min-least.ensures)))
      | in_default w ↦ absurd (w.in_default.not-Some t e)
    ])

pub returns : goal.returns
returns g c = subst (λ os. (k : ℕ) (t : _) → get_or os k None ≡ Some t → (r : ℕ) × FnReturnsAt g.F.Fn c.args.of t r × (c.loop-item.least ≤ r)) (take_all c.loop-item.item-index c.args.all.now (omega arith)) c.loop-item.invariant
