use Rattle.std.proofs.Common.{◌≡◌, ℕ, suc, ◌+◌, ◌-◌, ◌*◌, ◌/◌, List, ◌++◌, string_bytes, sym, ap, ◌∙◌, append_assoc, arith}
use Rattle.std.specs.List.{range_with_len}
use Rattle.charts.specs.Axis.{tick, ticks_by}
use Rattle.charts.specs.Marks.{mark_line}
use Rattle.charts.specs.declared.mark.Mark.TheVariants.{Tick}
use Rattle.charts.proofs.axis.Scale.add_ticks.Goals as goal

pub loop-k-preserved : goal.loop-k-preserved
loop-k-preserved c =
    let l = c.loop-k in
    let last = c.args.self.last in
    let step = c.step_of-step.result in
    let count = last / step + 1 in
    let text = string_bytes l.text in
    let rest = ticks_by last step (range_with_len (l.k + 1) (count - (l.k + 1))) in
    let one_less : count - l.k ≡ suc (count - (l.k + 1)) = omega arith in
    let added = c.in_ok-add.ensures ∙ ap (λ (x : ℕ). text ++ mark_line (Tick (l.k * step) x)) c.x_of-x.ensures.value in
    ap (λ (bs : List ℕ). bs ++ rest) added ∙ append_assoc text (mark_line (tick last (l.k * step))) rest
    ∙ sym (ap (λ (n : ℕ). text ++ ticks_by last step (range_with_len l.k n)) one_less) ∙ l.invariant
