use Rattle.std.proofs.Common.{◌≡◌, ◌+◌, ◌≤◌, ℕ, length, vec_items, ap, ◌∙◌, arith, inl}
use Rattle.std.specs.Iterator.Adapters.{enumerate_source, enumerate_count}
use Rattle.cues.specs.Reading.{lines_left}
use Rattle.cues.specs.Words.{lines}
use Rattle.cues.proofs.Cuts.{length_lines}
use Rattle.charts.proofs.Logs.{turn_first, turn_taken, turn_refused, turn_none}
use Rattle.charts.proofs.log.read_log.Goals as goal

pub loop-before-init : goal.loop-before-init
loop-before-init c =
    let few = length_lines c.args.input.now in
    let made = c.enumerate-before-items.ensures in
    let same = c.into_iter-before-iterator.ensures.into_iter_gives in
    let none : enumerate_count c.into_iter-before-iterator.result ≡ 0 = ap enumerate_count same ∙ made.count in
    let all : lines_left (enumerate_source c.into_iter-before-iterator.result) ≡ lines c.args.input.now = ap (λ it. lines_left (enumerate_source it)) same ∙ ap lines_left made.source in
    let size = ap length all in
    let within : enumerate_count c.into_iter-before-iterator.result + length (lines_left (enumerate_source c.into_iter-before-iterator.result)) ≤ length c.args.input.now = omega (arith, few, none, size) in
    ((tt, tt, inl (omega arith)), tt, within, turn_first _ (vec_items c.new-entries.result) _ _ c.new-entries.ensures.items none all)

pub loop-before-preserved : goal.loop-before-preserved
loop-before-preserved c =
    let l = c.loop-before in
    let inv = l.invariant in
    let step = c.in-Some.ensures.steps in
    let fewer = ap length step.0 in
    let within : enumerate_count c.next.new.self + length (lines_left (enumerate_source c.next.new.self)) ≤ length c.args.input.now = omega (arith, step.2, inv.2, fewer) in
    let taken = turn_taken _ (vec_items l.entries) (enumerate_count l.before-iterator + 1) (c.in-Some.before + 1) l.over _ _ c.in-Some.text.now c.next_entry.result (ap (λ (k : ℕ). k + 1) step.1) step.0 c.next_entry.ensures inv.3 c.in-Ok.entry (enumerate_count c.next.new.self) (vec_items c.push.new.self) c.is_end-over.result c.in-Ok.is step.2 c.in_ok-push.ensures.items c.is_end-over.ensures in
    ((tt, tt, inl (omega arith)), tt, within, taken)

pub returns-in-Err-clause-value : goal.returns-in-Err-clause-value
returns-in-Err-clause-value c =
    let l = c.loop-before in
    let step = c.in-Some.ensures.steps in
    turn_refused _ (vec_items l.entries) (enumerate_count l.before-iterator + 1) (c.in-Some.before + 1) l.over _ _ c.in-Some.text.now c.next_entry.result (ap (λ (k : ℕ). k + 1) step.1) step.0 c.next_entry.ensures l.invariant.3 c.in-Err.fault c.in-Err.is

pub returns-clause-value : goal.returns-clause-value
returns-clause-value c =
    let l = c.loop-before in
    turn_none _ (vec_items l.entries) _ l.over _ c.in-None.ensures.steps.0.0 l.invariant.3
