use Rattle.std.proofs.Common.{◌≡◌, ℕ, ◌+◌, ◌≤◌, length, Ok, Err, sym, refl, ap, ◌∙◌, subst, arith, inl}
use Rattle.std.proofs.lemmas.Bool.{cond-false, le-ltb}
use Rattle.std.proofs.lemmas.Result.{err_from_is_err_and}
use Rattle.std.specs.Iterator.Adapters.{enumerate_source, enumerate_count}
use Rattle.layers.specs.Entries.{listed}
use Rattle.queue.specs.Held.{held, room}
use Rattle.cues.specs.Reading.{lines_left}
use Rattle.cues.specs.Words.{lines}
use Rattle.cues.proofs.Cuts.{length_lines}
use Rattle.cuelists.specs.Lists.{sofar, most, Reads, Outcome}
use Rattle.cuelists.proofs.Laws.{well_formed_lists_are_read}
use Rattle.cuelists.proofs.Lines.{turn_first, turn_taken, turn_refused, turn_none}
use Rattle.cuelists.proofs.list.read_list.Goals as goal

pub returns-then-input-gt-MOST_BYTES-clause-always : goal.returns-then-input-gt-MOST_BYTES-clause-always
returns-then-input-gt-MOST_BYTES-clause-always c = well_formed_lists_are_read

pub loop-before-init : goal.loop-before-init
loop-before-init c =
    let few = length_lines c.args.input.now in
    let made = c.enumerate-before-items.ensures in
    let same = c.into_iter-before-iterator.ensures.into_iter_gives in
    let none : enumerate_count c.into_iter-before-iterator.result ≡ 0 = ap enumerate_count same ∙ made.count in
    let all : lines_left (enumerate_source c.into_iter-before-iterator.result) ≡ lines c.args.input.now = ap (λ it. lines_left (enumerate_source it)) same ∙ ap lines_left made.source in
    let size = ap length all in
    let within : enumerate_count c.into_iter-before-iterator.result + length (lines_left (enumerate_source c.into_iter-before-iterator.result)) ≤ length c.args.input.now = omega (arith, few, none, size) in
    ((tt, tt, inl (omega arith)), tt, within, refl, turn_first _ _ _ _ _ none all)

pub loop-before-preserved : goal.loop-before-preserved
loop-before-preserved c =
    let l = c.loop-before in
    let inv = l.invariant in
    let told = c.read_line.ensures in
    let step = c.in-Some.ensures.steps in
    let fewer = ap length step.0 in
    let within : enumerate_count c.next.new.self + length (lines_left (enumerate_source c.next.new.self)) ≤ length c.args.input.now = omega (arith, step.2, inv.2, fewer) in
    let s = sofar (listed l.entries) (held l.queue) l.begun in
    let room_now = most (room c.args.queue.now) in
    let taken = turn_taken _ room_now _ (enumerate_count l.before-iterator + 1) (c.in-Some.before + 1) s _ _ c.in-Some.text.now c.read_line.result _ _ (ap most inv.3) (ap (λ (k : ℕ). k + 1) step.1) step.0 told.took inv.4 c.in_ok-begun.begun (enumerate_count c.next.new.self) c.in_ok-begun.was step.2 in
    ((tt, tt, inl (omega arith)), tt, within, told.room ∙ inv.3, taken)

pub returns-in_err-begun-clause-reads : goal.returns-in_err-begun-clause-reads
returns-in_err-begun-clause-reads c =
    let l = c.loop-before in
    let inv = l.invariant in
    let step = c.in-Some.ensures.steps in
    let s = sofar (listed l.entries) (held l.queue) l.begun in
    let p = err_from_is_err_and c.from_residual.result c.from_residual.ensures.1 in
    let short = cond-false _ _ _ (le-ltb 65536 (length c.args.input.now) c.if-input-gt-MOST_BYTES.false) in
    let refused = turn_refused _ (most (room c.args.queue.now)) _ (enumerate_count l.before-iterator + 1) (c.in-Some.before + 1) s _ _ c.in-Some.text.now c.read_line.result _ _ (ap most inv.3) (ap (λ (k : ℕ). k + 1) step.1) step.0 c.read_line.ensures.took inv.4 c.in_err-begun.field-0.0 c.in_err-begun.was in
    rw (p.1, p.2) (subst (λ (o : Outcome). Reads o (Err c.in_err-begun.field-0.0) (listed c.read_line.new.entries) (held c.read_line.new.queue)) (sym short) refused)

pub returns-in_err-begun-clause-always : goal.returns-in_err-begun-clause-always
returns-in_err-begun-clause-always c = well_formed_lists_are_read

pub returns-clause-reads : goal.returns-clause-reads
returns-clause-reads c =
    let l = c.loop-before in
    let s = sofar (listed l.entries) (held l.queue) l.begun in
    let short = cond-false _ _ _ (le-ltb 65536 (length c.args.input.now) c.if-input-gt-MOST_BYTES.false) in
    let read = turn_none _ (most (room c.args.queue.now)) _ s _ c.in-None.ensures.steps.0.0 l.invariant.4 in
    subst (λ (o : Outcome). Reads o (Ok tt) (listed l.entries) (held l.queue)) (sym short) read

pub returns-clause-always : goal.returns-clause-always
returns-clause-always c = well_formed_lists_are_read
