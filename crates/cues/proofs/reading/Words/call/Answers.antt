use Rattle.std.proofs.Common.{refl, ap, ◌∙◌}
use Rattle.std.proofs.lemmas.Result.{err_from_is_err_and}
use Rattle.cues.specs.Forms.{order, take_block}
use Rattle.cues.specs.Tokens.{token_says}
use Rattle.cues.specs.Words.{letter}
use Rattle.cues.proofs.Forms.{call_made}
use Rattle.cues.proofs.reading.Words.call.Goals as goal

pub returns-in_err-head-in-Letter-default-default-o : goal.returns-in_err-head-in-Letter-default-default-o
returns-in_err-head-in-Letter-default-default-o c =
    let arm = c.in-Letter-default-default-o in
    let exit = c.from_residual-in_err-head-in-Letter-default-default-o in
    let p = err_from_is_err_and exit.result exit.ensures.1 in
    let made = call_made _ _ c.args.slot 111 7 (order c.args.slot) c.in_ok-next.field-0 _ c.in_ok-next.ensures.next c.in_ok-next.ensures.line (ap token_says arm.is ∙ ap letter arm.letter-test) (λ e at ws. refl) c.in_err-head-in-Letter-default-default-o.ensures in
    rw (p.1, p.2) made

pub returns-in_ok-head-in-Letter-default-default-o : goal.returns-in_ok-head-in-Letter-default-default-o
returns-in_ok-head-in-Letter-default-default-o c =
    let arm = c.in-Letter-default-default-o in
    call_made _ _ c.args.slot 111 7 (order c.args.slot) c.in_ok-next.field-0 _ c.in_ok-next.ensures.next c.in_ok-next.ensures.line (ap token_says arm.is ∙ ap letter arm.letter-test) (λ e at ws. refl) c.in_ok-head-in-Letter-default-default-o.ensures

pub returns-in_ok-head-in-Letter-default-default-t : goal.returns-in_ok-head-in-Letter-default-default-t
returns-in_ok-head-in-Letter-default-default-t c =
    let arm = c.in-Letter-default-default-t in
    call_made _ _ c.args.slot 116 3 (take_block c.args.slot) c.in_ok-next.field-0 _ c.in_ok-next.ensures.next c.in_ok-next.ensures.line (ap token_says arm.is ∙ ap letter arm.letter-test) (λ e at ws. refl) c.in_ok-head-in-Letter-default-default-t.ensures
