use Rattle.std.proofs.Common.{◌≡◌, length, sym, ap, ◌∙◌}
use Rattle.cues.specs.Forms.{after_slot}
use Rattle.cues.specs.Reading.{left, end}
use Rattle.cues.specs.Tokens.{token_says}
use Rattle.cues.proofs.Forms.{form_slot}
use Rattle.cues.proofs.reading.read_cue.Goals as goal

pub returns-in-Number : goal.returns-in-Number
returns-in-Number c =
    let told = c.in_ok-next.ensures in
    let after = c.next.new.self in
    let ends : end after ≡ length c.args.line.now = ap (λ r. length r.now) told.line in
    c.call.ensures ∙ (λ j. after_slot (ends j) c.in-Number.value (left after))
    ∙ sym (form_slot _ _ c.in_ok-next.field-0 c.args.begun _ c.in-Number.value told.next (ap token_says c.in-Number.is) c.if-value-le-LAST_SLOT.true)
