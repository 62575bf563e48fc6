use Rattle.std.proofs.Common.{sym, ap, ◌∙◌, subst, append_assoc}
use Rattle.std.specs.Fmt.{HasWritten}
use Rattle.cues.specs.Text.{cue_line}
use Rattle.cues.specs.declared.Call.{Call}
use Rattle.cues.specs.declared.Cue.{Cue}
use Rattle.cues.specs.declared.Cue.TheVariants.{At}
use Rattle.cues.proofs.text.CueDisplay.fmt.Goals as goal

pub returns-in-Order-clause-writes : goal.returns-in-Order-clause-writes
returns-in-Order-clause-writes g c = λ p ok.
    let wrote = simp append_assoc at (c.write-in-Order.ensures.writes p ok) in
    let is = c.in-At.is ∙ ap (λ (call : Call). At c.in-At.slot call) c.in-Order.is in
    subst (λ (cue : Cue). HasWritten g.W.Write.write_str_gives c.args.f.now (cue_line cue) c.write-in-Order.new.self) (sym is) wrote
