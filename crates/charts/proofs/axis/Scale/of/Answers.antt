use Rattle.std.specs.Prelude.{fold, max}
use Rattle.std.proofs.Common.{◌≡◌, ◌∙◌, rules}
use Rattle.charts.specs.Lines.{slot_of}
use Rattle.charts.proofs.Marked.{latest_fold}
use Rattle.charts.proofs.axis.Scale.of.Goals as goal

pub returns : goal.returns
returns c =
    let es = c.args.entries.now in
    let folded : c.fold-last.result ≡ fold (λ m e. max (slot_of e) m) 0 es = search rules in
    folded ∙ latest_fold 0 es
