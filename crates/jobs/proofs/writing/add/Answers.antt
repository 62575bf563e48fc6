use Rattle.std.proofs.Common.{vec_items}
use Rattle.loglines.specs.Text.{log_line}
use Rattle.jobs.proofs.Lines.{added}
use Rattle.jobs.proofs.writing.add.Goals as goal

pub returns : goal.returns
returns c =
    let told = c.in-Ok.ensures in
    added c.extend_from_slice.result (vec_items c.args.log.now) _ c.write.new.out _ (log_line c.args.line.now) c.in-Ok.len c.extend_from_slice.ensures.items told.memory told.value
