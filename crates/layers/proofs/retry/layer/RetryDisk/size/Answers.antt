use Rattle.std.proofs.Common.{sym, ◌∙◌}
use Rattle.layers.proofs.Retries.{length_retry}
use Rattle.layers.proofs.retry.layer.RetryDisk.size.Goals as goal

pub returns : goal.returns
returns g c = c.size.ensures ∙ sym (length_retry _ _)
