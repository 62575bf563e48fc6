use Rattle.std.proofs.Common.{refl}
use Rattle.layers.proofs.Retries.{retry_same_bytes}
use Rattle.layers.proofs.retry.Retry.new.Goals as goal

pub returns : goal.returns
returns g c = record { below = refl; tries = refl; over = retry_same_bytes _ _ }
