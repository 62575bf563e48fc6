-- The worked examples, computed.
use Rattle.std.proofs.Common.{refl}
use Rattle.history.specs.Bench.{Valid, free}
use Rattle.history.specs.Calls.{admit, choice, tick, take_block, give, close, show}
use Rattle.history.specs.Trials.{TrialsHold, job, JobDone}

pub trials_hold : TrialsHold
unfolding admit free
trials_hold = refl

pub job_done : (v : Valid job) → JobDone v
unfolding admit free tick choice take_block give close show
job_done v = record { answers = refl; now = refl; attempts = refl; failures = refl; cause = refl; shown = refl }
