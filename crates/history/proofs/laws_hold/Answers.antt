use Rattle.history.proofs.Laws.{bench_laws}
use Rattle.history.proofs.Trials.{trials_hold, job_done}
use Rattle.history.proofs.laws_hold.Goals as goal

pub returns : goal.returns
returns c = record { laws = bench_laws; trials = trials_hold; example = job_done }
