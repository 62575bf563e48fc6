use Rattle.jobs.specs.Lines.{done_line}
use Rattle.jobs.proofs.slots.last_line.Goals as goal

pub returns : goal.returns
returns g c = λ pool i. done_line (c.slot.ensures pool i) (c.attempts.ensures pool i) (c.failures.ensures pool i)
