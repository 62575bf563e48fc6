use Rattle.schedule.proofs.Choosing.{one_choice}
use Rattle.schedule.proofs.Examples.{examples_hold}
use Rattle.schedule.proofs.laws_of_schedule.Goals as goal

pub returns : goal.returns
returns c = record { choice = one_choice; examples = examples_hold }
