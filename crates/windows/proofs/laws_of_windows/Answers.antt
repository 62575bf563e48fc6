use Rattle.windows.proofs.Find.{decision}
use Rattle.windows.proofs.Runs.{first_miss}
use Rattle.windows.proofs.Serve.{hall, timely}
use Rattle.windows.proofs.Slots.{pigeonhole}
use Rattle.windows.proofs.Steps.{step}
use Rattle.windows.proofs.laws_of_windows.Goals as goal

pub returns : goal.returns
returns c = record { step = step; timely = timely; hall = λ ws. (hall ws, pigeonhole ws); miss = first_miss; trying = decision }
