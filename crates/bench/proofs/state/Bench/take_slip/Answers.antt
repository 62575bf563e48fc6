use Rattle.std.proofs.Common.{[], refl, ap, ◌∙◌}
use Rattle.history.specs.Calls.{answered, slipped}
use Rattle.bench.specs.Model.{named}
use Rattle.bench.proofs.Gives.{passed_on}
use Rattle.bench.proofs.state.Bench.take_slip.Goals as goal

pub returns : goal.returns
returns g c = let e = c.in_ok-lease.ensures in record { answer = e.answer; bench = e.bench; owed = refl; honoured = e.honoured refl [] }
