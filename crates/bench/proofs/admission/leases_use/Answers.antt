use Rattle.std.proofs.Common.{◌∙◌, rules, tests}
use Rattle.std.proofs.lemmas.Iterator.{YieldsList-from_slice}
use Rattle.std.proofs.lemmas.Iterator.Search.{any_from_yields_List}
use Rattle.history.specs.Bench.{some_and}
use Rattle.bench.specs.Admits.{lease_uses}
use Rattle.bench.proofs.Sound.{any_is}
use Rattle.bench.proofs.admission.leases_use.Goals as goal

pub returns : goal.returns
returns c = any_from_yields_List (some_and (lease_uses c.args.buffer)) _ _ _ c.any.ensures.ran (YieldsList-from_slice c.args.leases.now cc) (λ o b q k. search (rules, tests)) ∙ any_is _ c.args.leases.now
