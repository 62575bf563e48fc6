use Rattle.std.proofs.Common.{Some, None, sym, ap, ◌∙◌, rules, tests}
use Rattle.std.specs.Option.{option_map}
use Rattle.std.proofs.lemmas.Iterator.{YieldsList-from_slice}
use Rattle.std.proofs.lemmas.Iterator.Search.{find_from_yields_List}
use Rattle.charts.specs.Lines.{ends_lease}
use Rattle.charts.proofs.Marked.{lease_found}
use Rattle.charts.proofs.lines.lease_end.Goals as goal

pub returns-in-Some-clause-value : goal.returns-in-Some-clause-value
returns-in-Some-clause-value c =
    let es = c.args.after.now in
    let found = find_from_yields_List (ends_lease c.args.lease) _ _ c.find.result c.find.ensures.ran (YieldsList-from_slice es cc) (λ x b q k. search (rules, tests)) in
    c.slot.ensures ∙ lease_found c.args.scale.last c.args.lease es (Some c.in-Some.entry.now) (ap (option_map (λ x. x.now)) (sym c.in-Some.is) ∙ found)

pub returns-in-None-clause-value : goal.returns-in-None-clause-value
returns-in-None-clause-value c =
    let es = c.args.after.now in
    let found = find_from_yields_List (ends_lease c.args.lease) _ _ c.find.result c.find.ensures.ran (YieldsList-from_slice es cc) (λ x b q k. search (rules, tests)) in
    lease_found c.args.scale.last c.args.lease es None (ap (option_map (λ x. x.now)) (sym c.in-None.is) ∙ found)
