use Rattle.std.proofs.Common.{◌≡◌, ℕ, IfOk, vec_items, rules}
use Rattle.std.specs.Option.{option_map}
use Rattle.std.proofs.lemmas.Result.{IfOk-weaker}
use Rattle.refusal.specs.declared.Fault.{Fault}
use Rattle.jobs.specs.Run.{job_text}
use Rattle.jobs.proofs.Histories.{job_told}
use Rattle.jobs.proofs.Running.{untold}
use Rattle.jobs.proofs.run.Goals as goal

pub returns-in-Some-clause-history : goal.returns-in-Some-clause-history
returns-in-Some-clause-history c =
    let text : IfOk c.run_list.result (λ log. (told : ℕ → Fault) → vec_items log ≡ job_text told (option_map (λ x. x.now) c.args.image) c.args.cues.now) = search rules in
    IfOk-weaker c.run_list.result _ _ (λ log e. job_told (option_map (λ x. x.now) c.args.image) c.args.cues.now (vec_items log) (e untold)) text
