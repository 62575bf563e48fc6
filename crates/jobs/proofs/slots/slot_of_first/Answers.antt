use Rattle.std.proofs.Common.{◌≡◌, ◌∙◌, rules}
use Rattle.std.specs.Option.{option_map}
use Rattle.queue.specs.Held.{held}
use Rattle.cuelists.specs.declared.due.Due.{Due}
use Rattle.jobs.proofs.Cues.{slot_waits}
use Rattle.jobs.proofs.slots.slot_of_first.Goals as goal

pub returns : goal.returns
returns c =
    let slot : c.map.result ≡ option_map (λ (d : Due). d.slot) c.first.result = search rules in
    slot ∙ slot_waits (held c.args.queue.now) c.first.result c.first.ensures.answer
