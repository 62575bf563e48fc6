use Rattle.std.proofs.Common.{ℕ, List, ◌++◌, vec_items, sym, ap, ◌∙◌, append-nil, arith}
use Rattle.jobs.proofs.Ticks.{ended_more, ended_all, lines_none}
use Rattle.jobs.proofs.ticking.add_ended.Goals as goal

pub returns-then-is_none_ended : goal.returns-then-is_none_ended
returns-then-is_none_ended c =
    let none = lines_none c.args.slot 0 c.args.ended.now (sym c.is_none_ended.ensures ∙ c.if-is_none_ended.true) in
    sym (ap (λ (ls : List ℕ). vec_items c.args.log.now ++ ls) none ∙ append-nil (vec_items c.args.log.now))
