use Rattle.std.proofs.Common.{◌≡◌, ℕ, ◌+◌, cond, List, [], ◌∷◌, ◌++◌, take, is_ok, Result, vec_items, sym, ap, ◌∙◌, subst, arith}
use Rattle.std.proofs.lemmas.List.{take_more, take_all}
use Rattle.std.proofs.lemmas.Result.{err_from_is_err_and}
use Rattle.refusal.specs.declared.Refusal.{Refusal}
use Rattle.history.specs.Bench.{World}
use Rattle.history.specs.Calls.{new}
use Rattle.history.proofs.Laws.{bench_laws}
use Rattle.bench.specs.Model.{world}
use Rattle.bench.specs.Performing.{Performs}
use Rattle.bench.specs.declared.performing.Answer.{Answer}
use Rattle.bench.specs.declared.performing.Call.{Call}
use Rattle.bench.proofs.Lists.{performs_more}
use Rattle.bench.proofs.performing.perform.Goals as goal

pub returns-in_err-push : goal.returns-in_err-push
returns-in_err-push g c =
    let p = err_from_is_err_and c.from_residual.result c.from_residual.ensures.1 in
    record { performs = rw p.1 tt; laws = bench_laws c.args.number (g.D.Disk.meaning c.args.disk) c.args.pool.now }

pub loop-call-preserved : goal.loop-call-preserved
loop-call-preserved g c =
    let w : World = world g.D.Disk.meaning c.args.pool.now c.new-bench.result in
    let w'' : World = world g.D.Disk.meaning c.obey-answer.new.pool c.obey-answer.new.self in
    let cs : List Call = c.args.calls.now in
    let k : ℕ = c.loop-call.call-index in
    let item : Call = c.call-item.result in
    let old : List (Result Answer Refusal) = vec_items c.loop-call.answers in
    let a : Result Answer Refusal = c.obey-answer.result in
    let first : take (k + 1) cs ≡ take k cs ++ item ∷ [] = take_more cs k item (omega arith) ∙ ap (λ x. take k cs ++ x ∷ []) (sym c.call-item.is) in
    let items : vec_items c.push.new.self ≡ old ++ a ∷ [] = c.push.ensures.items ∙ ap (λ r. cond (is_ok r) (old ++ a ∷ []) old) c.in_ok-push.was in
    subst (λ xs. Performs w xs (vec_items c.push.new.self) w'') (sym first)
    (subst (λ as'. Performs w (take k cs ++ item ∷ []) as' w'') (sym items)
    (performs_more w _ w'' (take k cs) old item a c.loop-call.invariant c.obey-answer.ensures))

pub returns : goal.returns
returns g c =
    let w' : World = world g.D.Disk.meaning c.loop-call.pool c.loop-call.bench in
    let as' : List (Result Answer Refusal) = vec_items c.loop-call.answers in
    record {
      performs =
          subst (λ cs. Performs (new c.args.number (g.D.Disk.meaning c.args.disk) c.args.pool.now) cs as' w') (take_all c.loop-call.call-index c.args.calls.now (omega arith))
          (subst (λ w. Performs w (take c.loop-call.call-index c.args.calls.now) as' w') (c.new-bench.ensures c.args.pool.now) c.loop-call.invariant);
      laws = bench_laws c.args.number (g.D.Disk.meaning c.args.disk) c.args.pool.now;
    }
