use Rattle.std.proofs.Common.{◌≡◌, [], ◌∷◌, ◌++◌, vec_items, arith}
use Rattle.std.proofs.lemmas.Result.{err_from_is_err_and}
use Rattle.std.proofs.ByRecursion.{All-push}
use Rattle.std.proofs.lemmas.List.{map_push}
use Rattle.std.proofs.lemmas.Bool.Decides.{nat_tests}
use Rattle.disk.specs.Surveys.{block_of, ToldTruly}
use Rattle.disk.proofs.Meaning.{reads_use_up_one_failure_each}
use Rattle.disk.proofs.Surveys.{surveyed_none, surveyed_length, surveyed_more, surveyed_all}
use Rattle.disk.proofs.survey.survey.Goals as goal
use Rattle.disk.proofs.survey.survey.Goals.{in-Some+in_ok-push, in_default}

pub loop-block-init : goal.loop-block-init
loop-block-init g c = surveyed_none _ _ _ c.new-unread.ensures.items

pub attempt-requires : goal.attempt-requires
attempt-requires g c = let l = surveyed_length _ _ _ _ _ (omega arith) c.loop-block.invariant in omega arith

pub returns-in_err-push : goal.returns-in_err-push
returns-in_err-push g c =
    let p = err_from_is_err_and c.from_residual.result c.from_residual.ensures.1 in
    record { answer = rw p.1 tt; law = reads_use_up_one_failure_each }

pub loop-block-preserved : goal.loop-block-preserved
loop-block-preserved g c =
    surveyed_more _ _ _ _ _ (omega arith) c.loop-block.invariant _ _ c.attempt.ensures.disk (elim c.match-attempt.branch [
      | in-Some+in_ok-push w ↦
          let ok = w.in_ok-push.was in
          let fails = w.in-Some.ensures.answer in
          let pushed = w.push.ensures.items in
          let blocks = map_push block_of (vec_items c.loop-block.unread) (record { block = c.loop-block.block; fault = w.in-Some.fault }) in
          grind (arith, nat_tests)
      | in_default w ↦
          let fails = w.in_default.ensures.answer in
          grind (arith, nat_tests)
    ]) (elim c.match-attempt.branch [
      | in-Some+in_ok-push w ↦
          let ok = w.in_ok-push.was in
          let told = w.in-Some.ensures.fault in
          let items : vec_items c.match-attempt.unread ≡ vec_items c.loop-block.unread ++ record { block = c.loop-block.block; fault = w.in-Some.fault } ∷ [] = let pushed = w.push.ensures.items in grind (arith, nat_tests) in
          rw items (All-push (ToldTruly (λ b f. (t : g.row.D.Denot) × g.D.Disk.faults t b f)) _ _ c.loop-block.invariant.faults ((c.loop-block.disk, told.0), told.1))
      | in_default w ↦ rw w.unread-is c.loop-block.invariant.faults
    ])

pub returns : goal.returns
returns g c =
    record { answer = surveyed_all _ _ _ _ _ (omega arith) (omega arith) c.loop-block.invariant; law = reads_use_up_one_failure_each }
