use Rattle.std.proofs.Common.{◌≡◌, true, false, ◌∷◌, sym, refl, subst, arith}
use Rattle.std.proofs.lemmas.List.Sorted.{length_permutation}
use Rattle.queue.specs.Held.{held}
use Rattle.history.specs.Bench.{lane_in}
use Rattle.history.specs.Calls.{due, next_deadline}
use Rattle.history.proofs.Requests.{requested_more, requested_past, requested_shuffled}
use Rattle.bench.specs.Ticks.{deadline_of, head_of}
use Rattle.bench.proofs.Ticks.{put_in}
use Rattle.bench.proofs.ticking.offer.Goals as goal

pub returns : goal.returns
returns c =
    let t = c.args.slot in
    let x = c.in-Some.item in
    let q = c.in-Some.ensures in
    let xs = held c.args.queue.now in
    let ys = held c.put.new.self in
    let told = c.put.ensures in
    let s = put_in _ _ c.put.result _ _ c.requires.1 told.answer told.held in
    record {
      room = told.room;
      few = omega (arith, length_permutation (x ∷ xs) ys s);
      requested = λ ls at r. requested_shuffled deadline_of head_of t ls _ (x ∷ xs) ys s (requested_more deadline_of head_of t ls c.args.head x xs (subst (λ o. due t (lane_in o) ≡ true) (sym at) q.is_due) q.head (subst (λ o. x.deadline ≡ next_deadline (lane_in o)) (sym at) q.deadline) r);
    }
