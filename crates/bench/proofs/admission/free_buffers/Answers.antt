use Rattle.std.proofs.Common.{true, false, ◌∷◌, ◌++◌, [], length, sym, ap, ◌∙◌, arith}
use Rattle.std.proofs.lemmas.List.{append-nil}
use Rattle.bench.proofs.Admits.{free_first, free_more, free_all}
use Rattle.bench.proofs.admission.free_buffers.Goals as goal
use Rattle.bench.proofs.admission.free_buffers.Goals.{then-not-is_in_use, else-not-is_in_use}

pub returns-then-len-depth : goal.returns-then-len-depth
returns-then-len-depth c = free_first c.args.lanes.now c.args.leases.now c.loop-buffer.buffer c.args.depth _ c.loop-buffer.invariant.0 (omega arith)

pub push-requires : goal.push-requires
push-requires c = omega (arith, c.loop-buffer.invariant.1)

pub loop-buffer-preserved : goal.loop-buffer-preserved
loop-buffer-preserved c =
    let more = free_more c.args.lanes.now c.args.leases.now c.loop-buffer.buffer (omega arith) in
    elim c.if-not-is_in_use.branch [
      | then-not-is_in_use w ↦ (
        (λ i. (w.free-is i).items) ∙ w.push.ensures.items ∙ ap (λ xs. xs ++ c.loop-buffer.buffer ∷ []) c.loop-buffer.invariant.0 ∙ sym (more false (sym w.if-not-is_in_use.ensures)),
        omega (arith, ap length (λ i. (w.free-is i).items), w.push.ensures.len, c.loop-buffer.invariant.1),
      )
      | else-not-is_in_use w ↦ (
        (λ i. (w.free-is i).items) ∙ c.loop-buffer.invariant.0 ∙ sym (append-nil _) ∙ sym (more true (sym w.if-not-is_in_use.ensures)),
        omega (arith, ap length (λ i. (w.free-is i).items), c.loop-buffer.invariant.1),
      )
    ]

pub returns : goal.returns
returns c = free_all c.args.lanes.now c.args.leases.now c.loop-buffer.buffer c.args.depth _ (omega arith) c.loop-buffer.invariant.0 c.loop-buffer.invariant.1
