use Rattle.std.proofs.Common.{length, sym, refl, ◌∙◌, arith}
use Rattle.std.proofs.lemmas.Result.{err_from_is_err_and}
use Rattle.std.proofs.lemmas.Bool.{lt-ltb}
use Rattle.refusal.specs.Told.{answer_fault}
use Rattle.refusal.proofs.Numbers.{number_ok, number_err}
use Rattle.disk.proofs.Meaning.{reads_none}
use Rattle.disk.proofs.Origin.{when_then, comes_weaker, comes_beyond}
use Rattle.layers.proofs.Retries.{length_retry, failed_none, failed_more, retry_granted, retry_last, at_least_none, reads_at, reads_number}
use Rattle.layers.proofs.retry.layer.RetryDisk.read.Goals as goal

pub returns-in_err-check_read : goal.returns-in_err-check_read
returns-in_err-check_read g c =
    let m = g.D.Disk.meaning c.args.self.now.below in
    let q = err_from_is_err_and c.from_residual.result c.from_residual.ensures.1 in
    let u = c.in_err-check_read.ensures.answer in
    record { outcome = rw (q.1, q.2) (reads_none _ _ _ 4 _ _ (c.size.ensures ∙ sym (length_retry _ m)) u); origin = rw (q.1, q.2) (comes_beyond c.in_err-check_read.field-0.0 4 _ _ _ _ _ c.size.ensures u) }

pub loop-failed-init : goal.loop-failed-init
loop-failed-init g c =
    let fits = c.in_ok-check_read.ensures.answer in
    (failed_none _ _ (omega (arith, fits.1)), at_least_none _, refl, refl)

pub returns-then-is_ok : goal.returns-then-is_ok
returns-then-is_ok g c =
    let fits = c.in_ok-check_read.ensures.answer in
    let i = c.loop-failed.invariant in
    let z = number_ok c.read.result (sym c.if-is_ok.ensures.value) in
    let r = reads_number z (reads_at i.0 i.2 c.read.ensures.outcome) in
    record { outcome = rw i.3 (retry_granted _ _ (omega (arith, fits.1)) c.args.self.now.tries.count _ _ _ _ i.1 (omega arith) fits.0 r); origin = tt }

pub loop-failed-preserved : goal.loop-failed-preserved
loop-failed-preserved g c =
    let fits = c.in_ok-check_read.ensures.answer in
    let i = c.loop-failed.invariant in
    let s = failed_more _ _ (omega (arith, fits.1)) _ _ _ _ _ i.1 fits.0 (number_err c.read.result (sym c.if-is_ok.ensures.value)) (reads_at i.0 i.2 c.read.ensures.outcome) in
    (s.0, s.1, s.2, i.3)

pub returns : goal.returns
returns g c =
    let fits = c.in_ok-check_read.ensures.answer in
    let m = g.D.Disk.meaning c.args.self.now.below in
    let i = c.loop-failed.invariant in
    let told = c.read-2.ensures in
    record {
      outcome = rw i.3 (retry_last _ _ (omega (arith, fits.1)) c.args.self.now.tries.count _ _ _ _ _ i.1 (omega arith) fits.0 (reads_at i.0 i.2 told.outcome));
      origin = comes_weaker (answer_fault c.read-2.result) _ _ (λ f o. when_then _ _ _ (lt-ltb c.args.block (length m) (omega (arith, fits.1))) (c.loop-failed.self.below, o)) told.origin;
    }
