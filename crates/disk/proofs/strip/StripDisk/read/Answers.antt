use Rattle.std.proofs.Common.{◌≡◌, ◌+◌, ◌-◌, ◌*◌, sym, arith}
use Rattle.std.proofs.lemmas.Result.{err_from_is_err_and}
use Rattle.disk.proofs.Meaning.{reads_none, reads_granted}
use Rattle.disk.proofs.Strips.{length_strip, get_or_strip}
use Rattle.disk.proofs.strip.StripDisk.read.Goals as goal

pub returns-in_err-check_read : goal.returns-in_err-check_read
returns-in_err-check_read c =
    let p = err_from_is_err_and c.from_residual.result c.from_residual.ensures.1 in
    let u = c.in_err-check_read.ensures.answer in
    record { outcome = rw (p.1, p.2) (reads_none _ _ _ 2 _ _ (sym (length_strip c.args.self.now.bytes.now)) u); origin = rw (p.1, p.2) u.origin }

pub returns : goal.returns
returns c =
    let xs = c.args.self.now.bytes.now in
    let l = length_strip xs in
    let h = c.in_ok-check_read.ensures.answer in
    let k = get_or_strip xs c.args.block h.1 in
    let n : 64 * c.args.block + 64 - 64 * c.args.block ≡ 64 = omega arith in
    record { outcome = rw (c.copy_from_slice.ensures.after, n) (reads_granted _ _ _ h.0 _ (omega arith) k); origin = tt }
