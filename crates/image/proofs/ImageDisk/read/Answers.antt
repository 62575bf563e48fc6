use Rattle.std.proofs.Common.{◌+◌, ◌-◌, ◌*◌, length, sym, refl, ap, ◌∙◌, arith}
use Rattle.std.proofs.lemmas.Result.{err_from_is_err_and}
use Rattle.disk.proofs.Meaning.{reads_none, reads_dead, reads_granted}
use Rattle.image.proofs.Images.{length_image, length_data, get_or_image_whole, get_or_image_damaged}
use Rattle.image.proofs.ImageDisk.read.Goals as goal

pub returns-in_err-check_read : goal.returns-in_err-check_read
returns-in_err-check_read c =
    let p = err_from_is_err_and c.from_residual.result c.from_residual.ensures.1 in
    let u = c.in_err-check_read.ensures.answer in
    record { outcome = rw (p.1, p.2) (reads_none _ _ _ 1 _ _ (sym (length_image c.args.self.now.bytes.now)) u); origin = rw (p.1, p.2) u.origin }

pub returns-in_default : goal.returns-in_default
returns-in_default c =
    let xs = c.args.self.now.bytes.now in
    let l = length_image xs in
    let h = c.in_ok-check_read.ensures.answer in
    let k = get_or_image_damaged xs c.args.block (70 * c.args.block + 70 - 70 * c.args.block) h.1 (omega arith) c.in_default.ensures.answer in
    record { outcome = reads_dead _ _ _ h.0 _ (omega arith) k; origin = (refl, refl) }

pub copy_from_slice-requires : goal.copy_from_slice-requires
copy_from_slice-requires c =
    let w = c.in-Some.ensures.answer in
    c.in_ok-check_read.ensures.answer.0 ∙ sym (ap length w.1 ∙ length_data _ w.0.size)

pub returns : goal.returns
returns c =
    let xs = c.args.self.now.bytes.now in
    let l = length_image xs in
    let h = c.in_ok-check_read.ensures.answer in
    let w = c.in-Some.ensures.answer in
    let k = get_or_image_whole xs c.args.block (70 * c.args.block + 70 - 70 * c.args.block) h.1 (omega arith) w.0 in
    record { outcome = rw (c.copy_from_slice.ensures.after, w.1) (reads_granted _ _ _ h.0 _ (omega arith) k); origin = tt }
