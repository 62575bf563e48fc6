use Rattle.std.proofs.Common.{◌≡◌, ◌-◌, ◌++◌, length, drop, replicate, ap, ◌∙◌, arith}
use Rattle.std.proofs.lemmas.List.{drop-replicate}
use Rattle.image.proofs.bed.whole_row.Goals as goal

pub returns : goal.returns
returns c =
    let row = c.args.row.now in
    let n : length row - 0 ≡ length row = omega arith in
    ap (λ u. u ++ drop (length row - 0) (replicate 64 0)) c.copy_from_slice.ensures.after
    ∙ ap (λ k. row ++ drop k (replicate 64 0)) n
    ∙ ap (λ u. row ++ u) (drop-replicate (length row) 64 0)
