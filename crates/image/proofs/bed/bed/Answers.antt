use Rattle.std.proofs.Common.{◌≡◌, ◌++◌, min, length, vec_items, ap, ◌∙◌, arith, rules, length-drop}
use Rattle.std.specs.List.{range_with_len, flat_map}
use Rattle.std.specs.Slice.Iter.{chunks_rest}
use Rattle.std.proofs.lemmas.Bool.Decides.{nat_tests}
use Rattle.image.specs.Beds.{RowsFit, rows_in, row_at, bed_of}
use Rattle.image.specs.Records.{record_of}
use Rattle.image.proofs.Beds.{bed_more, next_row, means_its_rows}
use Rattle.image.proofs.bed.bed.Goals as goal

pub loop-y-init : goal.loop-y-init
loop-y-init c = (search rules, search rules, search rules, search rules)

pub row_record-requires : goal.row_record-requires
row_record-requires c =
    let came = c.in-Some.ensures.steps in
    let i = c.loop-y.invariant in
    let long = ap length i.1 ∙ length-drop _ c.args.rows.now in
    (omega (arith, came, i), omega (arith, came, i, long))

pub loop-y-preserved : goal.loop-y-preserved
loop-y-preserved c =
    let came = c.in-Some.ensures.steps in
    let i = c.loop-y.invariant in
    let y = c.loop-y.y-iterator.count in
    let long = ap length i.1 ∙ length-drop _ c.args.rows.now in
    let next = next_row c.args.rows.now (chunks_rest c.loop-y.y-iterator.iter) c.in-Some.row.now (chunks_rest c.next.new.self.iter) y i.1 came.0.1.0 (came.0.1.1 ∙ ap (λ n. min n (length (chunks_rest c.loop-y.y-iterator.iter))) i.2) in
    rw came.2 (
      c.in_ok-extend_from_slice.ensures.items
          ∙ ap (λ r. vec_items c.loop-y.image ++ r) (c.row_record.ensures ∙ (λ k. record_of (came.1 k) (next.0 k)))
          ∙ bed_more c.args.rows.now _ _ i.0,
      next.1,
      came.0.0 ∙ i.2,
      omega (arith, came, long),
    )

pub returns : goal.returns
unfolding bed_of
returns c =
    let xs = c.args.rows.now in
    let i = c.loop-y.invariant in
    let some = c.if-is_empty.ensures in
    let f : RowsFit (length xs) = (grind (arith, nat_tests), omega arith) in
    let none = c.in-None.ensures.steps.0.1.0 in
    let all : c.loop-y.y-iterator.count ≡ rows_in xs = let long = ap length i.1 ∙ length-drop _ xs in omega (arith, none, i) in
    record { answer = (f, i.0 ∙ ap (λ n. flat_map (λ z. record_of z (row_at xs z)) (range_with_len 0 n)) all, means_its_rows xs f) }
