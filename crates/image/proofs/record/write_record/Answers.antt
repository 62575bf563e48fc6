use Rattle.std.proofs.Common.{◌≡◌, ◌-◌, ◌/◌, ◌%◌, [], ◌∷◌, ◌++◌, length, take, set, ap, ◌∙◌, arith}
use borrow.Rule.Slice.PartMut.{put_mid, post_of}
use Rattle.std.proofs.lemmas.List.{length-drop}
use Rattle.std.proofs.lemmas.Bool.Decides.{nat_tests}
use Rattle.image.specs.Sums.{check_of, sum_of}
use Rattle.image.specs.Records.{checked_of, record_of}
use Rattle.image.proofs.Records.{head_written, check_written, checked_is, written_reads_back}
use Rattle.image.proofs.record.write_record.Goals as goal

pub returns : goal.returns
returns c =
    let i = c.args.number in
    let xs = c.args.bytes.now in
    let p = c.put_word-2.new.place in
    let t = post_of 4 64 p in
    let place = c.if-place-ne70.false in
    let body = c.if-bytes-ne64.false in
    let l : length p ≡ 70 = omega (arith, place) in
    let lt : length t ≡ 2 = simp length-drop (omega arith) in
    let head : take 4 p ≡ 0x4C ∷ 0x52 ∷ i / 256 ∷ i % 256 ∷ [] = ap (take 4) (c.put_word-2.ensures ∙ ap (λ q. set (set q 2 (i / 256)) 3 (i % 256)) c.put_word.ensures) ∙ head_written c.args.place.now 0x4C 0x52 (i / 256) (i % 256) (omega arith) in
    let mid : put_mid 4 64 p c.copy_from_slice.new.self ≡ 0x4C ∷ 0x52 ∷ i / 256 ∷ i % 256 ∷ (xs ++ t) = ap (λ ys. take 4 p ++ (ys ++ t)) c.copy_from_slice.ensures.after ∙ ap (λ h. h ++ (xs ++ t)) head in
    let n = 65535 - c.sum-check.result in
    let check : n ≡ check_of (i / 256 ∷ i % 256 ∷ xs) = ap (λ k. 65535 - k) (c.sum-check.ensures.value ∙ ap (λ q. sum_of (checked_of q)) mid ∙ ap sum_of (checked_is xs t body 0x4C 0x52 (i / 256) (i % 256))) in
    let written : c.put_word-3.new.place ≡ record_of i xs = c.put_word-3.ensures ∙ ap (λ q. set (set q 68 (n / 256)) 69 (n % 256)) mid ∙ check_written xs t body 0x4C 0x52 (i / 256) (i % 256) (n / 256) (n % 256) lt ∙ ap (λ k. 0x4C ∷ 0x52 ∷ i / 256 ∷ i % 256 ∷ (xs ++ k / 256 ∷ k % 256 ∷ [])) check in
    record { answer = grind (arith, nat_tests); memory = written; law = rw written (written_reads_back i xs body) }
