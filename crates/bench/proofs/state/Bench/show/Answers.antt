use Rattle.std.proofs.Common.{not, sym, ap, ◌∙◌, arith}
use Rattle.std.proofs.lemmas.Bool.{ltb-true}
use Rattle.std.proofs.lemmas.Bool.Decides.{nat_tests}
use Rattle.refusal.specs.declared.Refusal.TheVariants.{WrongSize, NotHeld}
use Rattle.history.specs.Bench.{bytes_in}
use Rattle.history.specs.Calls.{answered, shown, buffer_in}
use Rattle.bench.specs.Model.{world}
use Rattle.bench.specs.Sound.{lease_ok}
use Rattle.bench.proofs.Gives.{passed_on, show_off_limits, show_wrong_size, show_not_held, show_shown}
use Rattle.bench.proofs.Sound.{every_at}
use Rattle.bench.proofs.state.Bench.show.Goals as goal

pub returns-then-party-gt3 : goal.returns-then-party-gt3
returns-then-party-gt3 g c = let e = c.then-party-gt3.either in sym (ap (λ r. r.1) (show_off_limits (world g.D.Disk.meaning c.args.pool.now c.args.self.now) c.args.party c.args.lease (grind (arith, nat_tests))))

pub returns-in_err-pool : goal.returns-in_err-pool
returns-in_err-pool g c =
    let k = c.in_err-pool.ensures in
    let same = passed_on c.from_residual.result _ WrongSize c.from_residual.ensures.1 k.1 in
    ap (answered (λ part. shown part.now)) same ∙ sym (ap (λ r. r.1) (show_wrong_size (world g.D.Disk.meaning c.args.pool.now c.args.self.now) c.args.party c.args.lease (grind (arith, nat_tests)) (ap not k.0)))

pub returns-in_err-held : goal.returns-in_err-held
returns-in_err-held g c =
    let k = c.in_err-held.ensures in
    let same = passed_on c.from_residual-in_err-held.result _ NotHeld c.from_residual-in_err-held.ensures.1 k.1 in
    ap (answered (λ part. shown part.now)) same
    ∙ sym (ap (λ r. r.1) (show_not_held (world g.D.Disk.meaning c.args.pool.now c.args.self.now) c.args.party c.args.lease (grind (arith, nat_tests)) (ap not c.in_ok-pool.ensures.0) (ap not k.0)))

pub part-requires : goal.part-requires
part-requires g c =
    let b = c.args.self.now in
    omega (arith, ltb-true c.in_ok-held.held.buffer 32 (every_at lease_ok b.leases c.args.lease c.in_ok-held.held b.lent c.in_ok-held.ensures.2))

pub returns : goal.returns
returns g c =
    let k = c.in_ok-held.ensures in
    ap shown (c.part.ensures ∙ (λ i. bytes_in (c.in_ok-pool.ensures.1 i) (buffer_in (sym k.2 i))))
    ∙ sym (ap (λ r. r.1) (show_shown (world g.D.Disk.meaning c.args.pool.now c.args.self.now) c.args.party c.args.lease (grind (arith, nat_tests)) (ap not c.in_ok-pool.ensures.0) (ap not k.0)))
