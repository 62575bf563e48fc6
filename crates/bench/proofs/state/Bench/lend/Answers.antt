use Rattle.std.proofs.Common.{◌≡◌, ℕ, ◌+◌, true, List, set, Some, sym, refl, ap, ◌∙◌, subst, arith}
use Rattle.std.specs.Option.{ok_or}
use Rattle.std.proofs.lemmas.Bool.{lt-ltb}
use Rattle.std.proofs.lemmas.Bool.Decides.{nat_tests}
use Rattle.history.specs.Bench.{lane_at, buffer_of}
use Rattle.history.specs.declared.Lease.{Lease}
use Rattle.refusal.specs.declared.Refusal.TheVariants.{LeasesOut, HeadEmpty}
use Rattle.history.specs.Calls.{with_leases, honours, answered, lease_told, new_lease}
use Rattle.bench.proofs.Gives.{passed_on}
use Rattle.bench.specs.Model.{world}
use Rattle.bench.specs.Quiet.{rests}
use Rattle.bench.specs.Sound.{live_ok, lane_ok, lease_ok}
use Rattle.bench.proofs.Rests.{every_true, rests_zero, all_later_lend, lent_apart}
use Rattle.bench.proofs.Sound.{every_at, every_set_some, live_kept, there_live, buffer_below}
use Rattle.bench.proofs.Lends.{take_off_limits, take_empty, take_gone, take_out, take_lent, lent_honoured, lendable, lowest}
use Rattle.bench.proofs.state.Bench.lend.Goals as goal

pub returns-then-head-gt7 : goal.returns-then-head-gt7
returns-then-head-gt7 g c =
    let e = c.then-head-gt7.either in
    record { answer = λ pool. sym (ap (λ r. r.1) (take_off_limits (world g.D.Disk.meaning pool c.args.self.now) c.args.head c.args.block c.args.party c.args.slip (grind (arith, nat_tests)))); bench = λ pool. sym (ap (λ r. r.0) (take_off_limits (world g.D.Disk.meaning pool c.args.self.now) c.args.head c.args.block c.args.party c.args.slip (grind (arith, nat_tests)))); honoured = tt }

pub returns-in_err-lane : goal.returns-in_err-lane
returns-in_err-lane g c =
    let k = c.in_err-lane.ensures in
    let same = passed_on c.from_residual.result _ HeadEmpty c.from_residual.ensures.1 k.1 in
    let e = λ (pool : List ℕ). take_empty (world g.D.Disk.meaning pool c.args.self.now) c.args.head c.args.block c.args.party c.args.slip (grind (arith, nat_tests)) (grind (arith, nat_tests)) in
    record { answer = λ pool. ap (answered (λ m. lease_told c.args.self.now.number m c.args.party c.args.slip)) same ∙ sym (ap (λ r. r.1) (e pool)); bench = λ pool. sym (ap (λ r. r.0) (e pool)); honoured = rw same tt }

pub returns-then-not-is_there : goal.returns-then-not-is_there
returns-then-not-is_there g c =
    let there = c.if-not-is_there.ensures in
    let k = c.in_ok-lane.ensures in
    let e = λ (pool : List ℕ). take_gone (world g.D.Disk.meaning pool c.args.self.now) c.args.head c.args.block c.args.party c.args.slip (grind (arith, nat_tests)) (grind (arith, nat_tests)) (grind (arith, nat_tests)) in
    record { answer = λ pool. sym (ap (λ r. r.1) (e pool)); bench = λ pool. sym (ap (λ r. r.0) (e pool)); honoured = tt }

pub returns-in_err-number : goal.returns-in_err-number
returns-in_err-number g c =
    let there = c.if-not-is_there.ensures in
    let k = c.in_ok-lane.ensures in
    let n = lowest c.args.self.now.leases _ (c.in_err-number.ensures.value ∙ ap (λ o. ok_or o LeasesOut) c.first_vacant.ensures) in
    let same = passed_on c.from_residual-in_err-number.result _ LeasesOut c.from_residual-in_err-number.ensures.1 n.1 in
    let e = λ (pool : List ℕ). take_out (world g.D.Disk.meaning pool c.args.self.now) c.args.head c.args.block c.args.party c.args.slip (grind (arith, nat_tests)) (grind (arith, nat_tests)) (grind (arith, nat_tests)) (grind (arith, nat_tests)) in
    record { answer = λ pool. ap (answered (λ m. lease_told c.args.self.now.number m c.args.party c.args.slip)) same ∙ sym (ap (λ r. r.1) (e pool)); bench = λ pool. sym (ap (λ r. r.0) (e pool)); honoured = rw same tt }

live : (g : _) (c : goal.In_ok-number g) → live_ok c.in_ok-lane.lane ≡ true
live g c =
    let b = c.args.self.now in
    live_kept c.in_ok-lane.lane (every_at lane_ok b.lanes c.args.head c.in_ok-lane.lane b.safe c.in_ok-lane.ensures) (there_live b.now c.in_ok-lane.lane c.args.block (sym c.if-not-is_there.ensures))

pub overflow_add-lease : goal.overflow_add-lease
overflow_add-lease g c = let k = lendable c.in_ok-lane.lane (live g c) in omega (arith, k.0)

pub nonzero_rem-lease : goal.nonzero_rem-lease
nonzero_rem-lease g c = let k = lendable c.in_ok-lane.lane (live g c) in omega (arith, k.1)

pub bounds-lane-block : goal.bounds-lane-block
bounds-lane-block g c = let k = lendable c.in_ok-lane.lane (live g c) in omega (arith, k.1, k.2)

pub invariant_of-self : goal.invariant_of-self
invariant_of-self g c =
    let b = c.args.self.now in
    let l = c.in_ok-lane.lane in
    let e : Lease = record { party = c.args.party; head = c.args.head; admitted = l.admitted; index = c.args.block; block = l.order.first + c.args.block; buffer = buffer_of l c.args.block; slip = c.args.slip } in
    let own = live_kept l (every_at lane_ok b.lanes c.args.head l b.safe c.in_ok-lane.ensures) (there_live b.now l c.args.block (sym c.if-not-is_there.ensures)) in
    record {
      time = b.time;
      calls = b.calls;
      failed = b.failed;
      safe = b.safe;
      heads = b.heads;
      lent = every_set_some lease_ok b.leases c.in_ok-number.number e b.lent (lt-ltb _ 32 (buffer_below l _ own));
      resting = every_true (rests 0) rests_zero b.lanes;
      unheld = all_later_lend b.now b.lapse c.deadline.result c.min-self.result b.lanes b.leases c.in_ok-number.number e (omega (arith, c.min-self.ensures)) (omega (arith, c.min-self.ensures)) b.unheld (lent_apart b.now c.deadline.result b.lanes c.args.head l e b.heads c.in_ok-lane.ensures refl (grind (arith, nat_tests)));
      sooner = omega arith;
      alive = b.alive;
    }

pub returns : goal.returns
returns g c =
    let b = c.args.self.now in
    let there = c.if-not-is_there.ensures in
    let k = c.in_ok-lane.ensures in
    let m = c.in_ok-number.number in
    let n = (lowest b.leases _ (c.in_ok-number.ensures.value ∙ ap (λ o. ok_or o LeasesOut) c.first_vacant.ensures)).0 in
    let l : c.in_ok-lane.lane ≡ lane_at b.lanes c.args.head = grind arith in
    let w = λ (pool : List ℕ). world g.D.Disk.meaning pool b in
    let e = λ (pool : List ℕ). take_lent (w pool) c.args.head c.args.block c.args.party c.args.slip (grind (arith, nat_tests)) (grind (arith, nat_tests)) (grind (arith, nat_tests)) (grind (arith, nat_tests)) in
    let left = λ (pool : List ℕ). ap (with_leases (w pool)) (λ i. set b.leases (n i) (Some (new_lease (l i) c.args.head c.args.block c.args.party c.args.slip))) ∙ sym (ap (λ r. r.0) (e pool)) in
    record {
      answer = λ pool. rw n (sym (ap (λ r. r.1) (e pool)));
      bench = left;
      honoured = λ is pool.
          subst (λ x. honours x (record { lease = m; bench = b.number; party = c.args.party }) ≡ true) (sym (left pool))
          (lent_honoured (w pool) c.args.head c.args.block c.args.party c.args.slip m (omega arith) is n (ap (λ r. r.1) (e pool)));
    }
