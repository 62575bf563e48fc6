use Rattle.std.proofs.Common.{◌≡◌, ℕ, ◌+◌, ◌<◌, ◌≤◌, true, List, length, set, Some, sym, refl, ap, ◌∙◌, subst, arith}
use Rattle.std.proofs.lemmas.Bool.Decides.{nat_tests}
use Rattle.history.specs.Bench.{World}
use Rattle.history.specs.Calls.{Answer, with_lanes}
use Rattle.history.specs.declared.Lane.{Lane}
use Rattle.history.specs.declared.Stage.TheVariants.{Live}
use Rattle.bench.specs.Model.{world}
use Rattle.bench.specs.Quiet.{rests}
use Rattle.bench.specs.Sound.{lane_ok}
use Rattle.bench.proofs.Rests.{every_true, rests_zero, all_later_admit, running_set, placed_set_some}
use Rattle.bench.proofs.Sound.{every_set_some}
use Rattle.bench.proofs.Admits.{works_fewer, new_lane_ok, new_lane_is, admit_taken, admit_past, admit_off_disk, admit_pool_short, admit_crowded, admit_done}
use Rattle.bench.proofs.state.Bench.admit.Goals as goal

-- what stands beside the answer, and the answer, of the whole outcome
module _ {r : World × Answer} {w : World} {a : Answer} (e : r ≡ (w, a)) where
  after : w ≡ r.0
  after = sym (ap (λ (x : World × Answer). x.0) e)

  said : a ≡ r.1
  said = sym (ap (λ (x : World × Answer). x.1) e)

pub returns-in_default : goal.returns-in_default
returns-in_default g c =
    let e = λ (pool : List ℕ). admit_taken (world g.D.Disk.meaning pool c.args.self.now) c.args.order.asked c.in_default.field-0 c.in_default.is in
    record { answer = λ pool. said (e pool); bench = λ pool. after (e pool) }

pub returns-then-asked-self : goal.returns-then-asked-self
returns-then-asked-self g c =
    let e = λ (pool : List ℕ). admit_past (world g.D.Disk.meaning pool c.args.self.now) c.args.order.asked c.in-None.is c.if-asked-self.true in
    record { answer = λ pool. said (e pool); bench = λ pool. after (e pool) }

pub returns-then-asked-size : goal.returns-then-asked-size
returns-then-asked-size g c =
    let off : length (g.D.Disk.meaning c.args.self.now.disk) < c.args.order.asked.first + c.args.order.asked.timing.count = omega arith in
    let e = λ (pool : List ℕ). admit_off_disk (world g.D.Disk.meaning pool c.args.self.now) c.args.order.asked c.in-None.is c.if-asked-self.false off in
    record { answer = λ pool. said (e pool); bench = λ pool. after (e pool) }

pub returns-in_default-lowest_free : goal.returns-in_default-lowest_free
returns-in_default-lowest_free g c =
    let on : c.args.order.asked.first + c.args.order.asked.timing.count ≤ length (g.D.Disk.meaning c.args.self.now.disk) = omega arith in
    let e = λ (pool : List ℕ). admit_pool_short (world g.D.Disk.meaning pool c.args.self.now) c.args.order.asked c.in-None.is c.if-asked-self.false on c.in_default-lowest_free.ensures in
    record { answer = λ pool. said (e pool); bench = λ pool. after (e pool) }

pub crowding-requires : goal.crowding-requires
crowding-requires g c =
    let o = c.args.order in
    let b = c.args.self.now in
    let eight : length b.lanes ≡ 8 = omega arith in
    let in' : o.asked.head < 8 = grind (arith, nat_tests) in
    record { time = b.time; order = o.limits; start = c.if-asked-self.false; safe = b.safe; seven = omega (arith, works_fewer b.lanes o.asked.head (omega arith) c.in-None.is) }

pub returns-in-Some-crowding : goal.returns-in-Some-crowding
returns-in-Some-crowding g c =
    let on : c.args.order.asked.first + c.args.order.asked.timing.count ≤ length (g.D.Disk.meaning c.args.self.now.disk) = omega arith in
    let e = λ (pool : List ℕ).
    admit_crowded (world g.D.Disk.meaning pool c.args.self.now) c.args.order.asked c.in-None.is c.if-asked-self.false on c.in-Some.ensures.0 c.in-Some-crowding.span c.in-Some-crowding.ensures
    in
    record { answer = λ pool. said (e pool); bench = λ pool. after (e pool) }

pub invariant_of-self-2 : goal.invariant_of-self-2
invariant_of-self-2 g c =
    let b = c.args.self.now in
    let o = c.args.order in
    let l : Lane = record { order = o.asked; admitted = b.now; next = 0; failed = 0; stage = Live; buffers = c.in-Some.buffers } in
    let h : ℕ = o.asked.head in
    let lane = new_lane_is b.now _ o.asked c.in-Some.buffers c.in-Some.ensures.1 in
    let ok : lane_ok l ≡ true = subst (λ (l : Lane). lane_ok l ≡ true) (sym lane) (new_lane_ok b.lanes b.leases b.now o.asked o.limits c.if-asked-self.false) in
    let in' : h < 8 = grind (arith, nat_tests) in
    record {
      time = b.time;
      calls = b.calls;
      failed = b.failed;
      safe = every_set_some lane_ok b.lanes h l b.safe ok;
      lent = b.lent;
      heads = placed_set_some 0 b.lanes h l b.heads (omega arith);
      resting = every_true (rests 0) rests_zero (set b.lanes h (Some l));
      unheld = all_later_admit b.now b.lapse c.lane_lapse.result c.min-self.result b.lanes b.leases h l (omega (arith, c.min-self.ensures)) (omega (arith, c.min-self.ensures)) b.unheld c.lane_lapse.ensures;
      sooner = omega arith;
      alive = sym (running_set b.lanes h l (omega arith) refl);
    }

pub returns : goal.returns
returns g c =
    let b = c.args.self.now in
    let o = c.args.order.asked in
    let on : o.first + o.timing.count ≤ length (g.D.Disk.meaning b.disk) = omega arith in
    let lane = new_lane_is b.now _ o c.in-Some.buffers c.in-Some.ensures.1 in
    let e = λ (pool : List ℕ). admit_done (world g.D.Disk.meaning pool b) o c.in-None.is c.if-asked-self.false on c.in-Some.ensures.0 c.in_default-crowding.ensures in
    record {
      answer = λ pool. said (e pool);
      bench = λ pool. ap (λ (l : Lane). with_lanes (world g.D.Disk.meaning pool b) (set b.lanes o.head (Some l))) lane ∙ after (e pool);
    }
