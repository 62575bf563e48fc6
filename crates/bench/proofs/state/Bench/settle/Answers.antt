use Rattle.std.proofs.Common.{◌≡◌, true, sym, refl, ap, ◌∙◌, subst}
use Rattle.history.specs.Calls.{all_aged, with_lanes, with_leases}
use Rattle.bench.specs.Model.{world}
use Rattle.bench.specs.Quiet.{all_later, settled}
use Rattle.bench.specs.Sound.{every, lease_ok}
use Rattle.bench.proofs.Rests.{all_later_aged, all_unheld, placed_aged}
use Rattle.bench.proofs.Ticks.{all_aged_ok}
use Rattle.bench.proofs.state.Bench.settle.Goals as goal
use Rattle.bench.proofs.state.Bench.settle.Goals.{then-self, else-self}

pub invariant_of-self : goal.invariant_of-self
invariant_of-self g c =
    let b = c.args.self.now in
    let now = b.now in
    let both = elim c.if-self.branch as (λ _. let j = c.if-self.self in (j.1.1.1.1.0 ≡ all_aged now b.leases b.lanes) × (j.1.1.1.1.1.0 ≡ b.leases) × (all_later now j.1.1.1.1.1.1.1.0 j.1.1.1.1.0 j.1.1.1.1.1.0 ≡ true)) [
      | then-self w ↦ (let aged = w.age_all.ensures ∙ all_unheld now b.lapse b.lanes b.leases w.if-self.true b.unheld in
          subst (λ j. (j.1.1.1.1.0 ≡ all_aged now b.leases b.lanes) × (j.1.1.1.1.1.0 ≡ b.leases) × (all_later now j.1.1.1.1.1.1.1.0 j.1.1.1.1.0 j.1.1.1.1.1.0 ≡ true)) (sym w.self-is)
          (aged, refl, all_later_aged now b.lapse now b.lanes w.age_all.new.lanes b.leases aged b.unheld))
      | else-self w ↦ subst (λ j. (j.1.1.1.1.0 ≡ all_aged now b.leases b.lanes) × (j.1.1.1.1.1.0 ≡ b.leases) × (all_later now j.1.1.1.1.1.1.1.0 j.1.1.1.1.0 j.1.1.1.1.1.0 ≡ true)) (sym w.self-is)
          (w.age_all-else-self.ensures, refl, w.next_lapse-self.ensures)
    ] in
    record {
      time = b.time;
      calls = b.calls;
      failed = b.failed;
      safe = all_aged_ok now b.leases b.lanes _ b.safe both.0;
      lent = subst (λ es. every lease_ok es ≡ true) (sym both.1) b.lent;
      heads = placed_aged 0 now b.lanes _ b.leases both.0 b.heads;
      resting = c.quiet_until-self.ensures.rests;
      unheld = both.2;
      sooner = c.quiet_until-self.ensures.most;
      alive = c.any_live-self.ensures;
    }

pub returns : goal.returns
returns g c = λ pool.
    let b = c.args.self.now in
    let w₀ = world g.D.Disk.meaning pool b in
    let same = elim c.if-self.branch as (λ _. with_leases (with_lanes w₀ c.if-self.self.1.1.1.1.0) c.if-self.self.1.1.1.1.1.0 ≡ settled w₀) [
      | then-self w ↦ subst (λ j. with_leases (with_lanes w₀ j.1.1.1.1.0) j.1.1.1.1.1.0 ≡ settled w₀) (sym w.self-is)
          (ap (with_lanes w₀) (w.age_all.ensures ∙ all_unheld b.now b.lapse b.lanes b.leases w.if-self.true b.unheld))
      | else-self w ↦ subst (λ j. with_leases (with_lanes w₀ j.1.1.1.1.0) j.1.1.1.1.1.0 ≡ settled w₀) (sym w.self-is) (ap (with_lanes w₀) w.age_all-else-self.ensures)
    ] in
    same
