use Rattle.std.proofs.Common.{subst, arith}
use Rattle.std.proofs.lemmas.List.{get_or_default}
use Rattle.schedule.specs.Rests.{done}
use Rattle.schedule.specs.Scan.{CutAt}
use Rattle.schedule.proofs.Cutting.{cut_begins, cut_each, cut_next}
use Rattle.schedule.proofs.Scanning.{scan_starts, scan_goes, scan_ends, scan_again}
use Rattle.schedule.proofs.scan.last_start.Goals as goal

pub loop-lane-init : goal.loop-lane-init
loop-lane-init c = cut_begins _ _ c.told-work

pub loop-lane-preserved : goal.loop-lane-preserved
loop-lane-preserved c =
    let l = c.loop-lane in
    let same = get_or_default l.lane-items l.lane-index c.lane-item.result done (omega (arith, l.invariant.eight, c.loop-lane-test.true)) in
    cut_next _ _ _ _ _ c.loop-lane-test.true l.invariant (subst (λ w. CutAt c.args.h w c.cut.result) same c.cut.ensures)

pub loop-counted-init : goal.loop-counted-init
loop-counted-init c =
    let i = c.loop-lane.invariant in
    scan_starts _ _ _ _ (cut_each _ _ _ c.told-work i.eight (λ k lt. i.cut k (omega (arith, c.loop-lane-test.false))))

pub unwrap-top-requires : goal.unwrap-top-requires
unwrap-top-requires c = scan_goes _ _ _ _ _ c.loop-counted.invariant c.requires.1 _ c.latest.ensures

pub returns-then-counted-h : goal.returns-then-counted-h
returns-then-counted-h c = scan_ends _ _ _ _ _ c.loop-counted.invariant _ _ c.unwrap-top.ensures c.latest.ensures c.index-lanes-top.result _ c.last_owed-counted.ensures (omega arith)

pub loop-counted-preserved : goal.loop-counted-preserved
loop-counted-preserved c = scan_again _ _ _ _ _ c.loop-counted.invariant _ _ c.unwrap-top.ensures c.latest.ensures c.index-lanes-top.result _ c.last_owed-counted.ensures (omega arith) _ c.shorten.ensures
