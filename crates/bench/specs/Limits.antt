-- What passes the tests of an order's limits is within them.
use Rattle.std.specs.Prelude.{◌≡◌, ◌+◌, ◌*◌, Bool, true, false, ◌&&◌, nat_le, nat_lt, refl}
use Rattle.std.proofs.lemmas.Bool.{ltb-true, leb-true, false≢true}
use Rattle.schedule.specs.Orders.{WithinLimits}
use Rattle.schedule.specs.declared.Timing.{Timing}
use Rattle.history.specs.Bench.{Valid}
use Rattle.history.specs.declared.Asked.{Asked}
use Rattle.bench.specs.Sound.{timing_ok, order_ok}

both : (a b : Bool) → (a && b) ≡ true → (a ≡ true) × (b ≡ true)
both true b e = (refl, e)
both false b e = absurd (false≢true e)

within : (t : Timing) → timing_ok t ≡ true → WithinLimits t
within t e =
    let a = both (nat_le 1 t.count) _ e in
    let b = both (nat_le t.count 4096) _ a.1 in
    let c = both (nat_le t.start 1000000) _ b.1 in
    let d = both (nat_le 1 t.period) _ c.1 in
    let f = both (nat_le t.period 10000) _ d.1 in
    let g = both (nat_le 2 t.depth) _ f.1 in
    let h = both (nat_le t.depth 8) _ g.1 in
    let i = both (nat_le t.spare 15) _ h.1 in
    record {
      count_some = leb-true 1 t.count a.0;
      count_most = leb-true t.count 4096 b.0;
      start_most = leb-true t.start 1000000 c.0;
      period_some = leb-true 1 t.period d.0;
      period_most = leb-true t.period 10000 f.0;
      depth_least = leb-true 2 t.depth g.0;
      depth_most = leb-true t.depth 8 h.0;
      spare_most = leb-true t.spare 15 i.0;
      ends = leb-true (t.start + t.count * t.period) 1000000 i.1;
    }

pub valid : (o : Asked) → order_ok o ≡ true → Valid o
valid o e =
    let a = both (nat_lt o.head 8) _ e in
    let b = both (nat_lt o.first 4096) _ a.1 in
    record { head = ltb-true o.head 8 a.0; first = ltb-true o.first 4096 b.0; timing = within o.timing b.1 }
