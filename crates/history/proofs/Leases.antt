-- A bench stays sound where a lease is taken or given.
use Rattle.std.proofs.Common.{◌≡◌, ℕ, ◌%◌, ◌<◌, ◌≤◌, Bool, true, false, eqb, ltb, List, length, get_or, set, Some, None, Option, sym, refl, ◌∙◌, subst, inl, inr, mod-lt, arith}
use Rattle.std.proofs.lemmas.List.{length-set, get_or_past}
use Rattle.std.proofs.lemmas.Bool.{cases_lt, both_ways, not-false, and_parts, or_parts, ltb-true, ltb-false, leb-false}
use Rattle.disk.specs.Meaning.{Block}
use Rattle.history.specs.declared.Lane.{Lane}
use Rattle.history.specs.declared.Lease.{Lease}
use Rattle.history.specs.Bench.{World, some_and, is_live, lane_at}
use Rattle.history.specs.Calls.{Slip, with_leases, new_lease, given, vacant, there}
use Rattle.history.specs.Told.{takes, gives, gives_slip}
use Rattle.history.proofs.Checks.{Granted}
use Rattle.history.proofs.Sound.{Guarded, Kept, Base, Sound, set_at}

pub some_is : {A : Type 0} {a b : A} → Some a ≡ Some b → a ≡ b
some_is e = cc

module _ (d : List Block) (w : World) (s : Sound d w) where
  b : Base d w
  b = s.base

  -- a lease is put at m, or taken away
  leases_set : (m : ℕ) (o : Option Lease) → m < 16 → ((e : Lease) → o ≡ Some e → Kept d w.now w.pool w.lanes e)
      → Sound d (with_leases w (set w.leases m o))
  unfolding b
  leases_set m o in' kept =
      let inside : m < length w.leases = omega (arith, b.numbers) in
      record {
        base = record {
          heads = b.heads;
          numbers = length-set w.leases m o ∙ b.numbers;
          pool = b.pool;
          full = b.full;
          disk = b.disk;
          lanes = b.lanes;
          apart = b.apart;
          leases = λ k. set_at (λ x. (e : Lease) → x ≡ Some e → Kept d w.now w.pool w.lanes e) w.leases m k o None inside (λ _. kept) (λ _. b.leases k);
        };
        fits = s.fits;
      }

  pub given_sound : (m : ℕ) → m < 16 → Sound d (given w m)
  given_sound m in' = leases_set m None in' (λ e q. absurd (let z : ◌≡◌ {A = ℕ} 0 1 = cc in omega arith))

  new_lease_kept : (h i party : ℕ) (slip : Bool) → party ≤ 3 → there w.now (lane_at w.lanes h) i ≡ true
      → Kept d w.now w.pool w.lanes (new_lease (lane_at w.lanes h) h i party slip)
  unfolding b
  new_lease_kept h i party slip low is =
      let l : Lane = lane_at w.lanes h in
      let p = and_parts (is_live l.stage) _ is in
      let q = and_parts (ltb i l.next) _ p.1 in
      let t = b.lanes h p.0 in
      let below : i % l.order.timing.depth < l.order.timing.depth = mod-lt i (omega (arith, t.settled.valid.timing.depth_least)) in
      record {
        party = low;
        placed = t.settled.placed _ below;
        on_disk = omega (arith, t.settled.on_disk, t.upto, ltb-true _ _ q.0);
        bytes = t.bytes i (ltb-true _ _ q.0) (ltb-true _ _ q.1);
        guarded = λ g j alive in' same.
            let a = b.apart g h j (i % l.order.timing.depth) alive p.0 in' below same in
            subst (λ g. Guarded w.now g (lane_at w.lanes g) j (new_lease l h i party slip)) (sym a.0)
            (record { head = refl; admitted = refl; place = sym a.1; read = ltb-true _ _ q.0; burning = ltb-true _ _ q.1 });
      }

  pub take_sound : (h i party : ℕ) (slip : Bool) → Granted (Sound d) w (takes h i party slip)
  take_sound h i party slip es =
      leases_set (vacant w.leases) (Some (new_lease (lane_at w.lanes h) h i party slip)) (leb-false _ _ es.1.1.1.0)
      (λ e q. subst (Kept d w.now w.pool w.lanes) (some_is q)
      (new_lease_kept h i party slip (ltb-false 3 party (or_parts (ltb 4095 i) _ (or_parts (ltb 7 h) _ es.0).1).1) (not-false _ es.1.1.0)))

  pub give_sound : (party m : ℕ) → Granted (Sound d) w (gives party m)
  give_sound party m es = given_sound m (omega (arith, ltb-false 15 m (or_parts _ _ es.0).1))

  -- what is out has a number below 16
  pub out_small : (p : Lease → Bool) (m : ℕ) → some_and p (get_or w.leases m None) ≡ true → m < 16
  unfolding b
  out_small p m out = elim (cases_lt m 16) [
    | inl lt ↦ lt
    | inr ge ↦ absurd (both_ways false refl (subst (λ o. some_and p o ≡ true) (get_or_past w.leases m None (omega (arith, b.numbers))) out))
  ]

  pub give_slip_sound : (x : Slip) → Granted (Sound d) w (gives_slip x)
  give_slip_sound x es = given_sound x.lease (out_small _ x.lease (and_parts (eqb x.bench w.number) _ (not-false _ es.0)).1)
