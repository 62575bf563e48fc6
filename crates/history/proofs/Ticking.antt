-- A tick keeps a bench sound.
use Rattle.std.proofs.Common.{◌≡◌, ℕ, suc, ◌+◌, ◌-◌, ◌*◌, ◌%◌, ◌<◌, ◌≤◌, true, false, cond, eqb, ltb, List, length, get_or, set, Some, None, Option, sym, refl, ap, ◌∙◌, subst, inl, inr, mod-lt, arith, MatchOption}
use Rattle.std.proofs.lemmas.List.{get_or_past}
use Rattle.std.proofs.lemmas.Bool.{cond_both, both_ways, cases_lt, cases_eq, and_parts, ltb-true, leb-true, cond-true, cond-false, le-ltb}
use Rattle.refusal.specs.declared.Fault.{Fault}
use Rattle.disk.specs.Meaning.{Block, block_at, read_number, read_after}
use Rattle.disk.proofs.Meaning.{wears}
use Rattle.windows.specs.Windows.{NoneOverfull}
use Rattle.schedule.specs.Orders.{deadline, release}
use Rattle.schedule.specs.declared.Timing.{Timing}
use Rattle.history.specs.declared.Event.{Event}
use Rattle.history.specs.declared.Event.TheVariants.{FailedAttempt, BlockRead}
use Rattle.history.specs.declared.Lane.{Lane}
use Rattle.history.specs.declared.Lease.{Lease}
use Rattle.history.specs.declared.Stage.{Stage}
use Rattle.history.specs.declared.Stage.TheVariants.{Faulted}
use Rattle.history.specs.Bench.{World, is_live, lane_in, lane_at, Out, burn_end, buffer_of, bytes_in, written}
use Rattle.history.specs.Calls.{Answer, on_live, happens, due, next_block, choice, moved, passed, served}
use Rattle.history.specs.Told.{ticks}
use Rattle.history.proofs.Buffers.{length_written, written_same, written_other, places_differ}
use Rattle.history.proofs.Charges.{charged_in}
use Rattle.history.proofs.Checks.{Granted}
use Rattle.history.proofs.Choosing.{Idle, Chosen, chosen, deadline_up}
use Rattle.history.proofs.Passing.{passed_sound}
use Rattle.history.proofs.Serving.{Early, idle_fits, served_fits}
use Rattle.history.proofs.Sound.{IsLive, Puts, Steady, SameBytes, Base, Sound, put_lane}

-- a read alters no bytes
same_after : (d m : List Block) (x : ℕ) → SameBytes d m → SameBytes d (read_after m x 64)
same_after d m x s = record { size = (wears m x 0).size ∙ s.size; bytes = λ y. (wears m x y).bytes ∙ s.bytes y }

-- a block that is released while the burn of an earlier block lasts is less than a depth behind it
pub near : (o : Timing) (a now i j : ℕ) → release o a j ≤ now → now < burn_end o i → i < j → j < i + o.depth
near o a now i j rel burns up = elim (cases_lt j o.depth) [
  | inl lt ↦ omega arith
  | inr ge ↦ elim (cases_lt j (i + o.depth)) [
    | inl lt ↦ lt
    | inr far ↦
        let r : deadline o (j - o.depth + 1) ≤ now = subst (λ x. x ≤ now) (cond-false _ a _ (le-ltb j o.depth ge)) rel in
        absurd (omega (arith, deadline_up o (i + 1) (j - o.depth + 1) (omega arith)))
  ]
]

pub happens_live : (l : Lane) (e : Event) → IsLive l → happens l e ≡ on_live l e
happens_live l e alive = cond-true (is_live l.stage) (on_live l e) l alive

-- a read that succeeds or fails, after which head k's lane is l'
abbrev read_as : World → ℕ → Lane → Lane → World
read_as w k l l' = record {
  number = w.number;
  now = w.now;
  lanes = set w.lanes k (Some l');
  leases = w.leases;
  disk = read_after w.disk (next_block l) 64;
  pool = written w.pool (buffer_of l l.next) (block_at w.disk (next_block l)).bytes;
  attempts = suc w.attempts;
  failures = w.failures;
}

abbrev failed_as : World → ℕ → Lane → Lane → World
failed_as w k l l' = record {
  number = w.number;
  now = w.now;
  lanes = set w.lanes k (Some l');
  leases = w.leases;
  disk = read_after w.disk (next_block l) 64;
  pool = w.pool;
  attempts = suc w.attempts;
  failures = suc w.failures;
}

-- a lane moves on in its order, with its buffers
moves : (d : List Block) (w : World) (b : Base d w) (k : ℕ) (i f : ℕ) (s : Stage) (pool' : List ℕ) → k < 8
    → (is_live s ≡ true → IsLive (lane_at w.lanes k)) → (lane_at w.lanes k).next ≤ i
    → (is_live s ≡ true → Steady d w.now pool' k (moved (lane_at w.lanes k) i f s)) → length pool' ≡ 2048
    → ((h : ℕ) → (h ≡ k → ⊥) → IsLive (lane_at w.lanes h) → (j : ℕ) → j < (lane_at w.lanes h).order.timing.depth
    → bytes_in pool' (get_or (lane_at w.lanes h).buffers j 0) ≡ bytes_in w.pool (get_or (lane_at w.lanes h).buffers j 0))
    → ((m : ℕ) (e : Lease) → Out w.leases m e → bytes_in pool' e.buffer ≡ bytes_in w.pool e.buffer)
    → Puts d w k (moved (lane_at w.lanes k) i f s) pool'
moves d w b k i f s pool' in' was up steady size others leased = record {
  place = in';
  steady = steady;
  once = λ m n al bl. b.apart k k m n (was al) (was bl);
  apart = λ g m n al bl. b.apart k g m n (was al) bl;
  guards = λ m e out j alive jj g.
      let r = (b.leases m e out).guarded k j (was alive) jj g in
      record { head = r.head; admitted = r.admitted; place = r.place; read = omega (arith, r.read); burning = r.burning };
  size = size;
  lanes_kept = others;
  leases_kept = leased;
}

module _ (d : List Block) (w : World) (b : Base d w) (k : ℕ) (is : due w.now (lane_at w.lanes k) ≡ true) where
  abbrev l : Lane
  l = lane_at w.lanes k

  alive : IsLive l
  alive = (and_parts (is_live l.stage) _ is).0

  unread : l.next < l.order.timing.count
  unread = ltb-true _ _ (and_parts (ltb l.next l.order.timing.count) _ (and_parts (is_live l.stage) _ is).1).0

  released : release l.order.timing l.admitted l.next ≤ w.now
  released = leb-true _ _ (and_parts (ltb l.next l.order.timing.count) _ (and_parts (is_live l.stage) _ is).1).1

  steady : Steady d w.now w.pool k l
  steady = b.lanes k alive

  small : k < 8
  small = elim (cases_lt k 8) [
    | inl lt ↦ lt
    | inr ge ↦ absurd (both_ways false refl (subst (λ o. is_live (lane_in o).stage ≡ true) (get_or_past w.lanes k None (omega (arith, b.heads))) alive))
  ]

  failed_base : (f : Fault) → Base d (failed_as w k l (on_live l (FailedAttempt f)))
  failed_base f =
      let s : Stage = cond (ltb l.failed l.order.timing.spare) l.stage (Faulted f) in
      put_lane d w b k (Some (on_live l (FailedAttempt f))) w.pool
      (moves d w b k l.next (suc l.failed) s w.pool small (λ _. alive) (omega arith)
      (λ still. record {
        settled = steady.settled;
        upto = steady.upto;
        released = steady.released;
        bytes = steady.bytes;
        spared = cond_both (ltb l.failed l.order.timing.spare) l.stage (Faulted f) (λ x. is_live x ≡ true → suc l.failed ≤ l.order.timing.spare)
            (λ e _. ltb-true _ _ e) (λ _ z. absurd (both_ways false refl z)) still;
      })
      b.pool (λ _ _ _ _ _. refl) (λ _ _ _. refl))
      _ _ _ (same_after d w.disk _ b.disk)

  -- an earlier block that still burns lies elsewhere
  elsewhere : (i : ℕ) → i < l.next → w.now < burn_end l.order.timing i → i % l.order.timing.depth ≡ l.next % l.order.timing.depth → ⊥
  elsewhere i lt burns = places_differ i l.next l.order.timing.depth lt (near l.order.timing l.admitted w.now i l.next released burns lt)

  -- THE READ THAT SUCCEEDS

  abbrev n : ℕ
  n = l.order.timing.depth

  abbrev x : ℕ
  x = buffer_of l l.next

  abbrev ks : List ℕ
  ks = (block_at w.disk (next_block l)).bytes

  place_small : (i : ℕ) → i % n < n
  place_small i = mod-lt i (omega (arith, steady.settled.valid.timing.depth_least))

  inside : 64 * x + 64 ≤ length w.pool
  inside = let low : x < 32 = steady.settled.placed (l.next % n) (place_small l.next) in omega (arith, b.pool)

  as_on_disk : ks ≡ (block_at d (next_block l)).bytes
  as_on_disk = b.disk.bytes (next_block l)

  full : length ks ≡ 64
  full = ap length as_on_disk ∙ b.full (next_block l) (omega (arith, unread, steady.settled.on_disk))

  -- the other buffers are as they were
  others_kept : (y : ℕ) → y < 32 → (y ≡ x → ⊥) → bytes_in (written w.pool x ks) y ≡ bytes_in w.pool y
  others_kept y low ne = written_other w.pool ks x inside full y (omega (arith, b.pool)) ne

  read_bytes : (i : ℕ) → i < suc l.next → w.now < burn_end l.order.timing i → bytes_in (written w.pool x ks) (buffer_of l i) ≡ (block_at d (l.order.first + i)).bytes
  read_bytes i e burns = elim (cases_eq i l.next) [
    | inl q ↦ subst (λ i. bytes_in (written w.pool x ks) (buffer_of l i) ≡ (block_at d (l.order.first + i)).bytes) (sym q) (written_same w.pool ks x inside full ∙ as_on_disk)
    | inr q ↦
        let lt : i < l.next = omega arith in
        others_kept (buffer_of l i) (steady.settled.placed (i % n) (place_small i))
        (λ e. elsewhere i lt burns (b.apart k k (i % n) (l.next % n) alive alive (place_small i) (place_small l.next) e).1)
        ∙ steady.bytes i lt burns
  ]

  read_steady : Steady d w.now (written w.pool x ks) k (on_live l BlockRead)
  read_steady = record {
    settled = steady.settled;
    upto = unread;
    spared = omega arith;
    released = λ i e. elim (cases_eq i l.next) [
      | inl q ↦ subst (λ i. release l.order.timing l.admitted i ≤ w.now) (sym q) released
      | inr q ↦ steady.released i (omega arith)
    ];
    bytes = read_bytes;
  }

  done_base : Base d (read_as w k l (on_live l BlockRead))
  done_base =
      put_lane d w b k (Some (on_live l BlockRead)) (written w.pool x ks)
      (moves d w b k (suc l.next) 0 l.stage (written w.pool x ks) small (λ e. e) (omega arith) (λ _. read_steady) (length_written w.pool ks x inside full ∙ b.pool)
      (λ h ne also j jj. others_kept _ ((b.lanes h also).settled.placed j jj) (λ e. ne (b.apart h k j (l.next % n) also alive jj (place_small l.next) e).0))
      (λ m e out. others_kept e.buffer (b.leases m e out).placed
      (λ q. let g = (b.leases m e out).guarded k (l.next % n) alive (place_small l.next) (sym q) in elsewhere e.index g.read g.burning g.place)))
      _ _ _ (same_after d w.disk _ b.disk)

pub tick_sound : (d : List Block) (w : World) (f : Fault) → Sound d w → Granted (Sound d) w (ticks f)
tick_sound d w f s = λ _. serve (choice w.now w.lanes) (chosen w.now w.lanes)
  where
    early : Early w.lanes
    early h a = (s.base.lanes h a).settled.early

    fits : NoneOverfull (charged_in w.now w.lanes)
    fits = s.fits

    serve : (c : Option (ℕ × ℕ)) → MatchOption c (Idle w.now w.lanes) (Chosen w.now w.lanes) → Sound d (served w f c).0
    serve None q = passed_sound d w s.base (idle_fits w.now w.lanes early q fits)
    serve (Some (k, D)) q =
        let l : Lane = lane_at w.lanes k in
        let alive = (and_parts (is_live l.stage) _ q.is_due).0 in
        let spared = (steady d w s.base k q.is_due).spared in
        cond_both (eqb (read_number w.disk (next_block l) 64) 0) _ _ (λ (r : World × Answer). Sound d (passed r.0))
        (λ _. subst (λ l'. Sound d (passed (read_as w k l l'))) (sym (happens_live l BlockRead alive))
        (passed_sound d _ (done_base d w s.base k q.is_due) (served_fits w.now w.lanes k D q early spared _ _ _ (λ j. grind arith) fits)))
        (λ _. subst (λ l'. Sound d (passed (failed_as w k l l'))) (sym (happens_live l (FailedAttempt f) alive))
        (passed_sound d _ (failed_base d w s.base k q.is_due f) (served_fits w.now w.lanes k D q early spared _ _ _ (λ j. grind arith) fits)))
