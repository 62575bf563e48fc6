-- A lane whose blocks have failures enough to spare is live, with each block read, while they burn.
use Rattle.std.proofs.Common.{◌≡◌, ℕ, suc, ◌+◌, ◌<◌, ◌≤◌, Bool, true, false, cond, ◌&&◌, eqb, ltb, List, [], ◌∷◌, ◌++◌, length, get_or, set, is_some, Some, None, Option, sym, refl, ap, ◌∙◌, subst, inl, inr, arith, MatchOption}
use Rattle.std.proofs.lemmas.List.{length-map}
use Rattle.std.proofs.lemmas.Bool.{cond_both, cond-true, cond-false, both_ways, cases_eq, cases_lt, lt-ltb, le-ltb, lt-leb, ne_eqb, and_from, and_parts, and_left, and_right, or_from, not_from_true, ltb-true, ltb-false}
use Rattle.refusal.specs.declared.Fault.{Fault}
use Rattle.disk.specs.Meaning.{Block, block_at, read_number, read_after}
use Rattle.windows.specs.Windows.{tried}
use Rattle.schedule.specs.Orders.{deadline, owed}
use Rattle.history.specs.declared.Asked.{Asked}
use Rattle.history.specs.declared.Event.TheVariants.{FailedAttempt, BlockRead, Close}
use Rattle.history.specs.declared.Lane.{Lane}
use Rattle.history.specs.declared.Lease.{Lease}
use Rattle.history.specs.declared.Stage.TheVariants.{Held, Finished}
use Rattle.history.specs.Bench.{Valid, World, Out, any, is_live, lane_in, lane_at, no_lane, burn_end, free, work}
use Rattle.history.specs.Calls.{Answer, refused, done, reported, report_of, span_told, new, happens, new_lane, admitted, admit, admit_checks, charged_with, due, next_block, read_done, read_failed, holds_up, all_aged, passed, served, there, vacant, lease_told, take_block, take_checks, closed, close, close_checks}
use Rattle.history.specs.Told.{Call, admits, ticks, takes, gives, gives_slip, closes, call, after, granted, told}
use Rattle.history.specs.Laws.{Start, AtMost, count_out, SpareEnough, NeverClosed, NeverHeld, TakenWhileItBurns}
use Rattle.history.proofs.Charges.{charge, charges, on_time}
use Rattle.history.proofs.Checks.{checked_cases, passes, Passes, Granted, call_keeps}
use Rattle.history.proofs.Choosing.{Chosen, Idle, chosen, deadline_up}
use Rattle.history.proofs.Histories.{new_sound, call_sound, after_sound, after_onward}
use Rattle.history.proofs.Passing.{aged_at}
use Rattle.history.proofs.Runs.{after-++}
use Rattle.history.proofs.Serving.{charge_at}
use Rattle.history.proofs.Sound.{IsLive, Steady, Sound, set_at}
use Rattle.history.proofs.Telling.{view, told_is}
use Rattle.history.proofs.Tracking.{Tracked, enough_more, enough_at_most, owed_some, tracked_other, tracked_read, tracked_failed}

-- a live lane that no lease holds up and whose last burn goes on stays as it is
stays : (t : ℕ) (es : List (Option Lease)) (ls : List (Option Lane)) (h : ℕ) → IsLive (lane_at ls h) → any (holds_up t (lane_at ls h)) es ≡ false
    → (deadline (lane_at ls h).order.timing (lane_at ls h).order.timing.count ≡ t → ⊥) → lane_at (all_aged t es ls) h ≡ lane_at ls h
stays t es ls h alive none goes =
    let l : Lane = lane_at ls h in
    let s : cond (any (holds_up t l) es) Held (cond (eqb (deadline l.order.timing l.order.timing.count) t) Finished l.stage) ≡ l.stage =
    cond-false _ _ _ none ∙ cond-false _ _ _ (ne_eqb _ t goes) in
    aged_at t es ls h ∙ cond-true _ _ _ alive ∙ λ i. record { order = l.order; admitted = l.admitted; next = l.next; failed = l.failed; stage = s i; buffers = l.buffers }

any_false : {A : Type 0} (p : A → Bool) (os : List (Option A)) → ((m : ℕ) (a : A) → get_or os m None ≡ Some a → p a ≡ false) → any p os ≡ false
any_false p [] f = refl
any_false p (None ∷ os) f = any_false p os (λ m. f (suc m))
any_false p (Some a ∷ os) f = or_from (p a) (any p os) (f 0 a refl) (any_false p os (λ m. f (suc m)))

live_some : (o : Option Lane) → IsLive (lane_in o) → is_some o ≡ true
live_some None alive = absurd (both_ways false refl alive)
live_some (Some l) alive = refl

differ : (a b c d x y : ℕ) → (a ≡ b → c ≡ d → x ≡ y → ⊥) → (eqb a b && (eqb c d && eqb x y)) ≡ false
differ a b c d x y f = elim (cases_eq a b) [
  | inr ne ↦ and_left (eqb a b) _ (ne_eqb a b ne)
  | inl p ↦ elim (cases_eq c d) [
    | inr ne ↦ and_right (eqb a b) _ (and_left (eqb c d) _ (ne_eqb c d ne))
    | inl q ↦ and_right (eqb a b) _ (and_right (eqb c d) _ (ne_eqb x y (f p q)))
  ]
]

-- no lease of the lane is out on a block whose burn has ended
abbrev pub Calm : Asked → ℕ → World → Type 0
Calm o a w = (m : ℕ) (e : Lease) → Out w.leases m e → e.head ≡ o.head → e.admitted ≡ a → w.now < burn_end o.timing e.index

close_passes : (w : World) (h : ℕ) → Passes (close_checks w h) → close w h ≡ (closed w h, reported (report_of (happens (lane_at w.lanes h) Close)))
unfolding close
close_passes w h es = passes w (close_checks w h) _ es

-- no close of head h is granted here
abbrev pub Unclosed : ℕ → World → Call → Type 0
Unclosed h w (closes g) = g ≡ h → granted (close w g).1 ≡ true → ⊥
Unclosed h w (admits o v) = Unit {0}
Unclosed h w (ticks f) = Unit {0}
Unclosed h w (takes g i party slip) = Unit {0}
Unclosed h w (gives party m) = Unit {0}
Unclosed h w (gives_slip x) = Unit {0}

-- the lane of order o, admitted at slot a, is tracked
abbrev TrackedIn : Asked → ℕ → World → Type 0
TrackedIn o a w = Tracked o a w.disk (lane_at w.lanes o.head)

-- while its leases come back in time and its last burn goes on
abbrev Goes : Asked → ℕ → World → Type 0
Goes o a w = Calm o a w → w.now < deadline o.timing o.timing.count → TrackedIn o a w

module _ (d : List Block) (o : Asked) (a : ℕ) where
  tracked_passed : (w : World) → TrackedIn o a w → Goes o a (passed w)
  tracked_passed w t calm on =
      let l : Lane = lane_at w.lanes o.head in
      let none = any_false (holds_up (suc w.now) l) w.leases (λ m e out. in_time e (calm m e out)) in
      subst (Tracked o a w.disk) (sym (stays (suc w.now) w.leases w.lanes o.head t.alive none
      (λ e. let e' = subst (λ o. deadline o.timing o.timing.count ≡ suc w.now) t.order e in omega arith))) t
    where
      in_time : (e : Lease) → (e.head ≡ o.head → e.admitted ≡ a → suc w.now < burn_end o.timing e.index) → holds_up (suc w.now) (lane_at w.lanes o.head) e ≡ false
      in_time e early =
          let l : Lane = lane_at w.lanes o.head in
          differ e.head l.order.head e.admitted l.admitted (burn_end l.order.timing e.index) (suc w.now) (λ same same' z.
          let z' = subst (λ o. burn_end o.timing e.index ≡ suc w.now) t.order z in
          omega (arith, early (same ∙ ap (λ o. o.head) t.order) (same' ∙ t.admitted)))

  module _ (w : World) (s : Sound d w) (t : TrackedIn o a w) where
    tracked_set : (k : ℕ) (x : Option Lane) → k < 8 → (o.head ≡ k → ⊥) → Tracked o a w.disk (lane_at (set w.lanes k x) o.head)
    tracked_set k x in' ne =
        set_at (λ y. Tracked o a w.disk (lane_in y)) w.lanes k o.head x None (omega (arith, s.base.heads)) (λ q. absurd (ne q)) (λ _. t)

    tracked_served : (f : Fault) (c : Option (ℕ × ℕ)) → MatchOption c (Idle w.now w.lanes) (Chosen w.now w.lanes) → Goes o a (served w f c).0
    tracked_served f None q = tracked_passed w t
    tracked_served f (Some (k, D)) q =
        let l : Lane = lane_at w.lanes k in
        cond_both (eqb (read_number w.disk (next_block l) 64) 0) _ _ (λ (r : World × Answer). Goes o a (passed r.0))
        (λ _. tracked_passed (read_done w k l) (moves (happens l BlockRead)
        (λ e. subst (λ h. Tracked o a (read_after w.disk (next_block (lane_at w.lanes h)) 64) (happens (lane_at w.lanes h) BlockRead)) e
        (tracked_read o a w.disk (lane_at w.lanes o.head) t))))
        (λ bad. tracked_passed (read_failed w k l f) (moves (happens l (FailedAttempt f)) (λ e.
        let P : ℕ → Type 0 = λ h. due w.now (lane_at w.lanes h) ≡ true → eqb (read_number w.disk (next_block (lane_at w.lanes h)) 64) 0 ≡ false
        → Tracked o a (read_after w.disk (next_block (lane_at w.lanes h)) 64) (happens (lane_at w.lanes h) (FailedAttempt f)) in
        subst P e own_fails q.is_due bad)))
      where
        own_fails : due w.now (lane_at w.lanes o.head) ≡ true → eqb (read_number w.disk (next_block (lane_at w.lanes o.head)) 64) 0 ≡ false
            → Tracked o a (read_after w.disk (next_block (lane_at w.lanes o.head)) 64) (happens (lane_at w.lanes o.head) (FailedAttempt f))
        own_fails is bad =
            let l : Lane = lane_at w.lanes o.head in
            let unread : l.next < l.order.timing.count = ltb-true _ _ (and_parts (ltb l.next l.order.timing.count) _ (and_parts (is_live l.stage) _ is).1).0 in
            let lt : l.next < o.timing.count = subst (λ o. l.next < o.timing.count) t.order unread in
            let on_disk = subst (λ o. o.first + o.timing.count ≤ length d) t.order (s.base.lanes o.head t.alive).settled.on_disk in
            tracked_failed o a w.disk l t f lt (omega (arith, s.base.disk.size)) bad

        moves : (l' : Lane) → (o.head ≡ k → Tracked o a (read_after w.disk (next_block (lane_at w.lanes k)) 64) l')
            → Tracked o a (read_after w.disk (next_block (lane_at w.lanes k)) 64) (lane_at (set w.lanes k (Some l')) o.head)
        moves l' mine =
            set_at (λ y. Tracked o a (read_after w.disk (next_block (lane_at w.lanes k)) 64) (lane_in y)) w.lanes k o.head (Some l') None q.place mine
            (λ _. tracked_other o a w.disk (lane_at w.lanes o.head) t (next_block (lane_at w.lanes k)))

    call_tracked : (c : Call) → Unclosed o.head w c → Goes o a (call w c).0
    call_tracked c u = call_keeps (Goes o a) w c (λ _ _. t) (granted_tracked c u)
      where
        granted_tracked : (c : Call) → Unclosed o.head w c → Granted (Goes o a) w c
        granted_tracked (admits n v) u = λ es _ _.
            tracked_set n.head (Some (new_lane w.now (free w.lanes w.leases) n)) v.head
            (λ q. both_ways _ es.0 (subst (λ h. is_some (get_or w.lanes h None) ≡ true) q (live_some _ t.alive)))
        granted_tracked (ticks f) u = λ _. tracked_served f _ (chosen w.now w.lanes)
        granted_tracked (takes h i party slip) u = λ es _ _. t
        granted_tracked (gives party m) u = λ es _ _. t
        granted_tracked (gives_slip x) u = λ es _ _. t
        granted_tracked (closes h) u = λ es _ _. tracked_set h None (omega (arith, ltb-false 7 h es.0)) (λ q. u (sym q) (ap (λ r. granted r.1) (close_passes w h es)))

  after_tracked : (w : World) (cs : List Call) → Sound d w → TrackedIn o a w
      → ((x y : List Call) → cs ≡ x ++ closes o.head ∷ y → granted (close (after w x) o.head).1 ≡ true → ⊥)
      → ((x y : List Call) → cs ≡ x ++ y → Calm o a (after w x)) → (after w cs).now < deadline o.timing o.timing.count → TrackedIn o a (after w cs)
  after_tracked w [] s t unclosed calm on = t
  after_tracked w (c ∷ cs) s t unclosed calm on =
      let n : World = (call w c).0 in
      after_tracked n cs (call_sound d w c s)
      (call_tracked w s t c (first c (λ e. unclosed [] cs e)) (calm (c ∷ []) cs refl) (omega (arith, (after_onward n cs).1)))
      (λ x y e. unclosed (c ∷ x) y (ap (λ xs. c ∷ xs) e)) (λ x y e. calm (c ∷ x) y (ap (λ xs. c ∷ xs) e)) on
    where
      first : (c : Call) → (c ∷ cs ≡ closes o.head ∷ cs → granted (close w o.head).1 ≡ true → ⊥) → Unclosed o.head w c
      first (closes g) u = λ e z. u (ap (λ h. closes h ∷ cs) e) (subst (λ h. granted (close w h).1 ≡ true) e z)
      first (admits n v) u = tt
      first (ticks f) u = tt
      first (takes h i party slip) u = tt
      first (gives party m) u = tt
      first (gives_slip x) u = tt

  -- a tracked lane's block is there while it burns
  is_there : (w : World) (i : ℕ) → Sound d w → TrackedIn o a w → i < o.timing.count → deadline o.timing i ≤ w.now → w.now < burn_end o.timing i → there w.now (lane_at w.lanes o.head) i ≡ true
  is_there w i s t lt from to =
      let l : Lane = lane_at w.lanes o.head in
      let st = s.base.lanes o.head t.alive in
      let small : o.head < length w.lanes = omega (arith, s.base.heads, st.settled.valid.head, ap (λ o. o.head) t.order) in
      let inside : o.head < length (charges w.lanes) = rw length-map small in
      let ahead : l.next < (charge l).blocks → 0 < owed (work l) l.next → w.now < deadline l.order.timing l.next =
      subst (λ c. l.next < c.blocks → 0 < c.owed l.next → w.now < c.deadline l.next) (charge_at w.lanes o.head)
      (λ p q. on_time w.now l.next o.head (charges w.lanes) (charge no_lane) inside p q s.fits) in
      and_from _ _ t.alive (and_from _ _ (lt-ltb i l.next (read l st t.alive t.order ahead)) (lt-ltb w.now _ (subst (λ x. w.now < burn_end x.timing i) (sym t.order) to)))
    where
      read : (l : Lane) → Steady d w.now w.pool o.head l → IsLive l → l.order ≡ o → (l.next < (charge l).blocks → 0 < owed (work l) l.next → w.now < deadline l.order.timing l.next) → i < l.next
      read l st alive same ahead = elim (cases_lt i l.next) [
        | inl lt' ↦ lt'
        | inr ge ↦
            let blocks : (charge l).blocks ≡ o.timing.count = cond-true _ _ 0 alive ∙ ap (λ o. o.timing.count) same in
            let some : 0 < owed (work l) l.next = owed_some l st.spared in
            let late = subst (λ o. w.now < deadline o.timing l.next) same (ahead (omega arith) some) in
            absurd (omega (arith, deadline_up o.timing l.next i ge))
      ]

-- a granted admit puts the order's lane
admit_done : (w : World) (o : Asked) → (admit w o).1 ≡ done → (admit w o).0 ≡ admitted w o
unfolding admit
admit_done w o =
    checked_cases (λ r. r.1 ≡ done → r.0 ≡ admitted w o) w (admit_checks w o) (admitted w o, done)
    ((λ _ e. absurd (never _ e)), ((λ _ e. absurd (never _ e)), ((λ _ e. absurd (never _ e)), ((λ _ e. absurd (never _ e)), (told (tried (charged_with w.now w.lanes o)), tt)))))
    (λ _ _. refl)
  where
    never : (ns : List ℕ) → refused ns ≡ done → ⊥
    never ns e = let z : ◌≡◌ {A = ℕ} 0 1 = cc in omega arith

    told : (x : Option (ℕ × ℕ)) → is_some x ≡ true → span_told x ≡ done → w ≡ admitted w o
    told None e z = absurd (both_ways false refl e)
    told (Some p) e z = absurd (let z : ◌≡◌ {A = ℕ} 0 1 = cc in omega arith)

count_vacant : (es : List (Option Lease)) → count_out es < length es → vacant es < length es
count_vacant [] e = e
count_vacant (None ∷ es) e = omega arith
count_vacant (Some x ∷ es) e = omega (arith, count_vacant es (omega arith))

-- a lane is tracked from its admission on, if no block of it has more failures to come than its spare attempts
begun_tracked : (w : World) (o : Asked) → o.head < length w.lanes → ((i : ℕ) → i < o.timing.count → AtMost o.timing.spare (block_at w.disk (o.first + i)).coming)
    → TrackedIn o w.now (admitted w o)
begun_tracked w o in' spare =
    set_at (λ y. Tracked o w.now w.disk (lane_in y)) w.lanes o.head o.head (Some l) None in'
    (λ _. record { alive = refl; order = refl; admitted = refl; enough = λ j _ e. enough_more _ (1 + o.timing.spare) _ (fresh_owed j) (enough_at_most o.timing.spare _ (spare j e)) })
    (λ ne. absurd (ne refl))
  where
    l : Lane
    l = new_lane w.now (free w.lanes w.leases) o

    fresh_owed : (j : ℕ) → 1 + o.timing.spare ≤ owed (work (new_lane w.now (free w.lanes w.leases) o)) j
    fresh_owed j = grind arith

-- take of a block that is there is granted, if a lease number is free
take_granted : (d : List Block) (w : World) (h i party : ℕ) (slip : Bool) → Sound d w → h < 8 → i < 4096 → party ≤ 3 → is_some (get_or w.lanes h None) ≡ true
    → there w.now (lane_at w.lanes h) i ≡ true → count_out w.leases < 16 → (take_block w h i party slip).1 ≡ lease_told w.number (vacant w.leases) party slip
unfolding take_block
take_granted d w h i party slip s hh ii low lane is few =
    let free : vacant w.leases < 16 = omega (arith, count_vacant w.leases (omega (arith, s.base.numbers)), s.base.numbers) in
    ap (λ r. r.1) (passes w (take_checks w h i party) _ (
      or_from _ _ (le-ltb 7 h (omega arith)) (or_from _ _ (le-ltb 4095 i (omega arith)) (le-ltb 3 party low)),
      (not_from_true _ lane, (not_from_true _ is, (lt-leb 16 _ free, tt))),
    ))

-- the lane of order o, admitted after the calls `before`
module _ (number : ℕ) (disk : List Block) (pool : List ℕ) (start : Start disk pool) (before : List Call) (o : Asked) (v : Valid o) (is-done : (admit (after (new number disk pool) before) o).1 ≡ done) where
  abbrev w : World
  w = new number disk pool

  abbrev b : World
  b = after w before

  abbrev n : World
  n = (admit b o).0

  b_sound : Sound disk b
  b_sound = after_sound disk w before (new_sound number disk pool start)

  n_sound : Sound disk n
  n_sound = call_sound disk b (admits o v) b_sound

  here : (x : List Call) → after w (before ++ admits o v ∷ x) ≡ after n x
  here x = after-++ w before (admits o v ∷ x)

  seen : (x : List Call) → told w (before ++ admits o v ∷ x) ≡ view (after n x)
  seen x = told_is number disk pool (before ++ admits o v ∷ x) ∙ ap view (here x)

  number_is : (x : List Call) → (after n x).number ≡ number
  number_is x = (after_onward n x).0 ∙ (after_onward b (admits o v ∷ [])).0 ∙ (after_onward w before).0

  begun : SpareEnough number disk pool before o v → TrackedIn o b.now n
  begun spare =
      subst (TrackedIn o b.now) (sym (admit_done b o is-done))
      (begun_tracked b o (omega (arith, v.head, b_sound.base.heads))
      (λ i e. subst (λ t. AtMost o.timing.spare (block_at t.disk (o.first + i)).coming) (told_is number disk pool before) (spare i e)))

  tracked : (cs : List Call) → SpareEnough number disk pool before o v → NeverClosed number disk pool before o v cs → NeverHeld number disk pool before o v cs
      → (after n cs).now < deadline o.timing o.timing.count → TrackedIn o b.now (after n cs)
  tracked cs spare unclosed calm =
      after_tracked disk o b.now n cs n_sound (begun spare)
      (λ x y e g. unclosed x y e (subst (λ u. granted (close u o.head).1 ≡ true) (sym (here x)) g))
      (λ x y e m l out head adm.
      subst (λ u. u.now < burn_end o.timing l.index) (seen x)
      (calm x y e m l (subst (λ u. Out u.leases m l) (sym (seen x)) out) head (adm ∙ sym (ap (λ u. u.now) (told_is number disk pool before)))))

pub taken_law : (number : ℕ) (disk : List Block) (pool : List ℕ) → Start disk pool → TakenWhileItBurns number disk pool
taken_law number disk pool start before o v cs is-done spare unclosed calm i party slip lt low from to few =
    let z : World = after (admit (after (new number disk pool) before) o).0 cs in
    let is = seen number disk pool start before o v is-done cs in
    let from' : deadline o.timing i ≤ z.now = subst (λ t. deadline o.timing i ≤ t.now) is from in
    let to' : z.now < burn_end o.timing i = subst (λ t. t.now < burn_end o.timing i) is to in
    let sound : Sound disk z = after_sound disk _ cs (n_sound number disk pool start before o v is-done) in
    let t = tracked number disk pool start before o v is-done cs spare unclosed calm (omega (arith, deadline_up o.timing (i + 1) o.timing.count (omega arith))) in (
      vacant z.leases,
      subst (λ u. (take_block u o.head i party slip).1 ≡ lease_told number (vacant z.leases) party slip) (sym (here number disk pool start before o v is-done cs))
          (take_granted disk z o.head i party slip sound v.head (omega (arith, v.timing.count_most)) low (live_some _ t.alive)
          (is_there disk o _ z i sound t lt from' to') (subst (λ u. count_out u.leases < 16) is few)
          ∙ ap (λ k. lease_told k (vacant z.leases) party slip) (number_is number disk pool start before o v is-done cs)),
    )
