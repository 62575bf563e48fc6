-- No fault that a disk tells is seen in the log: a bench with the faults of its lanes made plain answers alike.
use Rattle.std.proofs.Common.{◌≡◌, ℕ, zero, suc, ◌+◌, Bool, true, false, cond, not, ◌&&◌, ◌||◌, eqb, ltb, leb, List, [], ◌∷◌, map, length, get_or, set, is_some, Some, None, filter, Option, sym, refl, ap, ◌∙◌, subst}
use Rattle.std.specs.List.{range_with_len}
use Rattle.std.proofs.lemmas.List.{map-set}
use Rattle.refusal.specs.declared.Fault.{Fault}
use Rattle.refusal.specs.declared.Refusal.TheVariants.{HeadTaken, Past, OffDisk, PoolShort, Bounds, HeadEmpty, NotThere, LeasesOut}
use Rattle.disk.specs.Meaning.{read_number}
use Rattle.windows.specs.Windows.{tried}
use Rattle.schedule.specs.Orders.{charged, release, deadline}
use Rattle.history.specs.declared.Asked.{Asked}
use Rattle.history.specs.declared.Event.{Event}
use Rattle.history.specs.declared.Event.TheVariants.{FailedAttempt, BlockRead, BurnEnd, Close}
use Rattle.history.specs.declared.Lane.{Lane}
use Rattle.history.specs.declared.Lease.{Lease}
use Rattle.history.specs.declared.Stage.{Stage}
use Rattle.history.specs.declared.Stage.TheVariants.{Live, Finished, Faulted, Held, Closed}
use Rattle.history.specs.declared.Ticked.{Ticked}
use Rattle.history.specs.declared.Ticked.TheVariants.{Idle, Read, Failed}
use Rattle.history.specs.Bench.{World, any, burn_end, is_live, running, lane_in, lane_at, has, own_buffers, in_use, free, work, works}
use Rattle.history.specs.Calls.{Answer, refused, done, ticked, leased, slipped, shown, reported, refuse, checked, with_lanes, with_leases, happens, new_lane, new_lease, holds_up, changed, all_aged, cause_of, how_ended, ends, new_work, span_told, admitted, admit, admit_checks, choice, next_deadline, sooner, later, next_block, attempted, read_done, read_failed, passed, served, tick, tick_checks, there, vacant, taken, take_block, take_checks, given, give, beyond, not_held, report_of, closed, close, close_checks}
use Rattle.bench.specs.Ticks.{no_fault}

-- THE WORLD WITHOUT FAULTS

abbrev pub plain_stage : Stage → Stage
plain_stage Live = Live
plain_stage Finished = Finished
plain_stage (Faulted f) = Faulted no_fault
plain_stage Held = Held
plain_stage Closed = Closed

abbrev staged : Lane → Stage → Lane
staged l s = record { order = l.order; admitted = l.admitted; next = l.next; failed = l.failed; stage = s; buffers = l.buffers }

abbrev pub plain_lane : Lane → Lane
plain_lane l = staged l (plain_stage l.stage)

abbrev pub plain_lanes : List (Option Lane) → List (Option Lane)
plain_lanes ls = map (changed plain_lane) ls

abbrev pub plain : World → World
plain w = with_lanes w (plain_lanes w.lanes)

-- an answer without the faults that it tells
abbrev pub plain_ticked : Ticked → Ticked
plain_ticked Idle = Idle
plain_ticked (Read h i) = Read h i
plain_ticked (Failed h i a f) = Failed h i a no_fault

abbrev pub bare : Answer → Answer
bare (ticked x) = ticked (plain_ticked x)
bare (reported r) = reported (record { stage = plain_stage r.stage; next = r.next; failed = r.failed })
bare (refused ns) = refused ns
bare done = done
bare (leased m) = leased m
bare (slipped s) = slipped s
bare (shown b) = shown b

-- LANES

live_plain : (s : Stage) → is_live (plain_stage s) ≡ is_live s
live_plain Live = refl
live_plain Finished = refl
live_plain (Faulted f) = refl
live_plain Held = refl
live_plain Closed = refl

cause_plain : (s : Stage) → cause_of (plain_stage s) ≡ cause_of s
cause_plain Live = refl
cause_plain Finished = refl
cause_plain (Faulted f) = refl
cause_plain Held = refl
cause_plain Closed = refl

stage_plain : (s : Stage) → plain_stage (plain_stage s) ≡ plain_stage s
stage_plain Live = refl
stage_plain Finished = refl
stage_plain (Faulted f) = refl
stage_plain Held = refl
stage_plain Closed = refl

is_some_plain : (o : Option Lane) → is_some (changed plain_lane o) ≡ is_some o
is_some_plain None = refl
is_some_plain (Some l) = refl

lane_in_plain : (o : Option Lane) → lane_in (changed plain_lane o) ≡ plain_lane (lane_in o)
lane_in_plain None = refl
lane_in_plain (Some l) = refl

get_or_plain : (ls : List (Option Lane)) (h : ℕ) → get_or (plain_lanes ls) h None ≡ changed plain_lane (get_or ls h None)
get_or_plain [] h = refl
get_or_plain (o ∷ ls) zero = refl
get_or_plain (o ∷ ls) (suc h) = get_or_plain ls h

some_plain : (ls : List (Option Lane)) (h : ℕ) → is_some (get_or (plain_lanes ls) h None) ≡ is_some (get_or ls h None)
some_plain ls h = ap is_some (get_or_plain ls h) ∙ is_some_plain (get_or ls h None)

lane_at_plain : (ls : List (Option Lane)) (h : ℕ) → lane_at (plain_lanes ls) h ≡ plain_lane (lane_at ls h)
lane_at_plain ls h = ap lane_in (get_or_plain ls h) ∙ lane_in_plain (get_or ls h None)

any_plain : (p : Lane → Bool) → ((l : Lane) → p (plain_lane l) ≡ p l) → (ls : List (Option Lane)) → any p (plain_lanes ls) ≡ any p ls
any_plain p e [] = refl
any_plain p e (None ∷ ls) = any_plain p e ls
any_plain p e (Some l ∷ ls) = λ i. e l i || any_plain p e ls i

pub running_plain : (ls : List (Option Lane)) → running (plain_lanes ls) ≡ running ls
running_plain ls = any_plain (λ l. is_live l.stage) (λ l. live_plain l.stage) ls

in_use_plain : (ls : List (Option Lane)) (es : List (Option Lease)) (x : ℕ) → in_use (plain_lanes ls) es x ≡ in_use ls es x
in_use_plain ls es x = ap (λ (b : Bool). b || any (λ e. eqb x e.buffer) es) (any_plain (λ l. is_live l.stage && has x (own_buffers l)) (λ l. ap (λ (b : Bool). b && has x (own_buffers l)) (live_plain l.stage)) ls)

free_plain : (ls : List (Option Lane)) (es : List (Option Lease)) → free (plain_lanes ls) es ≡ free ls es
unfolding free
free_plain ls es = λ i. filter (λ x. not (in_use_plain ls es x i)) (range_with_len 0 32)

works_plain : (ls : List (Option Lane)) → works (plain_lanes ls) ≡ works ls
works_plain [] = refl
works_plain (None ∷ ls) = works_plain ls
works_plain (Some l ∷ ls) = λ i. cond (live_plain l.stage i) (work l ∷ works_plain ls i) (works_plain ls i)

choice_plain : (t : ℕ) (ls : List (Option Lane)) → choice t (plain_lanes ls) ≡ choice t ls
unfolding choice
choice_plain t [] = refl
choice_plain t (None ∷ ls) = λ i. later (choice_plain t ls i)
choice_plain t (Some l ∷ ls) = λ i. cond (live_plain l.stage i && (ltb l.next l.order.timing.count && leb (release l.order.timing l.admitted l.next) t)) (sooner (next_deadline l) (choice_plain t ls i)) (later (choice_plain t ls i))

-- EVENTS

ends_plain : (held last : Bool) → cond held Held (cond last Finished Live) ≡ plain_stage (cond held Held (cond last Finished Live))
ends_plain true last = refl
ends_plain false true = refl
ends_plain false false = refl

fails_plain : (f : Fault) (b : Bool) → cond b Live (Faulted no_fault) ≡ plain_stage (cond b Live (Faulted f))
fails_plain f true = refl
fails_plain f false = refl

abbrev plain_event : Event → Event
plain_event (FailedAttempt f) = FailedAttempt no_fault
plain_event BlockRead = BlockRead
plain_event (BurnEnd held last) = BurnEnd held last
plain_event Close = Close

happens_plain : (l : Lane) (e : Event) → happens (plain_lane l) (plain_event e) ≡ plain_lane (happens l e)
happens_plain l e = by_stage l.stage e
  where
    by_stage : (s : Stage) (e : Event) → happens (staged l (plain_stage s)) (plain_event e) ≡ plain_lane (happens (staged l s) e)
    by_stage Live (FailedAttempt f) = λ i. record { order = l.order; admitted = l.admitted; next = l.next; failed = suc l.failed; stage = fails_plain f (ltb l.failed l.order.timing.spare) i; buffers = l.buffers }
    by_stage Live BlockRead = refl
    by_stage Live (BurnEnd held last) = ap (staged l) (ends_plain held last)
    by_stage Live Close = refl
    by_stage Finished e = refl
    by_stage (Faulted f) e = refl
    by_stage Held e = refl
    by_stage Closed e = refl

all_aged_plain : (t : ℕ) (es : List (Option Lease)) (ls : List (Option Lane)) → all_aged t es (plain_lanes ls) ≡ plain_lanes (all_aged t es ls)
all_aged_plain t es [] = refl
all_aged_plain t es (None ∷ ls) = ap (λ os. None ∷ os) (all_aged_plain t es ls)
all_aged_plain t es (Some l ∷ ls) = λ i. Some (happens_plain l (BurnEnd (any (holds_up t l) es) (eqb (deadline l.order.timing l.order.timing.count) t)) i) ∷ all_aged_plain t es ls i

how_ended_plain : (was : Bool) (o : Option Lane) → how_ended was (changed plain_lane o) ≡ how_ended was o
how_ended_plain was None = refl
how_ended_plain was (Some l) = λ i. cond (was && not (live_plain l.stage i)) (Some (cause_plain l.stage i)) None

pub ended_plain : (ls ls' : List (Option Lane)) → ends (plain_lanes ls) (plain_lanes ls') ≡ ends ls ls'
ended_plain ls ls' = λ i. map (λ h. at h i) (range_with_len 0 8)
  where
    at : (h : ℕ) → how_ended (is_live (lane_at (plain_lanes ls) h).stage) (get_or (plain_lanes ls') h None) ≡ how_ended (is_live (lane_at ls h).stage) (get_or ls' h None)
    at h =
        let was = is_live (lane_at ls h).stage in
        let same : is_live (lane_at (plain_lanes ls) h).stage ≡ was = ap (λ (l : Lane). is_live l.stage) (lane_at_plain ls h) ∙ live_plain (lane_at ls h).stage in
        ap (λ b. how_ended b (get_or (plain_lanes ls') h None)) same ∙ (ap (how_ended was) (get_or_plain ls' h) ∙ how_ended_plain was (get_or ls' h None))

set_plain : (ls : List (Option Lane)) (h : ℕ) (o : Option Lane) → set (plain_lanes ls) h (changed plain_lane o) ≡ plain_lanes (set ls h o)
set_plain ls h o = sym (map-set (changed plain_lane) ls h o)

-- CALLS

-- r' is r without faults
pub record Follows (r r' : World × Answer) : Type 0 where
  pub world : r'.0 ≡ plain r.0
  pub answer : bare r'.1 ≡ bare r.1

checked_follows : (w : World) (cs : List (Bool × Answer)) (r r' : World × Answer) → Follows r r' → Follows (checked w cs r) (checked (plain w) cs r')
checked_follows w [] r r' f = f
checked_follows w (c ∷ cs) r r' f = by c.0 (checked_follows w cs r r' f)
  where
    by : (b : Bool) → Follows (checked w cs r) (checked (plain w) cs r') → Follows (cond b (w, c.1) (checked w cs r)) (cond b (plain w, c.1) (checked (plain w) cs r'))
    by true rest = record { world = refl; answer = refl }
    by false rest = rest

checks_follow : (w : World) (cs cs' : List (Bool × Answer)) (r r' : World × Answer) → cs' ≡ cs → Follows r r' → Follows (checked w cs r) (checked (plain w) cs' r')
checks_follow w cs cs' r r' e f = subst (λ (xs : List (Bool × Answer)). Follows (checked w cs r) (checked (plain w) xs r')) (sym e) (checked_follows w cs r r' f)

relaned : (w : World) (ls ls' : List (Option Lane)) → ls ≡ ls' → with_lanes w ls ≡ with_lanes w ls'
relaned w ls ls' e = ap (with_lanes w) e

pub admit_follows : (w : World) (o : Asked) → Follows (admit w o) (admit (plain w) o)
unfolding admit
admit_follows w o =
    checks_follow w (admit_checks w o) (admit_checks (plain w) o) (admitted w o, done) (admitted (plain w) o, done)
    (λ i.
    (some_plain w.lanes o.head i, refuse HeadTaken) ∷ (ltb o.timing.start w.now, refuse Past) ∷ (ltb (length w.disk) (o.first + o.timing.count), refuse OffDisk)
    ∷ (ltb (length (free_plain w.lanes w.leases i)) o.timing.depth, refuse PoolShort)
    ∷ (is_some (tried (charged w.now (new_work w.now o ∷ works_plain w.lanes i))), span_told (tried (charged w.now (new_work w.now o ∷ works_plain w.lanes i)))) ∷ [])
    (record {
      world = relaned w _ _ ((λ i. set (plain_lanes w.lanes) o.head (Some (new_lane w.now (free_plain w.lanes w.leases i) o))) ∙ set_plain w.lanes o.head (Some (new_lane w.now (free w.lanes w.leases) o)));
      answer = refl;
    })

pub take_follows : (w : World) (h i party : ℕ) → Follows (take_block w h i party false) (take_block (plain w) h i party false)
unfolding take_block
take_follows w h i party =
    let lane = lane_at_plain w.lanes h in
    let here : there w.now (lane_at (plain_lanes w.lanes) h) i ≡ there w.now (lane_at w.lanes h) i =
    ap (λ (l : Lane). there w.now l i) lane ∙ ap (λ (b : Bool). b && (ltb i (lane_at w.lanes h).next && ltb w.now (burn_end (lane_at w.lanes h).order.timing i))) (live_plain (lane_at w.lanes h).stage) in
    checks_follow w (take_checks w h i party) (take_checks (plain w) h i party) (taken w h i party false, leased (vacant w.leases)) (taken (plain w) h i party false, leased (vacant w.leases))
    (λ k.
    (ltb 7 h || (ltb 4095 i || ltb 3 party), refuse Bounds) ∷ (not (some_plain w.lanes h k), refuse HeadEmpty) ∷ (not (here k), refuse NotThere)
    ∷ (leb 16 (vacant w.leases), refuse LeasesOut) ∷ [])
    (record { world = ap (λ (l : Lane). with_leases (plain w) (set w.leases (vacant w.leases) (Some (new_lease l h i party false)))) lane; answer = refl })

pub give_follows : (w : World) (party m : ℕ) → Follows (give w party m) (give (plain w) party m)
unfolding give
give_follows w party m = checked_follows w (beyond party m ∷ not_held w party m ∷ []) (given w m, done) (given (plain w) m, done) (record { world = refl; answer = refl })

pub close_follows : (w : World) (h : ℕ) → Follows (close w h) (close (plain w) h)
unfolding close
close_follows w h =
    let l : Lane = happens (lane_at w.lanes h) Close in
    let closing = ap (λ (x : Lane). happens x Close) (lane_at_plain w.lanes h) ∙ happens_plain (lane_at w.lanes h) Close in
    checks_follow w (close_checks w h) (close_checks (plain w) h) (closed w h, reported (report_of l)) (closed (plain w) h, reported (report_of (happens (lane_at (plain_lanes w.lanes) h) Close)))
    (λ k. (ltb 7 h, refuse Bounds) ∷ (not (some_plain w.lanes h k), refuse HeadEmpty) ∷ [])
    (record {
      world = relaned w _ _ (set_plain w.lanes h None);
      answer =
          ap (λ (x : Lane). bare (reported (report_of x))) closing
          ∙ (λ k. reported (record { stage = stage_plain l.stage k; next = l.next; failed = l.failed }));
    })

-- TICKS

passed_plain : (w : World) → passed (plain w) ≡ plain (passed w)
passed_plain w = relaned (passed w) _ _ (all_aged_plain (suc w.now) w.leases w.lanes)

read_done_plain : (w : World) (h : ℕ) (l : Lane) → read_done (plain w) h (plain_lane l) ≡ plain (read_done w h l)
read_done_plain w h l = relaned (read_done w h l) _ _ ((λ i. set (plain_lanes w.lanes) h (Some (happens_plain l BlockRead i))) ∙ set_plain w.lanes h (Some (happens l BlockRead)))

read_failed_plain : (w : World) (h : ℕ) (l : Lane) (f : Fault) → read_failed (plain w) h (plain_lane l) no_fault ≡ plain (read_failed w h l f)
read_failed_plain w h l f =
    relaned (read_failed w h l f) _ _ ((λ i. set (plain_lanes w.lanes) h (Some (happens_plain l (FailedAttempt f) i))) ∙ set_plain w.lanes h (Some (happens l (FailedAttempt f))))

module _ (w : World) (f : Fault) where
  attempted_follows : (h : ℕ) (l : Lane) → Follows (attempted w f h l) (attempted (plain w) no_fault h (plain_lane l))
  attempted_follows h l = by (eqb (read_number w.disk (next_block l) 64) 0)
    where
      by : (b : Bool) → Follows (cond b (read_done w h l, ticked (Read h l.next)) (read_failed w h l f, ticked (Failed h l.next (suc l.failed) f)))
          (cond b (read_done (plain w) h (plain_lane l), ticked (Read h l.next)) (read_failed (plain w) h (plain_lane l) no_fault, ticked (Failed h l.next (suc l.failed) no_fault)))
      by true = record { world = read_done_plain w h l; answer = refl }
      by false = record { world = read_failed_plain w h l f; answer = refl }

  served_follows : (c : Option (ℕ × ℕ)) → Follows (served w f c) (served (plain w) no_fault c)
  served_follows None = record { world = passed_plain w; answer = refl }
  served_follows (Some c) =
      let l : Lane = lane_at w.lanes c.0 in
      let a = attempted_follows c.0 l in
      let same = ap (λ (x : Lane). attempted (plain w) no_fault c.0 x) (lane_at_plain w.lanes c.0) in
      record {
        world = ap (λ (r : World × Answer). passed r.0) same ∙ (ap passed a.world ∙ passed_plain (attempted w f c.0 l).0);
        answer = ap (λ (r : World × Answer). bare r.1) same ∙ a.answer;
      }

  pub tick_follows : Follows (tick w f) (tick (plain w) no_fault)
  unfolding tick
  tick_follows =
      checked_follows w (tick_checks w) _ _
      (subst (λ (c : Option (ℕ × ℕ)). Follows (served w f (choice w.now w.lanes)) (served (plain w) no_fault c)) (sym (choice_plain w.now w.lanes)) (served_follows (choice w.now w.lanes)))
