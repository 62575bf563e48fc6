-- What a slot does to a bench.
use Rattle.std.proofs.Common.{◌≡◌, ℕ, suc, ◌+◌, ◌-◌, ◌*◌, ◌%◌, ◌<◌, ◌≤◌, Bool, true, false, cond, not, ◌&&◌, ◌||◌, eqb, ltb, leb, List, [], ◌∷◌, ◌++◌, map, length, get_or, take, drop, set, Some, None, Ok, Err, Option, Result, sym, refl, ap, ◌∙◌, subst, inl, inr, add-zero, add-one, arith, MatchOption, MatchResult}
use Rattle.std.proofs.ByRecursion.{All-weaker}
use Rattle.std.proofs.lemmas.List.{append_assoc, append-nil, length-map, length-take, length-drop, take_all, drop_all, drop_more, drop-drop, take-append-drop, map_more, get_or_at, set_at}
use native.Mathlib.Nat.{mul-mod_left}
use Rattle.std.specs.List.{position, position_or_len}
use Rattle.std.proofs.lemmas.List.Sums.{fails_before_first}
use Rattle.std.proofs.lemmas.Option.{none-some}
use Rattle.std.proofs.lemmas.Bool.{and_parts, both_ways, cases_Bool, cond_both, ltb-true, ltb-false}
use Rattle.std.proofs.lemmas.Bool.Decides.{nat_tests}
use Rattle.refusal.specs.Told.{refusal_number, answer_number}
use Rattle.refusal.specs.declared.Fault.{Fault}
use Rattle.refusal.specs.declared.Refusal.{Refusal}
use Rattle.refusal.specs.declared.Refusal.TheVariants.{Bounds, HeadTaken, Past, OffDisk, PoolShort, Crowded, WrongSize, LastSlot, NotThere, LeasesOut, NotHeld, HeadEmpty, Faulted, BadImage, BadEntry, BadCue, Full, ShortOutput}
use Rattle.refusal.proofs.Numbers.{refusal_above}
use Rattle.disk.specs.Meaning.{Block, Reads, block_at, none_coming, read_number, read_after}
use Rattle.queue.specs.declared.request.ReadRequest.{ReadRequest}
use Rattle.queue.specs.Order.{Foremost}
use Rattle.schedule.specs.Orders.{deadline}
use Rattle.std.proofs.lemmas.List.FromFn.{fill_by_all}
use Rattle.history.specs.declared.Cause.{Cause}
use Rattle.history.specs.declared.Event.TheVariants.{FailedAttempt, BlockRead, BurnEnd}
use Rattle.history.specs.declared.Lane.{Lane}
use Rattle.history.specs.declared.Lease.{Lease}
use Rattle.history.specs.declared.Stage.TheVariants.{Live, Finished, Faulted as StageFaulted, Held}
use Rattle.history.specs.declared.Ticked.{Ticked}
use Rattle.history.specs.declared.Ticked.TheVariants.{Idle, Read, Failed}
use Rattle.schedule.specs.declared.Timing.{Timing}
use Rattle.history.specs.Bench.{World, any, some_and, is_live, lane_in, lane_at, buffer_of, written}
use Rattle.history.specs.Calls.{ticked, happens, on_live, moved, ended, aged, all_aged, due, choice, next_deadline, next_block, holds_up, passed, served, tick_checks, tick, Answer, attempted, read_done, read_failed, how_ended, ends, refuse}
use Rattle.history.specs.Requests.{Requested}
use Rattle.history.proofs.Checks.{passes}
use Rattle.history.proofs.Choosing.{deadline_up, chosen, Chosen, Idle as NoneDue}
use Rattle.history.proofs.Requests.{requested_first, requested_nothing}
use Rattle.bench.specs.Quiet.{later, all_later, placed, settled}
use Rattle.bench.specs.Sound.{every, lane_ok, live_ok}
use Rattle.bench.specs.Ticks.{request_before, deadline_of, head_of, chosen_by, fault_in, failures_in, may_end, readable, FaultAt, ToldFrom, Attempted, Alive, EndedSince}
use Rattle.bench.proofs.Rests.{every_changed, all_later_sooner, all_later_lane, later_happens, same_order, placed_at, placed_set_some}
use Rattle.bench.proofs.Sound.{every_at, every_set_some, live_kept, buffer_below}

-- what stands on a head is sound
pub ok_at : (os : List (Option Lane)) (h : ℕ) (o : Option Lane) → every lane_ok os ≡ true → get_or os h None ≡ o → lane_ok (lane_in o) ≡ true
ok_at os h None e g = refl
ok_at os h (Some l) e g = every_at lane_ok os h l e g

-- a list of which the first i are changed, and then one more
module _ {A : Type 0} (f : A → A) (d : A) (xs ys : List A) (i : ℕ) (lt : i < length xs) (e : ys ≡ map f (take i xs) ++ drop i xs) where
  changed_length : length (map f (take i xs)) ≡ i
  changed_length = length-map (take i xs) f ∙ (length-take i xs ∙ omega arith)

  split : ys ≡ map f (take i xs) ++ get_or xs i d ∷ drop (i + 1) xs
  split = e ∙ ap (λ zs. map f (take i xs) ++ zs) (drop_more xs i d lt)

  pub changed_here : get_or ys i d ≡ get_or xs i d
  changed_here = ap (λ zs. get_or zs i d) split ∙ get_or_at (map f (take i xs)) (get_or xs i d) (drop (i + 1) xs) d i changed_length

  pub changed_more : set ys i (f (get_or ys i d)) ≡ map f (take (i + 1) xs) ++ drop (i + 1) xs
  changed_more =
      ap (λ y. set ys i (f y)) changed_here
      ∙ (ap (λ zs. set zs i (f (get_or xs i d))) split
      ∙ (set_at (map f (take i xs)) (get_or xs i d) (drop (i + 1) xs) (f (get_or xs i d)) i changed_length
      ∙ (sym (append_assoc (map f (take i xs)) (f (get_or xs i d) ∷ []) (drop (i + 1) xs))
      ∙ ap (λ zs. zs ++ drop (i + 1) xs) (sym (map_more f xs i d lt)))))

pub changed_all : {A : Type 0} (f : A → A) (xs ys : List A) (i : ℕ) → length xs ≤ i → ys ≡ map f (take i xs) ++ drop i xs → ys ≡ map f xs
changed_all f xs ys i all e = e ∙ ((λ j. map f (take_all i xs all j) ++ drop_all i xs all j) ∙ append-nil (map f xs))

-- LIVE LANES

pub live_from_ok : (o : Option Lane) (l : Lane) → o ≡ Some l → l.stage ≡ Live → lane_ok (lane_in o) ≡ true → live_ok l ≡ true
live_from_ok o l is live ok = live_kept l (subst (λ x. lane_ok (lane_in x) ≡ true) is ok) (ap is_live live)

ends_early : (l : Lane) → live_ok l ≡ true → l.order.timing.start + l.order.timing.count * l.order.timing.period ≤ 1000000
ends_early l h = grind (arith, nat_tests)

pub deadline_small : (l : Lane) → live_ok l ≡ true → l.next ≤ l.order.timing.count → next_deadline l ≤ 1000000
deadline_small l h le = omega (arith, ends_early l h, deadline_up l.order.timing l.next l.order.timing.count le)

-- THE CHOICE

-- a queue that has room takes the item
pub put_in : (P : Type 0) (Q : Refusal → Type 0) (r : Result (Unit {0}) Refusal) (n m : ℕ) → n < m → answer_number r ≡ cond (ltb n m) 0 18 → MatchResult r (λ _. P) Q → P
put_in P Q (Ok x) n m lt a h = h
put_in P Q (Err e) n m lt a h = let none = refusal_above e in absurd (grind (arith, nat_tests))

soonest : (x y : ReadRequest) → request_before y x ≡ false → (x.deadline ≤ y.deadline) × (x.deadline ≡ y.deadline → x.head ≤ y.head)
soonest x y h = (grind (arith, nat_tests), λ e. grind (arith, nat_tests))

pub chosen_first : (t : ℕ) (ls : List (Option Lane)) (n : ℕ) (xs : List ReadRequest) (r : Option ReadRequest) → length ls ≤ n → Requested deadline_of head_of t ls n xs → Foremost request_before xs r → chosen_by r ≡ choice t ls
chosen_first t ls n xs None le q f = sym (requested_nothing deadline_of head_of t ls n le (subst (λ ys. Requested deadline_of head_of t ls n ys) f q))
chosen_first t ls n xs (Some x) le q f = sym (requested_first deadline_of head_of t ls n xs x le q f.0 (All-weaker _ _ (λ y h. soonest x y h) xs f.1))

some_due : (t : ℕ) (o : Option Lane) → some_and (due t) o ≡ due t (lane_in o)
some_due t None = refl
some_due t (Some l) = refl

-- the first head whose lane is due
module _ (t : ℕ) (ls : List (Option Lane)) where
  abbrev first : ℕ
  first = position_or_len (some_and (due t)) ls

  not_due : (g : ℕ) → g < first → due t (lane_at ls g) ≡ false
  not_due g lt = sym (some_due t (get_or ls g None)) ∙ fails_before_first (some_and (due t)) ls g None lt

  none_before : (n : ℕ) → n ≤ first → Requested deadline_of head_of t ls n []
  none_before n le = record { each = tt; every = λ g lt d. absurd (both_ways _ (not_due g (omega arith)) d) }

  found : (b : Bool) (i : ℕ) → cond b (Some first) None ≡ Some i → i ≡ first
  found true i e = cc
  found false i e = absurd (none-some i e)

  past : (b : Bool) → cond b (Some first) None ≡ None → b ≡ false
  past true e = absurd (none-some first (sym e))
  past false e = refl

  -- where there is none nothing is chosen
  pub none_due : position (some_and (due t)) ls ≡ None → choice t ls ≡ None
  none_due e = let all = ltb-false first (length ls) (past _ e) in requested_nothing deadline_of head_of t ls (length ls) (omega arith) (none_before (length ls) all)

  -- those below it are not due
  pub below_first : (i h : ℕ) → position (some_and (due t)) ls ≡ Some i → h < i → due t (lane_at ls h) ≡ false
  below_first i h e lt = let is = found _ i e in not_due h (omega arith)

-- what is chosen stands on a head and is due
pub chosen_due : (t : ℕ) (ls : List (Option Lane)) (q : ReadRequest) → chosen_by (Some q) ≡ choice t ls → (q.head < length ls) × (due t (lane_at ls q.head) ≡ true)
chosen_due t ls q e = let k = subst (λ o. MatchOption o (NoneDue t ls) (Chosen t ls)) (sym e) (chosen t ls) in (k.place, k.is_due)

-- THE READ

and_keep : (a b y : Bool) → (a && (b && y)) ≡ true → (a && (b && true)) ≡ true
and_keep true true y e = refl
and_keep true false y e = e
and_keep false b y e = e

-- a lane that is due is live and has a block unread
due_live : (t : ℕ) (l : Lane) → due t l ≡ true → is_live l.stage ≡ true
due_live t l e = (and_parts (is_live l.stage) _ e).0

due_unread : (t : ℕ) (l : Lane) → due t l ≡ true → l.next < l.order.timing.count
due_unread t l e = ltb-true l.next l.order.timing.count (and_parts (ltb l.next l.order.timing.count) _ (and_parts (is_live l.stage) _ e).1).0

pub due_small : (t : ℕ) (o : Option Lane) (l : Lane) → o ≡ Some l → lane_ok (lane_in o) ≡ true → due t l ≡ true → next_deadline l ≤ 1000000
due_small t o l is ok d = deadline_small l (live_kept l (subst (λ x. lane_ok (lane_in x) ≡ true) is ok) (due_live t l d)) (omega (arith, due_unread t l d))

due_found : (t : ℕ) (ls : List (Option Lane)) (h : ℕ) (l : Lane) → get_or ls h None ≡ Some l → due t (lane_at ls h) ≡ true → due t l ≡ true
due_found t ls h l is e = subst (λ o. due t (lane_in o) ≡ true) is e

pub buffer_small : (l : Lane) (i : ℕ) → live_ok l ≡ true → buffer_of l i < 32
buffer_small l i e = buffer_below l (i % l.order.timing.depth) e

pub live_small : (l : Lane) → live_ok l ≡ true → (l.next < 2147483648) × (l.failed < 2147483648)
live_small l e = (grind (arith, nat_tests), grind (arith, nat_tests))

-- a read into 64 bytes is refused by a fault alone
others : (e : Refusal) (p q : Bool) → ((f : Fault) → e ≡ Faulted f → ⊥) → refusal_number e ≡ cond p (cond q 0 13) 14 → ⊥
others (Faulted f) p q none n = none f refl
others Bounds p q none n = grind (arith, nat_tests)
others HeadTaken p q none n = grind (arith, nat_tests)
others Past p q none n = grind (arith, nat_tests)
others OffDisk p q none n = grind (arith, nat_tests)
others PoolShort p q none n = grind (arith, nat_tests)
others (Crowded s) p q none n = grind (arith, nat_tests)
others WrongSize p q none n = grind (arith, nat_tests)
others LastSlot p q none n = grind (arith, nat_tests)
others NotThere p q none n = grind (arith, nat_tests)
others LeasesOut p q none n = grind (arith, nat_tests)
others NotHeld p q none n = grind (arith, nat_tests)
others HeadEmpty p q none n = grind (arith, nat_tests)
others BadImage p q none n = grind (arith, nat_tests)
others BadEntry p q none n = grind (arith, nat_tests)
others (BadCue c) p q none n = grind (arith, nat_tests)
others Full p q none n = grind (arith, nat_tests)
others ShortOutput p q none n = grind (arith, nat_tests)

module _ (m : List Block) (l : Lane) (h : ℕ) (pool : List ℕ) (fits : 64 * buffer_of l l.next + 64 ≤ length pool) where
  abbrev place : ℕ
  place = 64 * buffer_of l l.next

  part_length : (k : ℕ) → k ≡ 64 → length (take k (drop place pool)) ≡ 64
  part_length k e = simp (length-take, length-drop) (omega arith)

  pub never_others : (k : ℕ) (e : Refusal) → k ≡ 64 → ((f : Fault) → e ≡ Faulted f → ⊥) → refusal_number e ≡ read_number m (next_block l) (length (take k (drop place pool))) → ⊥
  never_others k e ke none n = others e (ltb (next_block l) (length m)) (none_coming (block_at m (next_block l)).coming) none (n ∙ ap (λ x. read_number m (next_block l) x) (part_length k ke))

  -- k is the length of the part as the code cuts it
  pub read_granted : (k : ℕ) (mem' : List ℕ) (m' : List Block) (l' : Lane) → k ≡ 64 → l' ≡ happens l BlockRead → Reads m (next_block l) (take k (drop place pool)) 0 mem' m' → Attempted m l h pool (Read h l.next) m' l' (take place pool ++ (mem' ++ drop k (drop place pool)))
  read_granted k mem' m' l' ke s r =
      let b : ℕ = next_block l in
      let pn = part_length k ke in
      let is : readable m l ≡ true = ap (λ n. eqb n 0) (sym (r.number ∙ ap (λ n. read_number m b n) pn)) in
      let bytes = r.memory ∙ ap (λ t. cond t (block_at m b).bytes (take k (drop place pool))) (ap (λ n. eqb n 0) (sym r.number)) in
      record {
        answer = ap (λ t. cond t (Read h l.next) (Failed h l.next (suc l.failed) (fault_in (Read h l.next)))) (sym is);
        lane = s ∙ ap (λ t. cond t (happens l BlockRead) (happens l (FailedAttempt (fault_in (Read h l.next))))) (sym is);
        disk = r.after ∙ ap (λ n. read_after m b n) pn;
        pool = (λ i. take place pool ++ (bytes i ++ (drop-drop k place pool ∙ ap (λ j. drop (place + j) pool) ke) i)) ∙ ap (λ t. cond t (written pool (buffer_of l l.next) (block_at m b).bytes) pool) (sym is);
      }

  pub read_refused : (k : ℕ) (f : Fault) (n : ℕ) (mem' : List ℕ) (m' : List Block) (l' : Lane) → k ≡ 64 → l' ≡ happens l (FailedAttempt f) → (n ≡ 0 → ⊥) → Reads m (next_block l) (take k (drop place pool)) n mem' m' → Attempted m l h pool (Failed h l.next (l.failed + 1) f) m' l' (take place pool ++ (mem' ++ drop k (drop place pool)))
  read_refused k f n mem' m' l' ke s ne r =
      let b : ℕ = next_block l in
      let pn = part_length k ke in
      let nz : eqb n 0 ≡ false = grind (arith, nat_tests) in
      let not : readable m l ≡ false = ap (λ x. eqb x 0) (sym (r.number ∙ ap (λ x. read_number m b x) pn)) ∙ nz in
      let same = r.memory ∙ ap (λ t. cond t (block_at m b).bytes (take k (drop place pool))) (ap (λ x. eqb x 0) (sym r.number) ∙ nz) in
      record {
        answer = ap (λ a. Failed h l.next a f) (add-one l.failed) ∙ ap (λ t. cond t (Read h l.next) (Failed h l.next (suc l.failed) f)) (sym not);
        lane = s ∙ ap (λ t. cond t (happens l BlockRead) (happens l (FailedAttempt f))) (sym not);
        disk = r.after ∙ ap (λ x. read_after m b x) pn;
        pool = ap (λ x. take place pool ++ (x ++ drop k (drop place pool))) same ∙ (ap (λ x. take place pool ++ x) (take-append-drop k (drop place pool)) ∙ (take-append-drop place pool ∙ ap (λ t. cond t (written pool (buffer_of l l.next) (block_at m b).bytes) pool) (sym not)));
      }

-- WHAT STAYS SOUND

read_ok : (l : Lane) → live_ok l ≡ true → l.next < l.order.timing.count → lane_ok (moved l (suc l.next) 0 l.stage) ≡ true
read_ok l e lt = grind (arith, nat_tests)

refused_ok : (l : Lane) → live_ok l ≡ true → l.failed < l.order.timing.spare → lane_ok (moved l l.next (suc l.failed) l.stage) ≡ true
refused_ok l e lt = grind (arith, nat_tests)

faulted_ok : (l : Lane) (f : Fault) → live_ok l ≡ true → lane_ok (moved l l.next (suc l.failed) (StageFaulted f)) ≡ true
faulted_ok l f e = grind (arith, nat_tests)

abbrev LaneOk : Lane → Type 0
LaneOk x = lane_ok x ≡ true

attempted_ok : (m : List Block) (l : Lane) (h : ℕ) (pool : List ℕ) (r : Ticked) (m' : List Block) (l' : Lane) (pool' : List ℕ) → is_live l.stage ≡ true → live_ok l ≡ true → l.next < l.order.timing.count → Attempted m l h pool r m' l' pool' → lane_ok l' ≡ true
attempted_ok m l h pool r m' l' pool' live ok lt a =
    subst LaneOk (sym a.lane) (cond_both (readable m l) (happens l BlockRead) (happens l (FailedAttempt (fault_in r))) LaneOk
    (λ _. cond_both (is_live l.stage) (on_live l BlockRead) l LaneOk (λ _. read_ok l ok lt) (λ no. absurd (both_ways _ no live)))
    (λ _. cond_both (is_live l.stage) (on_live l (FailedAttempt (fault_in r))) l LaneOk
    (λ _. cond_both (ltb l.failed l.order.timing.spare) l.stage (StageFaulted (fault_in r)) (λ s. LaneOk (moved l l.next (suc l.failed) s)) (λ few. refused_ok l ok (ltb-true _ _ few)) (λ _. faulted_ok l (fault_in r) ok))
    (λ no. absurd (both_ways _ no live))))

aged_ok : (t : ℕ) (es : List (Option Lease)) (l : Lane) → lane_ok l ≡ true → lane_ok (aged t es l) ≡ true
aged_ok t es l ok =
    let held : Bool = any (holds_up t l) es in
    let last : Bool = eqb (deadline l.order.timing l.order.timing.count) t in
    let gone : (leb l.next 4096 && (leb l.failed 16 && true)) ≡ true = and_keep (leb l.next 4096) (leb l.failed 16) (not (is_live l.stage) || live_ok l) ok in
    cond_both (is_live l.stage) (on_live l (BurnEnd held last)) l LaneOk
    (λ _. cond_both held Held (cond last Finished l.stage) (λ s. LaneOk (ended l s)) (λ _. gone) (λ _. cond_both last Finished l.stage (λ s. LaneOk (ended l s)) (λ _. gone) (λ _. ok)))
    (λ _. ok)

pub all_aged_ok : (t : ℕ) (es : List (Option Lease)) (ls ls' : List (Option Lane)) → every lane_ok ls ≡ true → ls' ≡ all_aged t es ls → every lane_ok ls' ≡ true
all_aged_ok t es ls ls' ok e = subst (λ xs. every lane_ok xs ≡ true) (sym e) (every_changed lane_ok lane_ok (aged t es) (aged_ok t es) ls ok)

pub failures_few : (r : Ticked) → failures_in r ≤ 1
failures_few Idle = omega arith
failures_few (Read h i) = omega arith
failures_few (Failed h i a f) = omega arith

-- of the lane that is due on a head, and of all lanes after its read
pub due_ok : (t : ℕ) (ls : List (Option Lane)) (h : ℕ) (l : Lane) → every lane_ok ls ≡ true → get_or ls h None ≡ Some l → due t (lane_at ls h) ≡ true → (live_ok l ≡ true) × (l.next < l.order.timing.count)
due_ok t ls h l ok is e = let d = due_found t ls h l is e in (live_kept l (every_at lane_ok ls h l ok is) (due_live t l d), due_unread t l d)

pub attempted_every : (t : ℕ) (ls : List (Option Lane)) (h : ℕ) (l : Lane) (m : List Block) (pool : List ℕ) (r : Ticked) (m' : List Block) (l' : Lane) (pool' : List ℕ) → every lane_ok ls ≡ true → get_or ls h None ≡ Some l → due t (lane_at ls h) ≡ true → Attempted m l h pool r m' l' pool' → every lane_ok (set ls h (Some l')) ≡ true
attempted_every t ls h l m pool r m' l' pool' ok is e a =
    let d = due_ok t ls h l ok is e in
    every_set_some lane_ok ls h l' ok (attempted_ok m l h pool r m' l' pool' (due_live t l (due_found t ls h l is e)) d.0 d.1 a)

-- TICKS

pub tick_wrong : (w : World) (f : Fault) → (length w.pool ≡ 2048 → ⊥) → tick w f ≡ (w, refuse WrongSize)
unfolding tick
tick_wrong w f ne = let wrong : not (eqb (length w.pool) 2048) ≡ true = grind (arith, nat_tests) in rw wrong refl

pub tick_last : (w : World) (f : Fault) → length w.pool ≡ 2048 → w.now ≡ 1000000 → tick w f ≡ (w, refuse LastSlot)
unfolding tick
tick_last w f len last =
    let wrong : not (eqb (length w.pool) 2048) ≡ false = grind (arith, nat_tests) in
    let late : eqb w.now 1000000 ≡ true = grind (arith, nat_tests) in
    rw (wrong, late) refl

pub tick_served : (w : World) (f : Fault) → length w.pool ≡ 2048 → (w.now ≡ 1000000 → ⊥) → tick w f ≡ served w f (choice w.now w.lanes)
unfolding tick
tick_served w f len more =
    let size : not (eqb (length w.pool) 2048) ≡ false = grind (arith, nat_tests) in
    let time : eqb w.now 1000000 ≡ false = grind (arith, nat_tests) in
    passes w (tick_checks w) (served w f (choice w.now w.lanes)) (size, (time, tt))

pub served_idle : (w : World) (f : Fault) → chosen_by None ≡ choice w.now w.lanes → (passed w ≡ (served w f (choice w.now w.lanes)).0) × (ticked Idle ≡ (served w f (choice w.now w.lanes)).1)
served_idle w f e = let s = ap (served w f) e in (ap (λ x. x.0) s, ap (λ x. x.1) s)

pub served_chosen : (w : World) (f : Fault) (q : ReadRequest) → chosen_by (Some q) ≡ choice w.now w.lanes → ((served w f (Some (q.head, 0))).0 ≡ (served w f (choice w.now w.lanes)).0) × ((served w f (Some (q.head, 0))).1 ≡ (served w f (choice w.now w.lanes)).1)
served_chosen w f q e = let s = ap (served w f) e in (ap (λ x. x.0) s, ap (λ x. x.1) s)

-- the same of a whole tick
pub tick_idle : (w : World) (f : Fault) → length w.pool ≡ 2048 → (w.now ≡ 1000000 → ⊥) → chosen_by None ≡ choice w.now w.lanes → (passed w ≡ (tick w f).0) × (ticked Idle ≡ (tick w f).1)
tick_idle w f len more e = let t = sym (tick_served w f len more) in let s = served_idle w f e in (s.0 ∙ ap (λ x. x.0) t, s.1 ∙ ap (λ x. x.1) t)

pub tick_chosen : (w : World) (f : Fault) (q : ReadRequest) → length w.pool ≡ 2048 → (w.now ≡ 1000000 → ⊥) → chosen_by (Some q) ≡ choice w.now w.lanes → ((served w f (Some (q.head, 0))).0 ≡ (tick w f).0) × ((served w f (Some (q.head, 0))).1 ≡ (tick w f).1)
tick_chosen w f q len more e = let t = sym (tick_served w f len more) in let s = served_chosen w f q e in (s.0 ∙ ap (λ x. x.0) t, s.1 ∙ ap (λ x. x.1) t)

pub passed_is : (w : World) (ls : List (Option Lane)) → ls ≡ all_aged (w.now + 1) w.leases w.lanes → record { number = w.number; now = w.now + 1; lanes = ls; leases = w.leases; disk = w.disk; pool = w.pool; attempts = w.attempts; failures = w.failures } ≡ passed w
passed_is w ls e = λ i. record {
  number = w.number;
  now = add-one w.now i;
  lanes = (e ∙ ap (λ t. all_aged t w.leases w.lanes) (add-one w.now)) i;
  leases = w.leases;
  disk = w.disk;
  pool = w.pool;
  attempts = w.attempts;
  failures = w.failures;
}

pub told_from : (P : ℕ → Fault → Type 0) (ls : List (Option Lane)) (h : ℕ) (r : Ticked) → FaultAt h (P (next_block (lane_at ls h))) r → ToldFrom P ls (Ok r)
told_from P ls h Idle p = tt
told_from P ls h (Read g i) p = tt
told_from P ls h (Failed g i a f) p = subst (λ k. P (next_block (lane_at ls k)) f) (sym p.0) p.1

-- A READ AND THE SLOT'S END

abbrev passing : World × Answer → World × Answer
passing x = (passed x.0, x.1)

-- the lanes of w after one read for the lane l of head h, at the next slot
module _ (w : World) (h : ℕ) (l : Lane) where
  abbrev read_world : ℕ → ℕ → ℕ → List Block → Lane → List ℕ → World
  read_world now attempts failures m' l' pool' = record {
    number = w.number;
    now = now;
    lanes = set w.lanes h (Some l');
    leases = w.leases;
    disk = m';
    pool = pool';
    attempts = attempts;
    failures = failures;
  }

  pub served_read : (r : Ticked) (n : ℕ) (m' : List Block) (l' : Lane) (pool' : List ℕ) → n ≡ failures_in r → get_or w.lanes h None ≡ Some l → Attempted w.disk l h w.pool r m' l' pool'
      → (ticked r ≡ (served w (fault_in r) (Some (h, 0))).1)
      × (settled (read_world (w.now + 1) (w.attempts + 1) (w.failures + n) m' l' pool') ≡ (served w (fault_in r) (Some (h, 0))).0)
  served_read r n m' l' pool' en is a =
      subst (λ k. (ticked r ≡ (passing (attempted w (fault_in r) h k)).1) × (settled (read_world (w.now + 1) (w.attempts + 1) (w.failures + n) m' l' pool') ≡ (passing (attempted w (fault_in r) h k)).0)) (sym (ap lane_in is))
      (by (readable w.disk l) (fault_in r) r l' pool' m' en a.answer a.lane a.pool a.disk)
    where
      by : (b : Bool) (f : Fault) (r : Ticked) (l' : Lane) (pool' : List ℕ) (m' : List Block) → n ≡ failures_in r
          → r ≡ cond b (Read h l.next) (Failed h l.next (suc l.failed) f) → l' ≡ cond b (happens l BlockRead) (happens l (FailedAttempt f))
          → pool' ≡ cond b (written w.pool (buffer_of l l.next) (block_at w.disk (next_block l)).bytes) w.pool → m' ≡ read_after w.disk (next_block l) 64
          → let x : World × Answer = cond b (read_done w h l, ticked (Read h l.next)) (read_failed w h l f, ticked (Failed h l.next (suc l.failed) f)) in
          (ticked r ≡ (passing x).1) × (settled (read_world (w.now + 1) (w.attempts + 1) (w.failures + n) m' l' pool') ≡ (passing x).0)
      by true f r l' pool' m' en er el ep em =
          (ap ticked er, λ i. settled (read_world (add-one w.now i) (add-one w.attempts i) ((ap (λ x. w.failures + x) (en ∙ ap failures_in er) ∙ add-zero w.failures) i) (em i) (el i) (ep i)))
      by false f r l' pool' m' en er el ep em =
          (ap ticked er, λ i. settled (read_world (add-one w.now i) (add-one w.attempts i) ((ap (λ x. w.failures + x) (en ∙ ap failures_in er) ∙ add-one w.failures) i) (em i) (el i) (ep i)))

-- the lane after its read holds its leases apart as before
pub attempted_later : (now t : ℕ) (ls : List (Option Lane)) (es : List (Option Lease)) (h : ℕ) (l : Lane) (m : List Block) (pool : List ℕ) (r : Ticked) (m' : List Block) (l' : Lane) (pool' : List ℕ) → get_or ls h None ≡ Some l
    → Attempted m l h pool r m' l' pool' → all_later now t ls es ≡ true → all_later (now + 1) t (set ls h (Some l')) es ≡ true
attempted_later now t ls es h l m pool r m' l' pool' is a e =
    let up = all_later_sooner now (now + 1) t ls es (omega arith) e in
    let own = every_at (λ x. every (later (now + 1) t x) es) ls h l up is in
    all_later_lane (now + 1) t ls es h l' up (subst (λ x. every (later (now + 1) t x) es ≡ true) (sym a.lane) (cond_both (readable m l) (happens l BlockRead) (happens l (FailedAttempt (fault_in r))) (λ x. every (later (now + 1) t x) es ≡ true)
    (λ _. later_happens (now + 1) t l es BlockRead own) (λ _. later_happens (now + 1) t l es (FailedAttempt (fault_in r)) own)))

pub attempted_placed : (ls : List (Option Lane)) (h : ℕ) (l : Lane) (m : List Block) (pool : List ℕ) (r : Ticked) (m' : List Block) (l' : Lane) (pool' : List ℕ) → get_or ls h None ≡ Some l
    → Attempted m l h pool r m' l' pool' → placed 0 ls ≡ true → placed 0 (set ls h (Some l')) ≡ true
attempted_placed ls h l m pool r m' l' pool' is a e =
    let kept : l'.order ≡ l.order = subst (λ x. x.order ≡ l.order) (sym a.lane) (cond_both (readable m l) (happens l BlockRead) (happens l (FailedAttempt (fault_in r))) (λ x. x.order ≡ l.order)
    (λ _. same_order l BlockRead) (λ _. same_order l (FailedAttempt (fault_in r)))) in
    placed_set_some 0 ls h l' e (ap (λ o. o.head) kept ∙ placed_at 0 ls h l e is)

-- BURNS THAT DO NOT END

multiple : (s p t i : ℕ) → (leb s t && eqb ((t - s) % p) 0) ≡ false → eqb (s + i * p) t ≡ false
multiple s p t i none = elim (cases_Bool (eqb (s + i * p) t)) [
  | inl e ↦ (let at : s + i * p ≡ t = grind (arith, nat_tests) in let gap : t - s ≡ i * p = omega arith in let rest : (t - s) % p ≡ 0 = ap (λ x. x % p) gap ∙ mul-mod_left i p in grind (arith, nat_tests))
  | inr e ↦ e
]

and_third : (a b c : Bool) → c ≡ false → (a && (b && c)) ≡ false
and_third true true c e = e
and_third true false c e = refl
and_third false b c e = refl

any_false : {A : Type 0} (p : A → Bool) → ((a : A) → p a ≡ false) → (os : List (Option A)) → any p os ≡ false
any_false p k [] = refl
any_false p k (None ∷ os) = any_false p k os
any_false p k (Some a ∷ os) = ap (λ b. b || any p os) (k a) ∙ any_false p k os

still : (l : Lane) → happens l (BurnEnd false false) ≡ l
still l = cond_both (is_live l.stage) (on_live l (BurnEnd false false)) l (λ x. x ≡ l) (λ _. refl) (λ _. refl)

pub not_aged : (t : ℕ) (es : List (Option Lease)) (l : Lane) → may_end t l.order.timing ≡ false → aged t es l ≡ l
not_aged t es l none =
    let o : Timing = l.order.timing in
    let free = any_false (holds_up t l) (λ e. and_third (eqb e.head l.order.head) (eqb e.admitted l.admitted) _ (multiple o.start o.period t (e.index + 1) none)) es in
    let more = multiple o.start o.period t o.count none in
    (λ i. happens l (BurnEnd (free i) (more i))) ∙ still l

pub period_some : (l : Lane) → live_ok l ≡ true → 1 ≤ l.order.timing.period
period_some l e = grind (arith, nat_tests)

-- THE LANES THAT END

pub ends_told : (ls ls' : List (Option Lane)) (was : List Bool) (r : List (Option Cause)) → length r ≡ 8 → Alive ls was → EndedSince was ls' r → r ≡ ends ls ls'
ends_told ls ls' was r long alive since =
    fill_by_all (λ h. how_ended (is_live (lane_at ls h).stage) (get_or ls' h None)) r 8 None long (λ h lt. since h lt ∙ ap (λ b. how_ended b (get_or ls' h None)) (alive h lt))
