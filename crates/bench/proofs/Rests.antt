-- A slot in which nothing happens, and how long none does.
use Rattle.std.proofs.Common.{◌≡◌, ℕ, zero, suc, ◌+◌, ◌<◌, ◌≤◌, Bool, true, false, cond, not, ◌&&◌, ◌||◌, eqb, ltb, List, [], ◌∷◌, map, length, get_or, set, replicate, Some, None, Option, inl, inr, sym, refl, ap, ◌∙◌, subst, arith}
use Rattle.std.proofs.lemmas.List.FromFn.{fill_by_all}
use Rattle.std.proofs.lemmas.Bool.{and_parts, and_from, false≢true, cond_both, cases_Bool}
use Rattle.std.proofs.lemmas.Bool.Decides.{nat_tests}
use Rattle.schedule.specs.Orders.{deadline}
use Rattle.history.specs.declared.Event.{Event}
use Rattle.history.specs.declared.Event.TheVariants.{FailedAttempt, BlockRead, BurnEnd, Close}
use Rattle.history.specs.declared.Lane.{Lane}
use Rattle.history.specs.declared.Lease.{Lease}
use Rattle.history.specs.declared.Stage.{Stage}
use Rattle.history.specs.declared.Stage.TheVariants.{Finished, Faulted, Held, Closed}
use Rattle.history.specs.Bench.{any, is_live, running, lane_in, lane_at}
use Rattle.history.specs.Calls.{moved, on_live, happens, holds_up, changed, aged, all_aged, due, choice, cause_of, how_ended, ends}
use Rattle.history.proofs.Choosing.{choice_none}
use Rattle.history.proofs.Histories.{same_at}
use Rattle.bench.specs.Quiet.{rests, later, all_later, placed, quiet_of, lapse_of}
use Rattle.bench.specs.Sound.{every}
use Rattle.bench.proofs.Sound.{every_set_none, every_set_some, every_from}

-- TESTS OF EVERY ONE

-- p of what is there, if something is
abbrev pub if_some : {A : Type 0} → (A → Bool) → Option A → Bool
if_some p None = true
if_some p (Some a) = p a

module _ {A : Type 0} where
  pub every_true : (p : A → Bool) → ((a : A) → p a ≡ true) → (os : List (Option A)) → every p os ≡ true
  every_true p k [] = refl
  every_true p k (None ∷ os) = every_true p k os
  every_true p k (Some a ∷ os) = and_from (p a) _ (k a) (every_true p k os)

  pub every_weaker : (p q : A → Bool) → ((a : A) → p a ≡ true → q a ≡ true) → (os : List (Option A)) → every p os ≡ true → every q os ≡ true
  every_weaker p q k [] e = refl
  every_weaker p q k (None ∷ os) e = every_weaker p q k os e
  every_weaker p q k (Some a ∷ os) e = and_from (q a) _ (k a (and_parts (p a) _ e).0) (every_weaker p q k os (and_parts (p a) _ e).1)

  pub every_both : (p q r : A → Bool) → ((a : A) → p a ≡ true → q a ≡ true → r a ≡ true) → (os : List (Option A)) → every p os ≡ true → every q os ≡ true → every r os ≡ true
  every_both p q r k [] e f = refl
  every_both p q r k (None ∷ os) e f = every_both p q r k os e f
  every_both p q r k (Some a ∷ os) e f =
      and_from (r a) _ (k a (and_parts (p a) _ e).0 (and_parts (q a) _ f).0) (every_both p q r k os (and_parts (p a) _ e).1 (and_parts (q a) _ f).1)

  pub every_if : (p : A → Bool) (os : List (Option A)) (k : ℕ) → every p os ≡ true → if_some p (get_or os k None) ≡ true
  every_if p [] k e = refl
  every_if p (None ∷ os) zero e = refl
  every_if p (Some a ∷ os) zero e = (and_parts (p a) _ e).0
  every_if p (None ∷ os) (suc k) e = every_if p os k e
  every_if p (Some a ∷ os) (suc k) e = every_if p os k (and_parts (p a) _ e).1

  pub every_changed : (p q : A → Bool) (f : A → A) → ((a : A) → p a ≡ true → q (f a) ≡ true) → (os : List (Option A)) → every p os ≡ true → every q (map (changed f) os) ≡ true
  every_changed p q f k [] e = refl
  every_changed p q f k (None ∷ os) e = every_changed p q f k os e
  every_changed p q f k (Some a ∷ os) e = and_from (q (f a)) _ (k a (and_parts (p a) _ e).0) (every_changed p q f k os (and_parts (p a) _ e).1)

  any_none : (p q : A → Bool) → ((a : A) → p a ≡ true → q a ≡ false) → (os : List (Option A)) → every p os ≡ true → any q os ≡ false
  any_none p q k [] e = refl
  any_none p q k (None ∷ os) e = any_none p q k os e
  any_none p q k (Some a ∷ os) e = (λ i. k a (and_parts (p a) _ e).0 i || any q os) ∙ any_none p q k os (and_parts (p a) _ e).1

  same_changed : (p : A → Bool) (f : A → A) → ((a : A) → p a ≡ true → f a ≡ a) → (os : List (Option A)) → every p os ≡ true → map (changed f) os ≡ os
  same_changed p f k [] e = refl
  same_changed p f k (None ∷ os) e = ap (λ xs. None ∷ xs) (same_changed p f k os e)
  same_changed p f k (Some a ∷ os) e = λ i. Some (k a (and_parts (p a) _ e).0 i) ∷ same_changed p f k os (and_parts (p a) _ e).1 i

-- REST

pub rests_zero : (l : Lane) → rests 0 l ≡ true
rests_zero l = grind (arith, nat_tests)

pub later_lower : (now t r : ℕ) (l : Lane) (e : Lease) → r ≤ t → later now t l e ≡ true → later now r l e ≡ true
later_lower now t r l e le h = grind (arith, nat_tests)

pub later_sooner : (now now' t : ℕ) (l : Lane) (e : Lease) → now ≤ now' → later now t l e ≡ true → later now' t l e ≡ true
later_sooner now now' t l e le h = grind (arith, nat_tests)

later_holds : (now t s : ℕ) (l : Lane) (e : Lease) → now ≤ s → s < t → is_live l.stage ≡ true → later now t l e ≡ true → holds_up s l e ≡ false
later_holds now t s l e le lt live h = grind (arith, nat_tests)

-- no lease holds the lane up at slot s
pub none_holds : (now t s : ℕ) (l : Lane) (es : List (Option Lease)) → now ≤ s → s < t → is_live l.stage ≡ true → every (later now t l) es ≡ true → any (holds_up s l) es ≡ false
none_holds now t s l es le lt live e = any_none (later now t l) (holds_up s l) (λ x h. later_holds now t s l x le lt live h) es e

same_if : {A : Type 0} (b : Bool) (x y z : A) → (b ≡ true → x ≡ y) → cond b x z ≡ cond b y z
same_if true x y z h = h refl
same_if false x y z h = refl

-- until t the lanes pass slot s as if no lease were out
pub all_unheld : (s t : ℕ) (ls : List (Option Lane)) (es : List (Option Lease)) → s < t → all_later s t ls es ≡ true → all_aged s [] ls ≡ all_aged s es ls
all_unheld s t [] es lt e = refl
all_unheld s t (None ∷ ls) es lt e = ap (λ os. None ∷ os) (all_unheld s t ls es lt e)
all_unheld s t (Some l ∷ ls) es lt e =
    let both = and_parts (every (later s t l) es) _ e in
    let last = eqb (deadline l.order.timing l.order.timing.count) s in
    let own : aged s [] l ≡ aged s es l =
    same_if (is_live l.stage) (on_live l (BurnEnd false last)) (on_live l (BurnEnd (any (holds_up s l) es) last)) l
    (λ live. ap (λ held. on_live l (BurnEnd held last)) (sym (none_holds s t s l es (omega arith) lt live both.0))) in
    λ i. Some (own i) ∷ all_unheld s t ls es lt both.1 i

-- WHAT HAPPENS TO A LANE KEEPS ITS LEASES APART

later_moved : (now t i f : ℕ) (s : Stage) (l : Lane) (e : Lease) → (is_live s ≡ true → is_live l.stage ≡ true) → later now t l e ≡ true → later now t (moved l i f s) e ≡ true
later_moved now t i f s l e keep h = by _ (is_live s) (is_live l.stage) keep h
  where
    by : (x a b : Bool) → (a ≡ true → b ≡ true) → (not b || x) ≡ true → (not a || x) ≡ true
    by x true true k h = h
    by x true false k h = absurd (false≢true (k refl))
    by x false b k h = refl

later_live : (now t : ℕ) (l : Lane) (e : Lease) (v : Event) → later now t l e ≡ true → later now t (on_live l v) e ≡ true
later_live now t l e (FailedAttempt f) h = later_moved now t l.next (suc l.failed) _ l e (λ live. cond_both (ltb l.failed l.order.timing.spare) l.stage (Faulted f) (λ s. is_live s ≡ true → is_live l.stage ≡ true) (λ _ q. q) (λ _ q. absurd (false≢true q)) live) h
later_live now t l e BlockRead h = later_moved now t (suc l.next) 0 l.stage l e (λ live. live) h
later_live now t l e (BurnEnd held last) h = later_moved now t l.next l.failed _ l e (λ live. cond_both held Held (cond last Finished l.stage) (λ s. is_live s ≡ true → is_live l.stage ≡ true) (λ _ q. absurd (false≢true q)) (λ _. cond_both last Finished l.stage (λ s. is_live s ≡ true → is_live l.stage ≡ true) (λ _ q. absurd (false≢true q)) (λ _ q. q)) live) h
later_live now t l e Close h = later_moved now t l.next l.failed Closed l e (λ live. absurd (false≢true live)) h

pub later_happens : (now t : ℕ) (l : Lane) (es : List (Option Lease)) (v : Event) → every (later now t l) es ≡ true → every (later now t (happens l v)) es ≡ true
later_happens now t l es v e =
    cond_both (is_live l.stage) (on_live l v) l (λ x. every (later now t x) es ≡ true)
    (λ _. every_weaker (later now t l) (later now t (on_live l v)) (λ x h. later_live now t l x v h) es e) (λ _. e)

pub all_later_aged : (now t s : ℕ) (ls ls' : List (Option Lane)) (es : List (Option Lease)) → ls' ≡ all_aged s es ls → all_later now t ls es ≡ true → all_later now t ls' es ≡ true
all_later_aged now t s ls ls' es is e =
    subst (λ xs. all_later now t xs es ≡ true) (sym is)
    (every_changed (λ l. every (later now t l) es) (λ l. every (later now t l) es) (aged s es) (λ l h. later_happens now t l es (BurnEnd (any (holds_up s l) es) (eqb (deadline l.order.timing l.order.timing.count) s)) h) ls e)

pub all_later_sooner : (now now' t : ℕ) (ls : List (Option Lane)) (es : List (Option Lease)) → now ≤ now' → all_later now t ls es ≡ true → all_later now' t ls es ≡ true
all_later_sooner now now' t ls es le e =
    every_weaker (λ l. every (later now t l) es) (λ l. every (later now' t l) es) (λ l h. every_weaker (later now t l) (later now' t l) (λ x. later_sooner now now' t l x le) es h) ls e

pub all_later_lower : (now t r : ℕ) (ls : List (Option Lane)) (es : List (Option Lease)) → r ≤ t → all_later now t ls es ≡ true → all_later now r ls es ≡ true
all_later_lower now t r ls es le e =
    every_weaker (λ l. every (later now t l) es) (λ l. every (later now r l) es) (λ l h. every_weaker (later now t l) (later now r l) (λ x. later_lower now t r l x le) es h) ls e

-- A QUIET SLOT

not_due : (now q : ℕ) (o : Option Lane) → now + 1 < q → if_some (rests q) o ≡ true → due now (lane_in o) ≡ false
not_due now q None lt e = refl
not_due now q (Some l) lt e = grind (arith, nat_tests)

not_last : (q s : ℕ) (l : Lane) → s < q → rests q l ≡ true → is_live l.stage ≡ true → eqb (deadline l.order.timing l.order.timing.count) s ≡ false
not_last q s l lt e live = grind (arith, nat_tests)

module _ (now q t : ℕ) (ls : List (Option Lane)) (es : List (Option Lease)) (lt : now + 1 < q) (le : q ≤ t) (rest : every (rests q) ls ≡ true) (apart : all_later now t ls es ≡ true) where
  pub quiet_choice : choice now ls ≡ None
  quiet_choice = choice_none now ls (λ g. not_due now q (get_or ls g None) lt (every_if (rests q) ls g rest))

  quiet_aged : (l : Lane) → rests q l ≡ true → every (later now t l) es ≡ true → aged (suc now) es l ≡ l
  quiet_aged l r e =
      cond_both (is_live l.stage) (on_live l (BurnEnd (any (holds_up (suc now) l) es) (eqb (deadline l.order.timing l.order.timing.count) (suc now)))) l (λ x. x ≡ l)
      (λ live. λ i. on_live l (BurnEnd (none_holds now t (suc now) l es (omega arith) (omega arith) live e i) (not_last q (suc now) l (omega arith) r live i)))
      (λ _. refl)

  pub quiet_lanes : all_aged (suc now) es ls ≡ ls
  quiet_lanes =
      same_changed (λ l. rests q l && every (later now t l) es) (aged (suc now) es)
      (λ l h. quiet_aged l (and_parts (rests q l) _ h).0 (and_parts (rests q l) _ h).1) ls
      (every_both (rests q) (λ l. every (later now t l) es) (λ l. rests q l && every (later now t l) es) (λ l. and_from (rests q l) _) ls rest apart)

-- EACH LANE AT ITS HEAD

pub placed_at : (n : ℕ) (ls : List (Option Lane)) (h : ℕ) (l : Lane) → placed n ls ≡ true → get_or ls h None ≡ Some l → l.order.head ≡ n + h
placed_at n [] h l e g = grind arith
placed_at n (None ∷ ls) zero l e g = grind arith
placed_at n (None ∷ ls) (suc h) l e g = let r : l.order.head ≡ suc n + h = placed_at (suc n) ls h l e g in omega (arith, r)
placed_at n (Some x ∷ ls) zero l e g = grind (arith, nat_tests)
placed_at n (Some x ∷ ls) (suc h) l e g = let r : l.order.head ≡ suc n + h = placed_at (suc n) ls h l (and_parts (eqb x.order.head n) _ e).1 g in omega (arith, r)

pub placed_set_some : (n : ℕ) (ls : List (Option Lane)) (h : ℕ) (l : Lane) → placed n ls ≡ true → l.order.head ≡ n + h → placed n (set ls h (Some l)) ≡ true
placed_set_some n [] h l e own = refl
placed_set_some n (None ∷ ls) zero l e own = grind (arith, nat_tests)
placed_set_some n (Some x ∷ ls) zero l e own = grind (arith, nat_tests)
placed_set_some n (None ∷ ls) (suc h) l e own = placed_set_some (suc n) ls h l e (omega (arith, own))
placed_set_some n (Some x ∷ ls) (suc h) l e own = and_from _ _ (and_parts _ _ e).0 (placed_set_some (suc n) ls h l (and_parts _ _ e).1 (omega (arith, own)))

pub placed_set_none : (n : ℕ) (ls : List (Option Lane)) (h : ℕ) → placed n ls ≡ true → placed n (set ls h None) ≡ true
placed_set_none n [] h e = refl
placed_set_none n (None ∷ ls) zero e = e
placed_set_none n (Some x ∷ ls) zero e = (and_parts _ _ e).1
placed_set_none n (None ∷ ls) (suc h) e = placed_set_none (suc n) ls h e
placed_set_none n (Some x ∷ ls) (suc h) e = and_from _ _ (and_parts _ _ e).0 (placed_set_none (suc n) ls h (and_parts _ _ e).1)

-- what happens to a lane leaves its order
live_order : (l : Lane) (v : Event) → (on_live l v).order ≡ l.order
live_order l (FailedAttempt f) = refl
live_order l BlockRead = refl
live_order l (BurnEnd held last) = refl
live_order l Close = refl

pub same_order : (l : Lane) (v : Event) → (happens l v).order ≡ l.order
same_order l v = cond_both (is_live l.stage) (on_live l v) l (λ x. x.order ≡ l.order) (λ _. live_order l v) (λ _. refl)

placed_changed : (f : Lane → Lane) → ((l : Lane) → (f l).order ≡ l.order) → (n : ℕ) (ls : List (Option Lane)) → placed n ls ≡ true → placed n (map (changed f) ls) ≡ true
placed_changed f k n [] e = refl
placed_changed f k n (None ∷ ls) e = placed_changed f k (suc n) ls e
placed_changed f k n (Some l ∷ ls) e = and_from _ _ (ap (λ o. eqb o.head n) (k l) ∙ (and_parts _ _ e).0) (placed_changed f k (suc n) ls (and_parts _ _ e).1)

pub placed_aged : (n t : ℕ) (ls ls' : List (Option Lane)) (es : List (Option Lease)) → ls' ≡ all_aged t es ls → placed n ls ≡ true → placed n ls' ≡ true
placed_aged n t ls ls' es is e =
    subst (λ xs. placed n xs ≡ true) (sym is) (placed_changed (aged t es) (λ l. same_order l (BurnEnd (any (holds_up t l) es) (eqb (deadline l.order.timing l.order.timing.count) t))) n ls e)

-- a lease is apart from every lane where it is apart from the one at its head
pub lent_apart : (now own : ℕ) (ls : List (Option Lane)) (h : ℕ) (l : Lane) (e : Lease) → placed 0 ls ≡ true → get_or ls h None ≡ Some l → e.head ≡ h → later now own l e ≡ true → every (λ x. later now own x e) ls ≡ true
lent_apart now own ls h l e p at is own_later = every_from (λ x. later now own x e) ls each
  where
    each : (k : ℕ) (x : Lane) → get_or ls k None ≡ Some x → later now own x e ≡ true
    each k x g = elim (cases_Bool (eqb k h)) [
      | inl q ↦ (let same : k ≡ h = grind (arith, nat_tests) in let one : Some x ≡ Some l = sym g ∙ (ap (λ i. get_or ls i None) same ∙ at) in let lane : x ≡ l = cc in subst (λ y. later now own y e ≡ true) (sym lane) own_later)
      | inr q ↦ (let other = placed_at 0 ls k x p g in grind (arith, nat_tests))
    ]

-- CHANGES OF ONE LANE OR LEASE

pub all_later_lane : (now t : ℕ) (ls : List (Option Lane)) (es : List (Option Lease)) (h : ℕ) (l : Lane) → all_later now t ls es ≡ true → every (later now t l) es ≡ true → all_later now t (set ls h (Some l)) es ≡ true
all_later_lane now t ls es h l e f = every_set_some (λ l. every (later now t l) es) ls h l e f

pub all_later_close : (now t : ℕ) (ls : List (Option Lane)) (es : List (Option Lease)) (h : ℕ) → all_later now t ls es ≡ true → all_later now t (set ls h None) es ≡ true
all_later_close now t ls es h e = every_set_none (λ l. every (later now t l) es) ls h e

pub all_later_give : (now t : ℕ) (ls : List (Option Lane)) (es : List (Option Lease)) (m : ℕ) → all_later now t ls es ≡ true → all_later now t ls (set es m None) ≡ true
all_later_give now t ls es m e = every_weaker (λ l. every (later now t l) es) (λ l. every (later now t l) (set es m None)) (λ l h. every_set_none (later now t l) es m h) ls e

-- with the lease e besides, which is apart until `own`
pub all_later_lend : (now t own r : ℕ) (ls : List (Option Lane)) (es : List (Option Lease)) (m : ℕ) (e : Lease) → r ≤ t → r ≤ own → all_later now t ls es ≡ true → every (λ l. later now own l e) ls ≡ true → all_later now r ls (set es m (Some e)) ≡ true
all_later_lend now t own r ls es m e le le' f g =
    every_both (λ l. every (later now r l) es) (λ l. later now own l e) (λ l. every (later now r l) (set es m (Some e)))
    (λ l a b. every_set_some (later now r l) es m e a (later_lower now own r l e le' b)) ls (all_later_lower now t r ls es le f) g

-- with the lane l besides
pub all_later_admit : (now t own r : ℕ) (ls : List (Option Lane)) (es : List (Option Lease)) (h : ℕ) (l : Lane) → r ≤ t → r ≤ own → all_later now t ls es ≡ true → every (later now own l) es ≡ true → all_later now r (set ls h (Some l)) es ≡ true
all_later_admit now t own r ls es h l le le' f g =
    all_later_lane now r ls es h l (all_later_lower now t r ls es le f) (every_weaker (later now own l) (later now r l) (λ e. later_lower now own r l e le') es g)

pub running_set : (ls : List (Option Lane)) (h : ℕ) (l : Lane) → h < length ls → is_live l.stage ≡ true → running (set ls h (Some l)) ≡ true
running_set [] h l lt e = absurd (omega arith)
running_set (o ∷ ls) zero l lt e = ap (λ b. b || running ls) e
running_set (None ∷ ls) (suc h) l lt e = running_set ls h l (omega arith) e
running_set (Some x ∷ ls) (suc h) l lt e = or_second (is_live x.stage) _ (running_set ls h l (omega arith) e)
  where
    or_second : (a b : Bool) → b ≡ true → (a || b) ≡ true
    or_second true b e = refl
    or_second false b e = e

-- no lane ends where none changes
none_ended : (o : Option Lane) → how_ended (is_live (lane_in o).stage) o ≡ None
none_ended None = refl
none_ended (Some l) = by (is_live l.stage)
  where
    by : (b : Bool) → cond (b && not b) (Some (cause_of l.stage)) None ≡ None
    by true = refl
    by false = refl

pub ends_none : (ls ls' : List (Option Lane)) → ls' ≡ ls → replicate 8 None ≡ ends ls ls'
ends_none ls ls' is =
    fill_by_all (λ h. how_ended (is_live (lane_at ls h).stage) (get_or ls' h None)) (replicate 8 None) 8 None refl
    (λ h _. same_at 8 h None ∙ sym (ap (λ xs. how_ended (is_live (lane_at ls h).stage) (get_or xs h None)) is ∙ none_ended (get_or ls h None)))

-- UNTIL WHEN

pub quiet_rests : (never q r : ℕ) (l : Lane) → r ≡ quiet_of never l → q ≤ r → rests q l ≡ true
quiet_rests never q r l is le = grind (arith, nat_tests)

pub lapse_later : (never now t r : ℕ) (l : Lane) (e : Lease) → r ≡ lapse_of never now l e → t ≤ r → later now t l e ≡ true
lapse_later never now t r l e is le = grind (arith, nat_tests)
