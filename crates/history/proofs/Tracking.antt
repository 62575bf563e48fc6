-- A lane whose unread blocks have fewer failures to come than attempts owed, through the reads of any lane.
use Rattle.std.proofs.Common.{◌≡◌, ℕ, ◌+◌, ◌-◌, ◌<◌, ◌≤◌, true, false, cond, eqb, ltb, List, length, sym, refl, ap, ◌∙◌, subst, inl, inr, arith}
use Rattle.std.proofs.lemmas.Bool.{cond_both, cond-true, cases_eq, cases_Bool, lt-ltb, eqb-false, eq-eqb}
use Rattle.refusal.specs.declared.Fault.{Fault}
use Rattle.disk.specs.Meaning.{Block, ToCome, failures, dead, none_coming, less, block_at, read_number, read_after}
use Rattle.disk.proofs.Meaning.{wears}
use Rattle.schedule.specs.Orders.{owed}
use Rattle.history.specs.declared.Asked.{Asked}
use Rattle.history.specs.declared.Event.TheVariants.{FailedAttempt, BlockRead}
use Rattle.history.specs.declared.Lane.{Lane}
use Rattle.history.specs.declared.Stage.TheVariants.{Faulted}
use Rattle.history.specs.Bench.{is_live, work}
use Rattle.history.specs.Calls.{on_live, happens, next_block}
use Rattle.history.specs.Laws.{AtMost}
use Rattle.history.proofs.Sound.{IsLive}
use Rattle.history.proofs.Ticking.{happens_live}

-- fewer failures to come than n
abbrev pub Enough : ToCome → ℕ → Type 0
Enough (failures f) n = f < n
Enough dead n = ⊥

pub enough_more : (c : ToCome) (m n : ℕ) → m ≤ n → Enough c m → Enough c n
enough_more (failures f) m n le e = omega arith
enough_more dead m n le e = e

enough_less : (k : ℕ) (c : ToCome) (n : ℕ) → Enough c n → Enough (less k c) n
enough_less k (failures f) n e = omega arith
enough_less k dead n e = e

pub enough_at_most : (k : ℕ) (c : ToCome) → AtMost k c → Enough c (1 + k)
enough_at_most k (failures f) e = omega arith
enough_at_most k dead e = e

-- a read of any block leaves enough
enough_after : (m : List Block) (x y n : ℕ) → Enough (block_at m y).coming n → Enough (block_at (read_after m x 64) y).coming n
enough_after m x y n e = subst (λ c. Enough c n) (sym (wears m x y).coming) (enough_less (cond (eqb x y) 1 0) (block_at m y).coming n e)

-- a read that fails uses up one failure to come
module _ (m : List Block) (x : ℕ) (in' : x < length m) (bad : eqb (read_number m x 64) 0 ≡ false) where
  some_coming : none_coming (block_at m x).coming ≡ false
  some_coming = elim (cases_Bool (none_coming (block_at m x).coming)) [
    | inl t ↦ absurd (eqb-false _ 0 bad (cond-true _ _ 14 (lt-ltb x (length m) in') ∙ cond-true _ 0 13 t))
    | inr f ↦ f
  ]

  used_up : (block_at (read_after m x 64) x).coming ≡ less 1 (block_at m x).coming
  used_up = (wears m x x).coming ∙ ap (λ k. less k (block_at m x).coming) (cond-true (eqb x x) 1 0 (eq-eqb x x refl))

  enough_failed : (n : ℕ) → Enough (block_at m x).coming n → (1 < n) × Enough (block_at (read_after m x 64) x).coming (n - 1)
  enough_failed n e =
      let r = by (block_at m x).coming some_coming e in
      (r.0, subst (λ c. Enough c (n - 1)) (sym used_up) r.1)
    where
      by : (c : ToCome) → none_coming c ≡ false → Enough c n → (1 < n) × Enough (less 1 c) (n - 1)
      by (failures f) some e = let ne = eqb-false f 0 some in (omega arith, omega arith)
      by dead some e = absurd e

-- lane l of order o, admitted at slot a, is live, and each unread block has fewer failures to come than attempts owed
pub record Tracked (o : Asked) (a : ℕ) (disk : List Block) (l : Lane) : Type 0 where
  pub alive : IsLive l
  pub order : l.order ≡ o
  pub admitted : l.admitted ≡ a
  pub enough : (j : ℕ) → l.next ≤ j → j < o.timing.count → Enough (block_at disk (o.first + j)).coming (owed (work l) j)

pub owed_some : (l : Lane) → l.failed ≤ l.order.timing.spare → 0 < owed (work l) l.next
owed_some l e = grind arith

owed_failed : (f : Fault) (l : Lane) → owed (work l) l.next - 1 ≤ owed (work (on_live l (FailedAttempt f))) l.next
owed_failed f l = grind arith

owed_later : (f : Fault) (l : Lane) (j : ℕ) → l.next < j → owed (work l) j ≤ owed (work (on_live l (FailedAttempt f))) j
owed_later f l j lt = grind arith

owed_read : (l : Lane) (j : ℕ) → l.next < j → owed (work l) j ≤ owed (work (on_live l BlockRead)) j
owed_read l j lt = grind arith

module _ (o : Asked) (a : ℕ) (disk : List Block) (l : Lane) (t : Tracked o a disk l) where
  -- a read for any lane
  pub tracked_other : (x : ℕ) → Tracked o a (read_after disk x 64) l
  tracked_other x = record {
    alive = t.alive;
    order = t.order;
    admitted = t.admitted;
    enough = λ j e f. enough_after disk x (o.first + j) (owed (work l) j) (t.enough j e f);
  }

  -- its own, that succeeds
  pub tracked_read : Tracked o a (read_after disk (next_block l) 64) (happens l BlockRead)
  tracked_read =
      let old : Tracked o a (read_after disk (next_block l) 64) l = tracked_other (next_block l) in
      subst (Tracked o a (read_after disk (next_block l) 64)) (sym (happens_live l BlockRead t.alive))
      (record {
        alive = t.alive;
        order = t.order;
        admitted = t.admitted;
        enough = λ j e f. enough_more _ (owed (work l) j) _ (owed_read l j (omega arith)) (old.enough j (omega arith) f);
      })

  -- and that fails
  pub tracked_failed : (f : Fault) → l.next < o.timing.count → o.first + l.next < length disk → eqb (read_number disk (next_block l) 64) 0 ≡ false
      → Tracked o a (read_after disk (next_block l) 64) (happens l (FailedAttempt f))
  tracked_failed f lt in' bad =
      let same : next_block l ≡ o.first + l.next = ap (λ o. o.first + l.next) t.order in
      let n : ℕ = owed (work l) l.next in
      let (two, left) = enough_failed disk (o.first + l.next) in' (subst (λ x. eqb (read_number disk x 64) 0 ≡ false) same bad) n (t.enough l.next (omega arith) lt) in
      subst (Tracked o a (read_after disk (next_block l) 64)) (sym (happens_live l (FailedAttempt f) t.alive))
      (record {
        alive = cond_both (ltb l.failed l.order.timing.spare) l.stage (Faulted f) (λ s. is_live s ≡ true) (λ _. t.alive) (λ e. absurd (grind arith));
        order = t.order;
        admitted = t.admitted;
        enough = λ j e g. elim (cases_eq l.next j) [
          | inl q ↦ subst (λ j. Enough (block_at (read_after disk (next_block l) 64) (o.first + j)).coming (owed (work (on_live l (FailedAttempt f))) j)) q
              (subst (λ x. Enough (block_at (read_after disk x 64) (o.first + l.next)).coming (owed (work (on_live l (FailedAttempt f))) l.next)) (sym same)
              (enough_more _ (n - 1) _ (owed_failed f l) left))
          | inr q ↦ enough_more _ (owed (work l) j) _ (owed_later f l j (omega arith)) ((tracked_other (next_block l)).enough j e g)
        ];
      })
