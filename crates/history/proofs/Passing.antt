-- A slot passes: lanes end, and what is left of a sound bench is sound.
use Rattle.std.proofs.Common.{◌≡◌, ℕ, zero, suc, ◌<◌, ◌≤◌, false, ◌&&◌, eqb, List, [], ◌∷◌, map, get_or, Some, None, Option, sym, refl, ap, ◌∙◌, subst, arith}
use Rattle.std.proofs.lemmas.List.{length-map}
use Rattle.std.proofs.lemmas.Bool.{cond_both, both_ways}
use Rattle.disk.specs.Meaning.{Block}
use Rattle.windows.specs.Windows.{NoneOverfull, count}
use Rattle.schedule.specs.Orders.{deadline}
use Rattle.history.specs.declared.Lane.{Lane}
use Rattle.history.specs.declared.Lease.{Lease}
use Rattle.history.specs.declared.Stage.TheVariants.{Finished, Held}
use Rattle.history.specs.Bench.{World, some_and, any, is_live, lane_in, lane_at, Out, burn_end}
use Rattle.history.specs.Calls.{ended, holds_up, aged, all_aged, changed, passed}
use Rattle.history.proofs.Buffers.{any_none}
use Rattle.history.proofs.Charges.{charge, windows_of, charged_in, fits_less, count_map}
use Rattle.history.proofs.Sound.{IsLive, Steady, Sep, Guards, Base, Sound}

pub get_or_map_any : {X Y : Type 0} (f : X → Y) (xs : List X) (i : ℕ) (d : X) → get_or (map f xs) i (f d) ≡ f (get_or xs i d)
get_or_map_any f [] i d = refl
get_or_map_any f (x ∷ xs) zero d = refl
get_or_map_any f (x ∷ xs) (suc i) d = get_or_map_any f xs i d

module _ (t : ℕ) (es : List (Option Lease)) where
  aged_in : (o : Option Lane) → lane_in (changed (aged t es) o) ≡ aged t es (lane_in o)
  aged_in None = refl
  aged_in (Some l) = refl

  pub aged_at : (ls : List (Option Lane)) (h : ℕ) → lane_at (all_aged t es ls) h ≡ aged t es (lane_at ls h)
  aged_at ls h = ap lane_in (get_or_map_any (changed (aged t es)) ls h None) ∙ aged_in (get_or ls h None)

  pub aged_cases : (P : Lane → Type 0) (l : Lane) → P (ended l Held) → P (ended l Finished) → ((IsLive l → any (holds_up t l) es ≡ false) → P l) → P (aged t es l)
  aged_cases P l p q r =
      cond_both (is_live l.stage) _ l P
      (λ _. cond_both (any (holds_up t l) es) Held _ (λ s. P (ended l s)) (λ _. p)
      (λ none. cond_both (eqb (deadline l.order.timing l.order.timing.count) t) Finished l.stage (λ s. P (ended l s)) (λ _. q) (λ _. r (λ _. none))))
      (λ dead. r (λ alive. absurd (both_ways _ dead alive)))

  -- a lane that is live at slot t was live, and no lease held it up
  pub still_live : (ls : List (Option Lane)) (h : ℕ) → IsLive (lane_at (all_aged t es ls) h)
      → (lane_at (all_aged t es ls) h ≡ lane_at ls h) × (any (holds_up t (lane_at ls h)) es ≡ false)
  still_live ls h =
      subst (λ x. IsLive x → (x ≡ lane_at ls h) × (any (holds_up t (lane_at ls h)) es ≡ false)) (sym (aged_at ls h))
      (aged_cases (λ x. IsLive x → (x ≡ lane_at ls h) × (any (holds_up t (lane_at ls h)) es ≡ false)) (lane_at ls h)
      (λ a. absurd (both_ways false refl a)) (λ a. absurd (both_ways false refl a)) (λ none a. (refl, none a)))

  aged_less : (u l h : ℕ) (o : Option Lane) → count l h (windows_of u (lane_in (changed (aged t es) o))) ≤ count l h (windows_of u (lane_in o))
  aged_less u l h o =
      subst (λ x. count l h (windows_of u x) ≤ count l h (windows_of u (lane_in o))) (sym (aged_in o))
      (aged_cases (λ x. count l h (windows_of u x) ≤ count l h (windows_of u (lane_in o))) (lane_in o) (omega arith) (omega arith) (λ _. omega arith))

module _ (d : List Block) (w : World) (b : Base d w) where
  passed_base : Base d (passed w)
  passed_base =
      let t : ℕ = suc w.now in
      let ls : List (Option Lane) = w.lanes in
      let ls' : List (Option Lane) = all_aged t w.leases ls in
      record {
        heads = length-map ls _ ∙ b.heads;
        numbers = b.numbers;
        pool = b.pool;
        full = b.full;
        disk = b.disk;
        lanes = λ h alive.
            let q = still_live t w.leases ls h alive in
            subst (Steady d t w.pool h) (sym q.0) (later h (subst IsLive q.0 alive));
        apart = λ h g i j alive also.
            let q = still_live t w.leases ls h alive in
            let r = still_live t w.leases ls g also in
            subst (λ l. Sep h l g (lane_at ls' g)) (sym q.0) (subst (Sep h (lane_at ls h) g) (sym r.0) (b.apart h g)) i j alive also;
        leases = λ m e out.
            let k = b.leases m e out in
            record {
              party = k.party;
              placed = k.placed;
              on_disk = k.on_disk;
              bytes = k.bytes;
              guarded = λ h j alive.
                  let q = still_live t w.leases ls h alive in
                  subst (Guards t e h) (sym q.0) (burning m e out h q.1) j alive;
            };
      }
    where
      later : (h : ℕ) → IsLive (lane_at w.lanes h) → Steady d (suc w.now) w.pool h (lane_at w.lanes h)
      later h alive =
          let s = b.lanes h alive in
          record {
            settled = s.settled;
            upto = s.upto;
            spared = s.spared;
            released = λ i e. omega (arith, s.released i e);
            bytes = λ i e f. s.bytes i e (omega arith);
          }

      burning : (m : ℕ) (e : Lease) → Out w.leases m e → (h : ℕ) → any (holds_up (suc w.now) (lane_at w.lanes h)) w.leases ≡ false
          → Guards (suc w.now) e h (lane_at w.lanes h)
      burning m e out h none j alive in' same =
          let l : Lane = lane_at w.lanes h in
          let g = (b.leases m e out).guarded h j alive in' same in
          let home = (b.lanes h alive).settled.home in
          let n : holds_up (suc w.now) l e ≡ false =
          subst (λ o. some_and (holds_up (suc w.now) l) o ≡ false) out (any_none (holds_up (suc w.now) l) w.leases none m) in
          record {
            head = g.head;
            admitted = g.admitted;
            place = g.place;
            read = g.read;
            burning = ahead e.head l.order.head e.admitted l.admitted (burn_end l.order.timing e.index) w.now (g.head ∙ sym home) g.admitted g.burning n;
          }
        where
          ahead : (a a' c c' x t : ℕ) → a ≡ a' → c ≡ c' → t < x → (eqb a a' && (eqb c c' && eqb x (suc t))) ≡ false → suc t < x
          ahead a a' c c' x t p q lt e = grind arith

  pub passed_sound : NoneOverfull (charged_in (suc w.now) w.lanes) → Sound d (passed w)
  passed_sound fits = record {
    base = passed_base;
    fits = fits_less _ _ (λ l h. count_map (suc w.now) l h (λ o. charge (lane_in o)) (changed (aged (suc w.now) w.leases))
        (aged_less (suc w.now) w.leases (suc w.now) l h) w.lanes) fits;
  }
