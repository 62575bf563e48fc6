-- No two blocks that are there share a buffer, a lease is on the block that lies in its buffer, and no lease number that
-- is out is handed out again.
use Rattle.std.proofs.Common.{◌≡◌, ℕ, ◌%◌, ◌<◌, Bool, true, false, ltb, List, [], ◌∷◌, get_or, Some, None, Option, sym, refl, ap, subst, inl, inr, mod-lt, arith}
use Rattle.std.proofs.lemmas.Bool.{and_parts, ltb-true, cases_lt, cases_eq}
use Rattle.disk.specs.Meaning.{Block}
use Rattle.history.specs.declared.Lane.{Lane}
use Rattle.history.specs.declared.Lease.{Lease}
use Rattle.history.specs.Bench.{World, Out, is_live, lane_at, burn_end, buffer_of}
use Rattle.history.specs.Calls.{Slip, refused, new, there, vacant, lease_told, take_block}
use Rattle.history.specs.Told.{takes, after, Told}
use Rattle.history.specs.Laws.{Start, BlocksApart, LeasesOnTheirBlocks, NothingShared}
use Rattle.history.proofs.Buffers.{places_differ}
use Rattle.history.proofs.Checks.{call_cases}
use Rattle.history.proofs.Histories.{new_sound, after_sound}
use Rattle.history.proofs.Sound.{IsLive, Steady, Sound}
use Rattle.history.proofs.Telling.{told_is}
use Rattle.history.proofs.Ticking.{near}

-- block i of lane l is there
record There (now : ℕ) (l : Lane) (i : ℕ) : Type 0 where
  alive : IsLive l
  read : i < l.next
  burning : now < burn_end l.order.timing i

is_there : (now : ℕ) (l : Lane) (i : ℕ) → there now l i ≡ true → There now l i
is_there now l i e =
    let p = and_parts (is_live l.stage) _ e in
    let q = and_parts (ltb i l.next) _ p.1 in
    record { alive = p.0; read = ltb-true _ _ q.0; burning = ltb-true _ _ q.1 }

-- blocks of a lane that are read and burn, at the same place, are one
same_block : (d : List Block) (now : ℕ) (pool : List ℕ) (h : ℕ) (l : Lane) (i j : ℕ) → Steady d now pool h l → i < l.next → j < l.next
    → now < burn_end l.order.timing i → now < burn_end l.order.timing j → i % l.order.timing.depth ≡ j % l.order.timing.depth → i ≡ j
same_block d now pool h l i j s ri rj bi bj same = elim (cases_eq i j) [
  | inl e ↦ e
  | inr ne ↦ elim (cases_lt i j) [
    | inl lt ↦ absurd (places_differ i j l.order.timing.depth lt (near l.order.timing l.admitted now i j (s.released j rj) bi lt) same)
    | inr ge ↦ (let lt : j < i = omega arith in absurd (places_differ j i l.order.timing.depth lt (near l.order.timing l.admitted now j i (s.released i ri) bj lt) (sym same)))
  ]
]

module _ (d : List Block) (w : World) (s : Sound d w) where
  place_below : (h i : ℕ) → IsLive (lane_at w.lanes h) → i % (lane_at w.lanes h).order.timing.depth < (lane_at w.lanes h).order.timing.depth
  place_below h i alive = mod-lt i (omega (arith, (s.base.lanes h alive).settled.valid.timing.depth_least))

  blocks_apart : (h g i j : ℕ) → there w.now (lane_at w.lanes h) i ≡ true → there w.now (lane_at w.lanes g) j ≡ true
      → buffer_of (lane_at w.lanes h) i ≡ buffer_of (lane_at w.lanes g) j → (h ≡ g) × (i ≡ j)
  blocks_apart h g i j th tg same =
      let p = is_there w.now (lane_at w.lanes h) i th in
      let q = is_there w.now (lane_at w.lanes g) j tg in
      let a = s.base.apart h g _ _ p.alive q.alive (place_below h i p.alive) (place_below g j q.alive) same in
      (a.0, one h g i j a.0 p q a.1)
    where
      one : (h g i j : ℕ) → h ≡ g → There w.now (lane_at w.lanes h) i → There w.now (lane_at w.lanes g) j
          → i % (lane_at w.lanes h).order.timing.depth ≡ j % (lane_at w.lanes g).order.timing.depth → i ≡ j
      one h g i j e p =
          subst (λ g. There w.now (lane_at w.lanes g) j → i % (lane_at w.lanes h).order.timing.depth ≡ j % (lane_at w.lanes g).order.timing.depth → i ≡ j) e
          (λ q. same_block d w.now w.pool h (lane_at w.lanes h) i j (s.base.lanes h p.alive) p.read q.read p.burning q.burning)

  lease_on_block : (m h i : ℕ) (e : Lease) → Out w.leases m e → there w.now (lane_at w.lanes h) i ≡ true → buffer_of (lane_at w.lanes h) i ≡ e.buffer
      → (e.head ≡ h) × (e.admitted ≡ (lane_at w.lanes h).admitted) × (e.index ≡ i)
  lease_on_block m h i e out th same =
      let p = is_there w.now (lane_at w.lanes h) i th in
      let g = (s.base.leases m e out).guarded h _ p.alive (place_below h i p.alive) same in
      (g.head, g.admitted, same_block d w.now w.pool h (lane_at w.lanes h) e.index i (s.base.lanes h p.alive) g.read p.read g.burning p.burning g.place)

pub vacant_none : (es : List (Option Lease)) → get_or es (vacant es) None ≡ None
vacant_none [] = refl
vacant_none (None ∷ es) = refl
vacant_none (Some e ∷ es) = vacant_none es

same_lease : (bench number k m party : ℕ) (slip : Bool) → lease_told bench k party slip ≡ lease_told number m party slip → k ≡ m
same_lease bench number k m party true e =
    let x : Slip = record { lease = k; bench = bench; party = party } in
    let y : Slip = record { lease = m; bench = number; party = party } in
    let same : x ≡ y = cc in
    ap (λ s. s.lease) same
same_lease bench number k m party false e = cc

lease_vacant : (w : World) (number h i party m : ℕ) (slip : Bool) → (take_block w h i party slip).1 ≡ lease_told number m party slip → get_or w.leases m None ≡ None
lease_vacant w number h i party m slip =
    call_cases (λ r. r.1 ≡ lease_told number m party slip → get_or w.leases m None ≡ None) w (λ ns e. absurd (never ns slip e)) (takes h i party slip)
    (λ _ e. subst (λ k. get_or w.leases k None ≡ None) (same_lease w.number number (vacant w.leases) m party slip e) (vacant_none w.leases))
  where
    never : (ns : List ℕ) (b : Bool) → refused ns ≡ lease_told number m party b → ⊥
    never ns true e = let z : ◌≡◌ {A = ℕ} 0 1 = cc in omega arith
    never ns false e = let z : ◌≡◌ {A = ℕ} 0 1 = cc in omega arith

pub shared_law : (number : ℕ) (disk : List Block) (pool : List ℕ) → Start disk pool → NothingShared number disk pool
shared_law number disk pool start cs =
    let w : World = after (new number disk pool) cs in
    let s : Sound disk w = after_sound disk (new number disk pool) cs (new_sound number disk pool start) in
    let Law : Told → Type 0 = λ t. BlocksApart t × LeasesOnTheirBlocks t
    × ((h i party m : ℕ) (slip : Bool) → (take_block w h i party slip).1 ≡ lease_told number m party slip → get_or t.leases m None ≡ None) in
    subst Law (sym (told_is number disk pool cs)) (blocks_apart disk w s, lease_on_block disk w s, lease_vacant w number)
