-- What holds of a bench after every call, over the disk d that it began with.
use Rattle.std.proofs.Common.{◌≡◌, ℕ, ◌+◌, ◌%◌, ◌<◌, ◌≤◌, true, ◌≢◌, List, length, get_or, set, None, Option, sym, ◌∙◌, subst, inl, inr, mod-lt, arith}
use Rattle.std.proofs.lemmas.List.{length-set, get_or-set_same, get_or-set_other}
use Rattle.std.proofs.lemmas.Bool.{cases_eq}
use Rattle.disk.specs.Meaning.{Block, block_at}
use Rattle.windows.specs.Windows.{NoneOverfull}
use Rattle.schedule.specs.Orders.{release}
use Rattle.history.specs.declared.Asked.{Asked}
use Rattle.history.specs.declared.Lane.{Lane}
use Rattle.history.specs.declared.Lease.{Lease}
use Rattle.history.specs.Bench.{Valid, World, is_live, lane_in, lane_at, Out, burn_end, buffer_of, bytes_in}
use Rattle.history.proofs.Charges.{charged_in}

abbrev pub IsLive : Lane → Type 0
IsLive l = is_live l.stage ≡ true

-- what a lane at head h keeps while it lives: its order o, its slot of admission a and its buffers bs
pub record Settled (d : List Block) (h : ℕ) (o : Asked) (a : ℕ) (bs : List ℕ) : Type 0 where
  pub valid : Valid o
  pub home : o.head ≡ h
  pub early : a ≤ o.timing.start
  pub on_disk : o.first + o.timing.count ≤ length d
  pub long : o.timing.depth ≤ length bs
  pub placed : (i : ℕ) → i < o.timing.depth → get_or bs i 0 < 32

-- a live lane l at head h
pub record Steady (d : List Block) (now : ℕ) (pool : List ℕ) (h : ℕ) (l : Lane) : Type 0 where
  pub settled : Settled d h l.order l.admitted l.buffers
  pub upto : l.next ≤ l.order.timing.count
  pub spared : l.failed ≤ l.order.timing.spare
  pub released : (i : ℕ) → i < l.next → release l.order.timing l.admitted i ≤ now
  pub bytes : (i : ℕ) → i < l.next → now < burn_end l.order.timing i → bytes_in pool (buffer_of l i) ≡ (block_at d (l.order.first + i)).bytes

-- two live lanes share no buffer, and a lane has none twice
abbrev pub Sep : ℕ → Lane → ℕ → Lane → Type 0
Sep h l g k = (i j : ℕ) → IsLive l → IsLive k → i < l.order.timing.depth → j < k.order.timing.depth → get_or l.buffers i 0 ≡ get_or k.buffers j 0 → (h ≡ g) × (i ≡ j)

-- lease e was taken in lane l of head h, on a block at place j whose burn has not ended
pub record Guarded (now h : ℕ) (l : Lane) (j : ℕ) (e : Lease) : Type 0 where
  pub head : e.head ≡ h
  pub admitted : e.admitted ≡ l.admitted
  pub place : e.index % l.order.timing.depth ≡ j
  pub read : e.index < l.next
  pub burning : now < burn_end l.order.timing e.index

-- where a live lane has the buffer of lease e, the lease is guarded
abbrev pub Guards : ℕ → Lease → ℕ → Lane → Type 0
Guards now e h l = (j : ℕ) → IsLive l → j < l.order.timing.depth → get_or l.buffers j 0 ≡ e.buffer → Guarded now h l j e

-- a lease e that is out
pub record Kept (d : List Block) (now : ℕ) (pool : List ℕ) (ls : List (Option Lane)) (e : Lease) : Type 0 where
  pub party : e.party ≤ 3
  pub placed : e.buffer < 32
  pub on_disk : e.block < length d
  pub bytes : bytes_in pool e.buffer ≡ (block_at d e.block).bytes
  pub guarded : (h : ℕ) → Guards now e h (lane_at ls h)

-- the disk m has the blocks and bytes of d
pub record SameBytes (d m : List Block) : Type 0 where
  pub size : length m ≡ length d
  pub bytes : (b : ℕ) → (block_at m b).bytes ≡ (block_at d b).bytes

pub record Base (d : List Block) (w : World) : Type 0 where
  pub heads : length w.lanes ≡ 8
  pub numbers : length w.leases ≡ 16
  pub pool : length w.pool ≡ 2048
  pub full : (b : ℕ) → b < length d → length (block_at d b).bytes ≡ 64
  pub disk : SameBytes d w.disk
  pub lanes : (h : ℕ) → IsLive (lane_at w.lanes h) → Steady d w.now w.pool h (lane_at w.lanes h)
  pub apart : (h g : ℕ) → Sep h (lane_at w.lanes h) g (lane_at w.lanes g)
  pub leases : (m : ℕ) (e : Lease) → Out w.leases m e → Kept d w.now w.pool w.lanes e

pub record Sound (d : List Block) (w : World) : Type 0 where
  pub base : Base d w
  pub fits : NoneOverfull (charged_in w.now w.lanes)

-- what stands at g after a change at k
pub set_at : {A : Type 0} (P : A → Type 0) (xs : List A) (k g : ℕ) (a d : A) → k < length xs → (g ≡ k → P a) → ((g ≡ k → ⊥) → P (get_or xs g d)) → P (get_or (set xs k a) g d)
set_at P xs k g a d e same other = elim (cases_eq g k) [
  | inl q ↦ subst (λ x. P (get_or (set xs k a) x d)) (sym q) (rw get_or-set_same (same q))
  | inr q ↦ (let ne : g ≢ k = q in rw get_or-set_other (other q))
]

sep_sym : (h : ℕ) (l : Lane) (g : ℕ) (k : Lane) → Sep h l g k → Sep g k h l
sep_sym h l g k s i j lk ll ik il same = let r = s j i ll lk il ik (sym same) in (sym r.0, sym r.1)

-- what lets head k's lane become l, with pool' in place of the pool
pub record Puts (d : List Block) (w : World) (k : ℕ) (l : Lane) (pool' : List ℕ) : Type 0 where
  pub place : k < 8
  pub steady : IsLive l → Steady d w.now pool' k l
  pub once : Sep k l k l
  pub apart : (g : ℕ) → Sep k l g (lane_at w.lanes g)
  pub guards : (m : ℕ) (e : Lease) → Out w.leases m e → Guards w.now e k l
  pub size : length pool' ≡ 2048
  -- the bytes of the other live lanes and of the leases stay
  pub lanes_kept : (h : ℕ) → (h ≡ k → ⊥) → IsLive (lane_at w.lanes h) → (j : ℕ) → j < (lane_at w.lanes h).order.timing.depth
      → bytes_in pool' (get_or (lane_at w.lanes h).buffers j 0) ≡ bytes_in w.pool (get_or (lane_at w.lanes h).buffers j 0)
  pub leases_kept : (m : ℕ) (e : Lease) → Out w.leases m e → bytes_in pool' e.buffer ≡ bytes_in w.pool e.buffer

module _ (d : List Block) (w : World) (b : Base d w) (k : ℕ) (o : Option Lane) (pool' : List ℕ) (p : Puts d w k (lane_in o) pool') where
  abbrev ls : List (Option Lane)
  ls = w.lanes

  abbrev l : Lane
  l = lane_in o

  inside : k < length ls
  inside = omega (arith, b.heads, p.place)

  put_steady : (h : ℕ) → IsLive (lane_at (set ls k o) h) → Steady d w.now pool' h (lane_at (set ls k o) h)
  put_steady h =
      set_at (λ z. IsLive (lane_in z) → Steady d w.now pool' h (lane_in z)) ls k h o None inside
      (λ q. subst (λ h. IsLive l → Steady d w.now pool' h l) (sym q) p.steady)
      (λ ne alive.
      let t = b.lanes h alive in
      record {
        settled = t.settled;
        upto = t.upto;
        spared = t.spared;
        released = t.released;
        bytes = λ j e f. p.lanes_kept h ne alive (j % (lane_at ls h).order.timing.depth) (mod-lt j (omega (arith, t.settled.valid.timing.depth_least))) ∙ t.bytes j e f;
      })

  put_apart : (h g : ℕ) → Sep h (lane_at (set ls k o) h) g (lane_at (set ls k o) g)
  put_apart h g =
      set_at (λ z. Sep h (lane_in z) g (lane_at (set ls k o) g)) ls k h o None inside
      (λ q. subst (λ h. Sep h l g (lane_at (set ls k o) g)) (sym q)
      (set_at (λ z. Sep k l g (lane_in z)) ls k g o None inside (λ r. subst (λ g. Sep k l g l) (sym r) p.once) (λ _. p.apart g)))
      (λ _. set_at (λ z. Sep h (lane_at ls h) g (lane_in z)) ls k g o None inside
      (λ r. subst (λ g. Sep h (lane_at ls h) g l) (sym r) (sep_sym k l h (lane_at ls h) (p.apart h))) (λ _. b.apart h g))

  put_kept : (m : ℕ) (e : Lease) → Out w.leases m e → Kept d w.now pool' (set ls k o) e
  put_kept m e out =
      let t = b.leases m e out in
      record {
        party = t.party;
        placed = t.placed;
        on_disk = t.on_disk;
        bytes = p.leases_kept m e out ∙ t.bytes;
        guarded = λ h. set_at (λ z. Guards w.now e h (lane_in z)) ls k h o None inside
            (λ q. subst (λ h. Guards w.now e h l) (sym q) (p.guards m e out)) (λ _. t.guarded h);
      }

  pub put_lane : (disk' : List Block) (x y : ℕ) → SameBytes d disk'
      → Base d (record { number = w.number; now = w.now; lanes = set ls k o; leases = w.leases; disk = disk'; pool = pool'; attempts = x; failures = y })
  put_lane disk' x y same = record {
    heads = length-set ls k o ∙ b.heads;
    numbers = b.numbers;
    pool = p.size;
    full = b.full;
    disk = same;
    lanes = put_steady;
    apart = put_apart;
    leases = put_kept;
  }
