-- What holds of a read, by its outcome.
use Rattle.std.proofs.Common.{◌≡◌, ℕ, ◌+◌, ◌-◌, ◌<◌, cond, eqb, List, [], ◌∷◌, length, get_or, refl, ap, ◌∙◌, ⊎_elim, arith}
use Rattle.std.proofs.lemmas.List.{set-get_or, length-set, get_or-set_same, get_or-set_other, get_or_past}
use Rattle.std.proofs.lemmas.Bool.{cases_eq}
use Rattle.std.proofs.lemmas.Bool.Decides.{nat_tests}
use Rattle.refusal.specs.Told.{refusal_number}
use Rattle.refusal.specs.declared.Refusal.{Refusal}
use Rattle.disk.specs.Origin.{Unreadable}
use Rattle.disk.specs.Meaning.{Block, ToCome, failures, dead, no_block, block_at, fewer, worn, read_after, Reads, less, times, ReadsUseUpOneFailureEach}

module _ (m : List Block) (b : ℕ) (mem : List ℕ) where
  -- a read that is refused before anything is read
  pub reads_none : (tag n : ℕ) (e : Refusal) → n ≡ length m → Unreadable tag n b (length mem) e → Reads m b mem (refusal_number e) mem m
  reads_none tag n e l u =
      let k = u.number in
      let h = u.beyond in
      record { number = grind (arith, nat_tests); memory = grind (arith, nat_tests); after = grind (arith, nat_tests) }

  module _ (l : length mem ≡ 64) where
    pub reads_dead : (xs : List ℕ) → b < length m → get_or m b no_block ≡ record { bytes = xs; coming = dead } → Reads m b mem 13 mem m
    reads_dead xs h e =
        let s = set-get_or m b no_block in
        record { number = grind (arith, nat_tests); memory = grind (arith, nat_tests); after = grind (arith, nat_tests) }

    pub reads_granted : (xs : List ℕ) → b < length m → get_or m b no_block ≡ record { bytes = xs; coming = failures 0 } → Reads m b mem 0 xs m
    reads_granted xs h e = record { number = grind (arith, nat_tests); memory = grind (arith, nat_tests); after = grind (arith, nat_tests) }

pub less_none : (c : ToCome) → less 0 c ≡ c
less_none (failures n) = ap failures (omega arith)
less_none dead = refl

pub less_less : (j k : ℕ) (c : ToCome) → less k (less j c) ≡ less (j + k) c
less_less j k (failures n) = ap failures (omega arith)
less_less j k dead = refl

-- a read of b, seen at the block y
pub record Wears (m : List Block) (b y : ℕ) (m' : List Block) : Type 0 where
  pub size : length m' ≡ length m
  pub bytes : (block_at m' y).bytes ≡ (block_at m y).bytes
  pub coming : (block_at m' y).coming ≡ less (cond (eqb b y) 1 0) (block_at m y).coming

-- the block that is read, by its failures to come and whether the disk has it
worn_by : (c : ToCome) (m : List Block) (b : ℕ) → (block_at m b).coming ≡ c → get_or (read_after m b 64) b no_block ≡ worn (block_at m b)
worn_by (failures n) m b e =
    let s = get_or-set_same m b (worn (block_at m b)) no_block in
    let p = get_or_past m b no_block in
    let z : 0 - 1 ≡ 0 = refl in
    grind (arith, nat_tests)
worn_by dead m b e =
    let s = get_or-set_same m b (worn (block_at m b)) no_block in
    let p = get_or_past m b no_block in
    grind (arith, nat_tests)

fewer_less : (c : ToCome) → fewer c ≡ less 1 c
fewer_less (failures n) = refl
fewer_less dead = refl

length_after : (m : List Block) (b : ℕ) → length (read_after m b 64) ≡ length m
length_after m b = let l = length-set m b (worn (block_at m b)) in grind (arith, nat_tests)

pub wears : (m : List Block) (b y : ℕ) → Wears m b y (read_after m b 64)
wears m b y =
    ⊎_elim
    (λ (e : y ≡ b).
    let w = worn_by (block_at m b).coming m b refl in
    let f = fewer_less (block_at m b).coming in
    record { size = length_after m b; bytes = grind arith; coming = grind (arith, nat_tests) })
    (λ (ne : y ≡ b → ⊥).
    let o = get_or-set_other m b y (worn (block_at m b)) no_block ne in
    let z = less_none (block_at m y).coming in
    record { size = length_after m b; bytes = grind (arith, nat_tests); coming = grind (arith, nat_tests) })
    (cases_eq y b)

pub reads_use_up_one_failure_each : ReadsUseUpOneFailureEach
reads_use_up_one_failure_each m [] y = let z = less_none (block_at m y).coming in (refl, refl, grind arith)
reads_use_up_one_failure_each m (b ∷ bs) y =
    let w = wears m b y in
    let r = reads_use_up_one_failure_each (read_after m b 64) bs y in
    let l = less_less (cond (eqb b y) 1 0) (times y bs) (block_at m y).coming in
    (r.0 ∙ w.size, r.1 ∙ w.bytes, r.2 ∙ ap (less (times y bs)) w.coming ∙ l)
