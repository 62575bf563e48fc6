-- A block read again and again, and what the layer of a retry makes of it.
use Rattle.std.proofs.Common.{◌≡◌, ℕ, zero, suc, ◌+◌, ◌-◌, ◌/◌, ◌<◌, ◌≤◌, List, length, get_or, set, refl, ap, subst, arith}
use native.Mathlib.Nat.{div-eq_of_lt, div-eq-sub-div}
use Rattle.std.proofs.lemmas.List.{length-set, length-map, get_or-set_same, get_or-map, map-set, set-set, set-get_or}
use Rattle.std.proofs.lemmas.Bool.Decides.{nat_tests}
use Rattle.disk.specs.Meaning.{Block, ToCome, failures, dead, no_block, block_at, less, Reads}
use Rattle.layers.specs.Layers.{SameBytes}
use Rattle.layers.specs.Retries.{retried, retry_meaning}
use Rattle.layers.proofs.Layers.{same_bytes}

-- c has k failures to use up
abbrev pub AtLeast : ℕ → ToCome → Type 0
AtLeast k (failures n) = k ≤ n
AtLeast k dead = Unit {0}

pub at_least_none : (c : ToCome) → AtLeast 0 c
at_least_none (failures n) = omega arith
at_least_none dead = tt

abbrev pub lessened : ℕ → Block → Block
lessened k x = record { bytes = x.bytes; coming = less k x.coming }

-- the disk m after k failed reads of block b
unfoldable pub failed : ℕ → List Block → ℕ → List Block
failed k m b = set m b (lessened k (block_at m b))

-- a read of a disk and memory that are known to equal others, and whose number is
pub reads_at : {b n : ℕ} {mem₁ mem₂ mem' : List ℕ} {m₁ m₂ m' : List Block} → m₁ ≡ m₂ → mem₁ ≡ mem₂ → Reads m₁ b mem₁ n mem' m' → Reads m₂ b mem₂ n mem' m'
reads_at {b} {n} {mem₁} {mem₂} {mem'} {m₁} {m₂} {m'} e d r = subst (λ x. Reads m₂ b x n mem' m') d (subst (λ x. Reads x b mem₁ n mem' m') e r)

pub reads_number : {b n₁ n₂ : ℕ} {mem mem' : List ℕ} {m m' : List Block} → n₁ ≡ n₂ → Reads m b mem n₁ mem' m' → Reads m b mem n₂ mem' m'
reads_number {b} {n₁} {n₂} {mem} {mem'} {m} {m'} e r = subst (λ x. Reads m b mem x mem' m') e r

pub length_retry : (t : ℕ) (m : List Block) → length (retry_meaning t m) ≡ length m
unfolding retry_meaning
length_retry t m = length-map m (retried t)

get_or_retry : (t : ℕ) (m : List Block) (b : ℕ) → b < length m → get_or (retry_meaning t m) b no_block ≡ retried t (get_or m b no_block)
unfolding retry_meaning
get_or_retry t m b h = get_or-map (retried t) m b no_block no_block h

retry_set : (t : ℕ) (m : List Block) (b : ℕ) (x : Block) → retry_meaning t (set m b x) ≡ set (retry_meaning t m) b (retried t x)
unfolding retry_meaning
retry_set t m b x = map-set (retried t) m b x

module _ (m : List Block) (b : ℕ) (h : b < length m) where
  length_failed : (k : ℕ) → length (failed k m b) ≡ length m
  unfolding failed
  length_failed k = length-set m b (lessened k (block_at m b))

  get_or_failed : (k : ℕ) → get_or (failed k m b) b no_block ≡ lessened k (get_or m b no_block)
  unfolding failed
  get_or_failed k = get_or-set_same m b (lessened k (block_at m b)) no_block h

  failed_set : (k : ℕ) (x : Block) → set (failed k m b) b x ≡ set m b x
  unfolding failed
  failed_set k x = set-set m b (lessened k (block_at m b)) x

  none_by : (c : ToCome) → (block_at m b).coming ≡ c → m ≡ failed 0 m b
  unfolding failed
  none_by (failures f) e = let s = set-get_or m b no_block in let z : f - 0 ≡ f = omega arith in grind (arith, nat_tests)
  none_by dead e = let s = set-get_or m b no_block in grind (arith, nat_tests)

  pub failed_none : m ≡ failed 0 m b
  failed_none = none_by (block_at m b).coming refl

  -- one more read that fails, by what is to come of the block
  step_count : (f k : ℕ) (mem mem' : List ℕ) (n : ℕ) (m' : List Block) → (block_at m b).coming ≡ failures f → k ≤ f → length mem ≡ 64 → (n ≡ 0 → ⊥) → Reads (failed k m b) b mem n mem' m' → (m' ≡ failed (k + 1) m b) × (k + 1 ≤ f) × (mem' ≡ mem)
  unfolding failed
  step_count f k mem mem' n m' e le l ne r =
      let fl = length_failed k in
      let fa = get_or_failed k in
      let fs = failed_set k (lessened (k + 1) (get_or m b no_block)) in
      let s : f - k - 1 ≡ f - (k + 1) = omega arith in
      (grind (arith, nat_tests), grind (arith, nat_tests), grind (arith, nat_tests))

  step_dead : (k : ℕ) (mem mem' : List ℕ) (n : ℕ) (m' : List Block) → (block_at m b).coming ≡ dead → length mem ≡ 64 → Reads (failed k m b) b mem n mem' m' → (m' ≡ failed (k + 1) m b) × (mem' ≡ mem)
  unfolding failed
  step_dead k mem mem' n m' e l r =
      let fl = length_failed k in
      let fa = get_or_failed k in
      let fs = failed_set k (lessened (k + 1) (get_or m b no_block)) in
      (grind (arith, nat_tests), grind (arith, nat_tests))

  step_by : (c : ToCome) (k : ℕ) (mem mem' : List ℕ) (n : ℕ) (m' : List Block) → (block_at m b).coming ≡ c → AtLeast k c → length mem ≡ 64 → (n ≡ 0 → ⊥) → Reads (failed k m b) b mem n mem' m' → (m' ≡ failed (k + 1) m b) × AtLeast (k + 1) c × (mem' ≡ mem)
  step_by (failures f) k mem mem' n m' e le l ne r = step_count f k mem mem' n m' e le l ne r
  step_by dead k mem mem' n m' e le l ne r = let s = step_dead k mem mem' n m' e l r in (s.0, tt, s.1)

  pub failed_more : (k : ℕ) (mem mem' : List ℕ) (n : ℕ) (m' : List Block) → AtLeast k (block_at m b).coming → length mem ≡ 64 → (n ≡ 0 → ⊥) → Reads (failed k m b) b mem n mem' m' → (m' ≡ failed (k + 1) m b) × AtLeast (k + 1) (block_at m b).coming × (mem' ≡ mem)
  failed_more k mem mem' n m' = step_by (block_at m b).coming k mem mem' n m' refl

  retry_failed_set : (t k : ℕ) → retry_meaning t (failed k m b) ≡ set (retry_meaning t m) b (retried t (lessened k (get_or m b no_block)))
  unfolding failed
  retry_failed_set t k = retry_set t m b (lessened k (block_at m b))

  -- the layer's read where a call below succeeds after k failures
  granted_by : (c : ToCome) (t k : ℕ) (mem mem' : List ℕ) (m' : List Block) → (block_at m b).coming ≡ c → AtLeast k c → k < t → length mem ≡ 64 → Reads (failed k m b) b mem 0 mem' m' → Reads (retry_meaning t m) b mem 0 mem' (retry_meaning t m')
  granted_by (failures f) t k mem mem' m' e le lt l r =
      let fl = length_failed k in
      let fa = get_or_failed k in
      let rl = length_retry t m in
      let ra = get_or_retry t m b h in
      let rf = retry_failed_set t k in
      let sg = set-get_or (retry_meaning t m) b no_block in
      let fk : f ≡ k = grind (arith, nat_tests) in
      let d : f / t ≡ 0 = div-eq_of_lt (omega arith) in
      let d' : (f - k) / t ≡ 0 = div-eq_of_lt (omega arith) in
      record { number = grind (arith, nat_tests); memory = grind (arith, nat_tests); after = grind (arith, nat_tests) }
  granted_by dead t k mem mem' m' e le lt l r =
      let fl = length_failed k in
      let fa = get_or_failed k in
      let z : ◌≡◌ {A = ℕ} 0 13 = grind (arith, nat_tests) in
      absurd (omega arith)

  pub retry_granted : (t k : ℕ) (mem mem' : List ℕ) (m' : List Block) → AtLeast k (block_at m b).coming → k < t → length mem ≡ 64 → Reads (failed k m b) b mem 0 mem' m' → Reads (retry_meaning t m) b mem 0 mem' (retry_meaning t m')
  retry_granted t k mem mem' m' = granted_by (block_at m b).coming t k mem mem' m' refl

  -- the layer's read where the last call below fails too
  failed_by : (c : ToCome) (t k : ℕ) (mem mem' : List ℕ) (n : ℕ) (m' : List Block) → (block_at m b).coming ≡ c → AtLeast k c → k + 1 ≡ t → (n ≡ 0 → ⊥) → length mem ≡ 64 → Reads (failed k m b) b mem n mem' m' → Reads (retry_meaning t m) b mem n mem' (retry_meaning t m')
  failed_by (failures f) t k mem mem' n m' e le eq ne l r =
      let s = step_count f k mem mem' n m' e le l ne r in
      let fl = length_failed k in
      let fa = get_or_failed k in
      let rl = length_retry t m in
      let ra = get_or_retry t m b h in
      let rf = retry_failed_set t (k + 1) in
      let d : f / t ≡ (f - t) / t + 1 = div-eq-sub-div (omega arith) (omega arith) in
      let w : (f - t) / t ≡ f / t - 1 = omega arith in
      record { number = grind (arith, nat_tests); memory = grind (arith, nat_tests); after = grind (arith, nat_tests) }
  failed_by dead t k mem mem' n m' e le eq ne l r =
      let s = step_dead k mem mem' n m' e l r in
      let fl = length_failed k in
      let fa = get_or_failed k in
      let rl = length_retry t m in
      let ra = get_or_retry t m b h in
      let rf = retry_failed_set t (k + 1) in
      record { number = grind (arith, nat_tests); memory = grind (arith, nat_tests); after = grind (arith, nat_tests) }

  retry_failed : (t k : ℕ) (mem mem' : List ℕ) (n : ℕ) (m' : List Block) → AtLeast k (block_at m b).coming → k + 1 ≡ t → (n ≡ 0 → ⊥) → length mem ≡ 64 → Reads (failed k m b) b mem n mem' m' → Reads (retry_meaning t m) b mem n mem' (retry_meaning t m')
  retry_failed t k mem mem' n m' = failed_by (block_at m b).coming t k mem mem' n m' refl

  -- the layer's read by what the last call below answers
  pub retry_last : (t k : ℕ) (mem mem' : List ℕ) (n : ℕ) (m' : List Block) → AtLeast k (block_at m b).coming → k + 1 ≡ t → length mem ≡ 64 → Reads (failed k m b) b mem n mem' m' → Reads (retry_meaning t m) b mem n mem' (retry_meaning t m')
  retry_last t k mem mem' zero m' le eq l r = retry_granted t k mem mem' m' le (omega arith) l r
  retry_last t k mem mem' (suc n) m' le eq l r = retry_failed t k mem mem' (suc n) m' le eq (λ e. omega arith) l r

pub retry_same_bytes : (t : ℕ) (m : List Block) → SameBytes m (retry_meaning t m)
retry_same_bytes t m = same_bytes m (retry_meaning t m) (length_retry t m) (λ y h. ap (λ (k : Block). k.bytes) (get_or_retry t m y h))
