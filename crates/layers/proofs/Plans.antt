-- What the layer of a plan makes of a read.
use Rattle.std.proofs.Common.{◌≡◌, ℕ, ◌+◌, ◌-◌, ◌<◌, true, false, List, length, get_or, set, sym, refl, ap, ◌∙◌, ⊎_elim, arith}
use Rattle.std.proofs.lemmas.List.FromFn.{length-map-range_with_len, get_or-map-range_with_len}
use Rattle.std.proofs.lemmas.List.{length-set, get_or-set_same, get_or-set_other, set-get_or, ext_get_or}
use Rattle.std.proofs.lemmas.Bool.{cases_eq}
use Rattle.std.proofs.lemmas.Bool.Decides.{nat_tests}
use Rattle.disk.specs.Meaning.{Block, ToCome, failures, dead, none_coming, no_block, block_at, worn, fewer, less, Reads}
use Rattle.disk.proofs.Meaning.{less_none}
use Rattle.layers.specs.Entries.{UsedUp}
use Rattle.layers.specs.Layers.{SameBytes}
use Rattle.layers.specs.Plans.{added, plan_block, plan_meaning}
use Rattle.layers.proofs.Layers.{same_bytes}

pub length_plan : (p : ℕ → ToCome) (m : List Block) → length (plan_meaning p m) ≡ length m
unfolding plan_meaning
length_plan p m = length-map-range_with_len (plan_block p m) 0 (length m)

get_or_plan : (p : ℕ → ToCome) (m : List Block) (b : ℕ) → b < length m → get_or (plan_meaning p m) b no_block ≡ plan_block p m b
unfolding plan_meaning
get_or_plan p m b h = get_or-map-range_with_len (plan_block p m) 0 (length m) b b no_block h (omega arith)

-- a plan and a disk that have changed at block b alone
plan_set : (p p' : ℕ → ToCome) (m m' : List Block) (b : ℕ) (x : Block) → b < length m → length m' ≡ length m → plan_block p' m' b ≡ x → ((y : ℕ) → (y ≡ b → ⊥) → plan_block p' m' y ≡ plan_block p m y) → plan_meaning p' m' ≡ set (plan_meaning p m) b x
plan_set p p' m m' b x lt e at off =
    let l = length_plan p m in
    let l' = length_plan p' m' in
    let ls = length-set (plan_meaning p m) b x in
    ext_get_or no_block _ _ (omega arith) (λ y h.
    let g = get_or_plan p m y (omega arith) in
    let g' = get_or_plan p' m' y (omega arith) in
    ⊎_elim
    (λ (eq : y ≡ b). let s = get_or-set_same (plan_meaning p m) b x no_block (omega arith) in grind arith)
    (λ (ne : y ≡ b → ⊥). let s = get_or-set_other (plan_meaning p m) b y x no_block ne in let o = off y ne in grind arith)
    (cases_eq y b))

used_here : (p p' : ℕ → ToCome) (b : ℕ) → UsedUp p b p' → p' b ≡ less 1 (p b)
used_here p p' b u = let h = u b in grind (arith, nat_tests)

used_elsewhere : (p p' : ℕ → ToCome) (b y : ℕ) → UsedUp p b p' → (y ≡ b → ⊥) → p' y ≡ p y
used_elsewhere p p' b y u ne = let h = u y in let z = less_none (p y) in grind (arith, nat_tests)

module _ (p p' : ℕ → ToCome) (m : List Block) (b : ℕ) (h : b < length m) (mem : List ℕ) (l : length mem ≡ 64) (u : UsedUp p b p') where
  -- what is planned for the block, c, and what is to come below it, d
  fails_by : (c d : ToCome) → p b ≡ c → (block_at m b).coming ≡ d → none_coming c ≡ false → (none_coming (plan_block p m b).coming ≡ false) × (plan_block p' m b ≡ worn (plan_block p m b))
  fails_by (failures n) (failures f) e w nz =
      let v = used_here p p' b u in
      let s : n - 1 + f ≡ n + f - 1 = grind (arith, nat_tests) in
      (grind (arith, nat_tests), grind (arith, nat_tests))
  fails_by (failures n) dead e w nz = let v = used_here p p' b u in (grind (arith, nat_tests), grind (arith, nat_tests))
  fails_by dead d e w nz = let v = used_here p p' b u in (grind (arith, nat_tests), grind (arith, nat_tests))

  -- a planned failure is used up, and the disk below is not called
  pub plan_fails : none_coming (p b) ≡ false → Reads (plan_meaning p m) b mem 13 mem (plan_meaning p' m)
  plan_fails nz =
      let pl = length_plan p m in
      let pa = get_or_plan p m b h in
      let f = fails_by (p b) (block_at m b).coming refl refl nz in
      let ps = plan_set p p' m m b (worn (plan_block p m b)) h refl f.1 (λ y ne. let o = used_elsewhere p p' b y u ne in grind (arith, nat_tests)) in
      record { number = grind (arith, nat_tests); memory = grind (arith, nat_tests); after = grind (arith, nat_tests) }

  -- with nothing planned the block is the one below, before and after a failure there
  below_by : (c d : ToCome) → p b ≡ c → (block_at m b).coming ≡ d → none_coming c ≡ true → (p' b ≡ failures 0) × (plan_block p m b ≡ block_at m b)
  below_by (failures n) (failures f) e w z = let v = used_here p p' b u in let s : n + f ≡ f = grind (arith, nat_tests) in (grind (arith, nat_tests), grind (arith, nat_tests))
  below_by (failures n) dead e w z = let v = used_here p p' b u in (grind (arith, nat_tests), grind (arith, nat_tests))
  below_by dead d e w z = let f : true ≡ false = grind (arith, nat_tests) in (grind (arith, nat_tests), grind (arith, nat_tests))

  zero_added : (d : ToCome) → added (failures 0) d ≡ d
  zero_added (failures f) = ap failures (omega arith)
  zero_added dead = refl

  -- with nothing planned, the read is the one below
  pub plan_below : (n : ℕ) (mem' : List ℕ) (m' : List Block) → none_coming (p b) ≡ true → Reads m b mem n mem' m' → Reads (plan_meaning p m) b mem n mem' (plan_meaning p' m')
  plan_below n mem' m' z r =
      let k = block_at m b in
      let pl = length_plan p m in
      let pa = get_or_plan p m b h in
      let s = below_by (p b) k.coming refl refl z in
      let off : (y : ℕ) → (y ≡ b → ⊥) → plan_block p' m y ≡ plan_block p m y = λ y ne. let o = used_elsewhere p p' b y u ne in grind (arith, nat_tests) in
      let same : plan_meaning p' m ≡ plan_meaning p m = let a = zero_added k.coming in plan_set p p' m m b (plan_block p m b) h refl (grind (arith, nat_tests)) off ∙ ap (set (plan_meaning p m) b) (sym pa) ∙ set-get_or (plan_meaning p m) b no_block in
      let gs = get_or-set_same m b (worn k) no_block h in
      let fewer-there : plan_meaning p' (set m b (worn k)) ≡ set (plan_meaning p m) b (worn (plan_block p m b)) = let a = zero_added (fewer k.coming) in plan_set p p' m (set m b (worn k)) b (worn (plan_block p m b)) h (length-set m b (worn k)) (grind (arith, nat_tests)) (λ y ne. let o = off y ne in let g = get_or-set_other m b y (worn k) no_block ne in grind (arith, nat_tests)) in
      record { number = grind (arith, nat_tests); memory = grind (arith, nat_tests); after = grind (arith, nat_tests) }

pub plan_same_bytes : (p : ℕ → ToCome) (m : List Block) → SameBytes m (plan_meaning p m)
plan_same_bytes p m = same_bytes m (plan_meaning p m) (length_plan p m) (λ y h. ap (λ (k : Block). k.bytes) (get_or_plan p m y h))
