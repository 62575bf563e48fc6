-- What a survey has told and left after its first blocks.
use Rattle.std.proofs.Common.{◌≡◌, ℕ, zero, suc, ◌+◌, ◌-◌, ◌<◌, ◌≤◌, true, cond, not, List, [], ◌∷◌, ◌++◌, map, length, take, drop, set, filter, refl, ap, ◌∙◌, append-nil, arith}
use Rattle.std.specs.List.{range_with_len, AllByRecursion}
use Rattle.refusal.specs.declared.Fault.{Fault}
use Rattle.std.proofs.lemmas.List.Edits.{map_over_more}
use Rattle.std.proofs.lemmas.List.Elements.{filter-append}
use Rattle.std.proofs.lemmas.List.{length-append, length-map, length-take, length-drop, take_all, drop_all, drop_more, get_or_at, get_or_default}
use Rattle.std.proofs.lemmas.Bool.Decides.{nat_tests}
use Rattle.disk.specs.Meaning.{Block, ToCome, failures, dead, no_block, none_coming, block_at, worn}
use Rattle.disk.specs.Surveys.{fails_at, block_of, ToldTruly, Surveyed}
use Rattle.disk.specs.declared.survey.Unread.{Unread}

worn_none : (c : ToCome) (k : Block) → k.coming ≡ c → none_coming c ≡ true → worn k ≡ k
worn_none (failures n) k e h = let z : n - 1 ≡ n = grind (arith, nat_tests) in grind (arith, nat_tests)
worn_none dead k e h = grind (arith, nat_tests)

-- the first i blocks of the disk m are surveyed
pub record SurveyedTo (F : ℕ → Fault → Type 0) (i : ℕ) (m : List Block) (us : List Unread) (m' : List Block) : Type 0 where
  pub blocks : map block_of us ≡ filter (fails_at m) (range_with_len 0 i)
  pub faults : AllByRecursion (ToldTruly F) us
  pub after : m' ≡ map worn (take i m) ++ drop i m

pub surveyed_none : (F : ℕ → Fault → Type 0) (m : List Block) (us : List Unread) → us ≡ [] → SurveyedTo F 0 m us m
surveyed_none F m us e = record { blocks = ap (map block_of) e; faults = rw e tt; after = refl }

pub surveyed_length : (F : ℕ → Fault → Type 0) (i : ℕ) (m : List Block) (us : List Unread) (m' : List Block) → i ≤ length m → SurveyedTo F i m us m' → length m' ≡ length m
surveyed_length F i m us m' h s = ap length s.after ∙ simp (length-append, length-map, length-take, length-drop) (omega arith)

pub counting_more : (a n j : ℕ) → a + n ≡ j → range_with_len a (n + 1) ≡ range_with_len a n ++ j ∷ []
counting_more a zero j e = ap (λ x. x ∷ []) (omega arith)
counting_more a (suc n) j e = let s : suc n + 1 ≡ suc (n + 1) = omega arith in ap (range_with_len a) s ∙ ap (λ xs. a ∷ xs) (counting_more (a + 1) n j (omega arith))

module _ (F : ℕ → Fault → Type 0) (i : ℕ) (m : List Block) (us : List Unread) (m' : List Block) (h : i < length m) (s : SurveyedTo F i m us m') where
  -- the block to come is as it was
  surveyed_next : block_at m' i ≡ block_at m i
  surveyed_next =
      let l : length (map worn (take i m)) ≡ i = simp (length-map, length-take) (omega arith) in
      ap (λ d. block_at d i) (s.after ∙ ap (λ xs. map worn (take i m) ++ xs) (drop_more m i no_block h)) ∙ get_or_at (map worn (take i m)) (block_at m i) (drop (i + 1) m) no_block i l

  pub surveyed_more : (us' : List Unread) (m'' : List Block) → m'' ≡ set m' i (worn (block_at m' i)) → map block_of us' ≡ cond (fails_at m' i) (map block_of us ++ i ∷ []) (map block_of us) → AllByRecursion (ToldTruly F) us' → SurveyedTo F (i + 1) m us' m''
  surveyed_more us' m'' e u t =
      let n = surveyed_next in
      let k = ap (filter (fails_at m)) (counting_more 0 i i (omega arith)) ∙ filter-append (fails_at m) (range_with_len 0 i) (i ∷ []) in
      let f : fails_at m' i ≡ fails_at m i = ap (λ (b : Block). not (none_coming b.coming)) n in
      let a = append-nil (filter (fails_at m) (range_with_len 0 i)) in
      record { blocks = grind (arith, nat_tests); faults = t; after = e ∙ map_over_more worn m m' i (block_at m' i) h s.after (get_or_default m' i no_block _ (omega (arith, surveyed_length F i m us m' (omega arith) s))) }

pub surveyed_all : (F : ℕ → Fault → Type 0) (m : List Block) (us : List Unread) (m' : List Block) (i : ℕ) → length m ≤ i → i ≤ length m → SurveyedTo F i m us m' → Surveyed F m us m'
surveyed_all F m us m' i lo hi s =
    let e : i ≡ length m = omega arith in
    record { blocks = s.blocks ∙ ap (λ n. filter (fails_at m) (range_with_len 0 n)) e; faults = s.faults; after = s.after ∙ (let t = take_all i m lo in let d = drop_all i m lo in let a = append-nil (map worn m) in cc) }
