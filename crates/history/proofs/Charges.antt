-- What the lanes of a bench charge, as lanes of windows, and what a change of one lane, or of every lane, does to that.
use Rattle.std.proofs.Common.{◌≡◌, ℕ, zero, suc, ◌+◌, ◌<◌, ◌≤◌, Bool, true, false, cond, List, [], ◌∷◌, ◌++◌, map, length, get_or, take, drop, set, replicate, Some, None, Option, sym, refl, ap, subst, inl, inr, arith}
use Rattle.std.specs.List.{AllByRecursion}
use Rattle.std.proofs.lemmas.List.{map-append, set_split}
use Rattle.std.proofs.lemmas.Bool.{cases_lt}
use Rattle.windows.specs.Windows.{Window, count, since, NoneOverfull, Rule, idle, Pick}
use Rattle.windows.specs.Lanes as work
use Rattle.windows.specs.Lanes.{window, up_to, attempts, spend, NoneSooner}
use Rattle.windows.proofs.Weights.{count-++, all_attempts, spends_one, lane_serve}
use Rattle.windows.proofs.Steps.{step}
use Rattle.windows.proofs.Serve.{missed}
use Rattle.schedule.specs.Orders.{deadline, release, owed, lane, charged}
use Rattle.history.specs.declared.Asked.{Asked}
use Rattle.history.specs.declared.Lane.{Lane}
use Rattle.history.specs.Bench.{is_live, lane_in, work, works}
use Rattle.history.specs.Calls.{new_work, charged_with}

abbrev pub whole : work.Lane → List Window
whole a = up_to a a.blocks

-- WHAT A BENCH CHARGES

-- the windows of a lane of the bench; one that has ended has no blocks left
abbrev pub charge : Lane → work.Lane
charge l = record {
  blocks = cond (is_live l.stage) l.order.timing.count 0;
  release = release l.order.timing l.admitted;
  deadline = deadline l.order.timing;
  owed = owed (work l);
}

abbrev pub charges : List (Option Lane) → List work.Lane
charges ls = map (λ o. charge (lane_in o)) ls

abbrev pub windows_of : ℕ → Lane → List Window
windows_of now l = since now (whole (charge l))

abbrev pub charged_in : ℕ → List (Option Lane) → List Window
charged_in now ls = since now (attempts (charges ls))

-- what is left of the live lanes charges the same
pub attempts_works : (ls : List (Option Lane)) → attempts (map lane (works ls)) ≡ attempts (charges ls)
attempts_works [] = refl
attempts_works (None ∷ ls) = attempts_works ls
attempts_works (Some l ∷ ls) = by (is_live l.stage) (attempts_works ls)
  where
    by : (b : Bool) → attempts (map lane (works ls)) ≡ attempts (charges ls) → attempts (map lane (cond b (work l ∷ works ls) (works ls)))
        ≡ up_to (record { blocks = cond b l.order.timing.count 0; release = (charge l).release; deadline = (charge l).deadline; owed = (charge l).owed }) (cond b l.order.timing.count 0) ++ attempts (charges ls)
    by true e = ap (λ ws. up_to (lane (work l)) l.order.timing.count ++ ws) e
    by false e = e

pub charged_works : (t : ℕ) (ls : List (Option Lane)) → charged t (works ls) ≡ charged_in t ls
charged_works t ls = ap (since t) (attempts_works ls)

pub charged_with_works : (t : ℕ) (ls : List (Option Lane)) (o : Asked) → charged_with t ls o ≡ since t (whole (lane (new_work t o)) ++ attempts (charges ls))
charged_with_works t ls o = ap (λ ws. since t (whole (lane (new_work t o)) ++ ws)) (attempts_works ls)

-- LANES OF WINDOWS

-- at most as many windows in every span
abbrev pub Less : List Window → List Window → Type 0
Less ws vs = (l h : ℕ) → count l h ws ≤ count l h vs

pub fits_less : (ws vs : List Window) → Less ws vs → NoneOverfull vs → NoneOverfull ws
fits_less ws vs less fits h o = fits h (o.0, (o.1.0, omega (arith, less o.0 h)))

pub count-since-++ : (t l h : ℕ) (xs ys : List Window) → count l h (since t (xs ++ ys)) ≡ count l h (since t xs) + count l h (since t ys)
count-since-++ t l h xs ys = rw map-append (count-++ l h (since t xs) (since t ys))

module _ (t l h : ℕ) where
  count_tries : (m n : ℕ) (w : Window) → m ≤ n → count l h (since t (replicate m w)) ≤ count l h (since t (replicate n w))
  count_tries zero n w e = omega arith
  count_tries (suc m) zero w e = absurd (omega arith)
  count_tries (suc m) (suc n) w e = omega (arith, count_tries m n w (omega arith))

  -- fewer tries of the same windows
  pub less_tries : (a b : work.Lane) (n : ℕ) → ((i : ℕ) → i < n → b.owed i ≤ a.owed i) → ((i : ℕ) → window b i ≡ window a i)
      → count l h (since t (up_to b n)) ≤ count l h (since t (up_to a n))
  less_tries a b zero few same = omega arith
  less_tries a b (suc n) few same =
      omega (
        arith,
        count-since-++ t l h (replicate (b.owed n) (window b n)) (up_to b n),
        count-since-++ t l h (replicate (a.owed n) (window a n)) (up_to a n),
        subst (λ w. count l h (since t (replicate (b.owed n) w)) ≤ count l h (since t (replicate (a.owed n) (window a n)))) (sym (same n))
            (count_tries (b.owed n) (a.owed n) (window a n) (few n (omega arith))),
        less_tries a b n (λ i e. few i (omega arith)) same,
      )

  -- one lane changed
  pub count_set : (as' : List work.Lane) (k : ℕ) (b d : work.Lane) → k < length as'
      → count l h (since t (attempts (set as' k b))) + count l h (since t (whole (get_or as' k d)))
      ≡ count l h (since t (attempts as')) + count l h (since t (whole b))
  count_set [] k b d e = absurd (omega arith)
  count_set (a ∷ as') zero b d e = omega (arith, count-since-++ t l h (whole a) (attempts as'), count-since-++ t l h (whole b) (attempts as'))
  count_set (a ∷ as') (suc k) b d e =
      omega (arith, count-since-++ t l h (whole a) (attempts as'), count-since-++ t l h (whole a) (attempts (set as' k b)), count_set as' k b d (omega arith))

  -- every lane changed
  pub count_map : {X : Type 0} (f : X → work.Lane) (r : X → X) → ((x : X) → count l h (since t (whole (f (r x)))) ≤ count l h (since t (whole (f x)))) → (xs : List X)
      → count l h (since t (attempts (map f (map r xs)))) ≤ count l h (since t (attempts (map f xs)))
  count_map f r less [] = omega arith
  count_map f r less (x ∷ xs) =
      omega (arith, count-since-++ t l h (whole (f (r x))) (attempts (map f (map r xs))), count-since-++ t l h (whole (f x)) (attempts (map f xs)), less x, count_map f r less xs)

pub get_or_split : {X : Type 0} (xs : List X) (k : ℕ) (d : X) → k < length xs → xs ≡ take k xs ++ get_or xs k d ∷ drop (suc k) xs
get_or_split [] k d e = absurd (omega arith)
get_or_split (x ∷ xs) zero d e = refl
get_or_split (x ∷ xs) (suc k) d e = ap (λ ys. x ∷ ys) (get_or_split xs k d (omega arith))

-- the rule makes an attempt of block i of lane k
pub serves : (t i k : ℕ) (as' : List work.Lane) (d : work.Lane) → k < length as'
    → i < (get_or as' k d).blocks → 0 < (get_or as' k d).owed i → (get_or as' k d).release i ≤ t → t < (get_or as' k d).deadline i
    → NoneSooner t ((get_or as' k d).deadline i) as' → Rule t (attempts as') (attempts (set as' k (spend (get_or as' k d) i)))
serves t i k as' d e lt some rel fresh none =
    let a : work.Lane = get_or as' k d in
    let s = get_or_split as' k d e in
    subst (λ xs. Rule t (attempts as') (attempts xs)) (sym (set_split as' k (spend a i) e))
    (subst (λ xs. Rule t (attempts xs) (attempts (take k as' ++ spend a i ∷ drop (suc k) as'))) (sym s)
    (lane_serve t i (take k as') (drop (suc k) as') a lt some rel fresh (subst (NoneSooner t (a.deadline i)) s none)))

pub waits : (t : ℕ) (as' : List work.Lane) → AllByRecursion (λ a. (j : ℕ) → j < a.blocks → 0 < a.owed j → t < a.release j) as' → Rule t (attempts as') (attempts as')
waits t as' q = idle (all_attempts (λ w. t < w.start) as' q)

pub fits_rule : (t : ℕ) (ws rest : List Window) → Rule t ws rest → NoneOverfull (since t ws) → NoneOverfull (since (suc t) rest)
fits_rule t ws rest r fits h o = fits h ((step t ws rest r h).1 o)

-- a charged attempt has its deadline ahead
pub on_time : (t i k : ℕ) (as' : List work.Lane) (d : work.Lane) → k < length as' → i < (get_or as' k d).blocks → 0 < (get_or as' k d).owed i
    → NoneOverfull (since t (attempts as')) → t < (get_or as' k d).deadline i
on_time t i k as' d e lt some fits =
    let a : work.Lane = get_or as' k d in
    elim (cases_lt t (a.deadline i)) [
      | inl ahead ↦ ahead
      | inr late ↦ absurd (fits (a.deadline i) (missed t {c = window a i} (subst (λ xs. Pick (window a i) (attempts xs) (attempts (take k as' ++ spend a i ∷ drop (suc k) as')))
          (sym (get_or_split as' k d e)) (spends_one i (take k as') (drop (suc k) as') a lt some)) late))
    ]
