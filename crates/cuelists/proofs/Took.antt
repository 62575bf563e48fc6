-- What one line leaves.
use Rattle.std.proofs.Common.{◌≡◌, ℕ, Bool, true, false, cond, eqb, ltb, List, ◌∷◌, length, Ok, Err, Result, sym, refl, subst, MatchResult}
use Rattle.std.specs.List.Sorted.{IsPermutation}
use Rattle.std.proofs.lemmas.Result.{MatchResult-at_ok, MatchResult-at_err}
use Rattle.std.proofs.lemmas.List.Sorted.{IsPermutation-refl}
use Rattle.layers.specs.Entries.{add_number, add_after}
use Rattle.layers.specs.declared.plan.Entry.{Entry}
use Rattle.cues.specs.declared.Cue.{Cue}
use Rattle.cues.specs.declared.Cue.TheVariants.{Plan, At}
use Rattle.cues.specs.declared.Call.{Call}
use Rattle.cuelists.specs.Lists.{sofar, fault, cue_read, Took}
use Rattle.cuelists.specs.declared.due.Due.{Due}
use Rattle.cuelists.specs.declared.list.ListFault.{ListFault}
use Rattle.cuelists.specs.declared.list.Reason.TheVariants.{BadEntry, BadCue, Full}

module _ (es : List Entry) (cs : List Due) (r : Result Bool ListFault) where
  took_by_plan : (t b : Bool) (f : ListFault) (more es' : List Entry) → r ≡ cond t (Ok false) (Err f) → es' ≡ cond t more es → Took (sofar es cs b) (cond t (Ok (sofar (cond t more es) cs false)) (Err f)) r es' cs
  took_by_plan true b f more es' e a = (e, a, IsPermutation-refl cs)
  took_by_plan false b f more es' e a = (e, a, refl)

  took_by_call : (t b : Bool) (f : ListFault) (due : Due) (cs' : List Due) → r ≡ cond t (Ok true) (Err f) → MatchResult r (λ _. IsPermutation (due ∷ cs) cs') (λ _. cs' ≡ cs) → Took (sofar es cs b) (cond t (Ok (sofar es (due ∷ cs) true)) (Err f)) r es cs'
  took_by_call true b f due cs' e h = (e, refl, MatchResult-at_ok _ _ _ e h)
  took_by_call false b f due cs' e h = (e, refl, MatchResult-at_err _ _ _ e h)

module _ (room line : ℕ) (said : Result Cue ℕ) (es : List Entry) (cs : List Due) (r : Result Bool ListFault) where
  pub took_plan : (block count : ℕ) (b : Bool) (es' : List Entry) → said ≡ Ok (Plan block count)
      → r ≡ cond (eqb (add_number es block count) 0) (Ok false) (Err (fault BadEntry line)) → es' ≡ add_after es block count → Took (sofar es cs b) (cue_read room line said (sofar es cs b)) r es' cs
  took_plan block count b es' e h a =
      subst (λ (x : Result Cue ℕ). Took (sofar es cs b) (cue_read room line x (sofar es cs b)) r es' cs) (sym e)
      (took_by_plan es cs r (eqb (add_number es block count) 0) b (fault BadEntry line) _ es' h a)

  pub took_call : (slot : ℕ) (call : Call) (b : Bool) (cs' : List Due) → said ≡ Ok (At slot call)
      → r ≡ cond (ltb (length cs) room) (Ok true) (Err (fault Full line)) → MatchResult r (λ _. IsPermutation (record { slot = slot; line = line; call = call } ∷ cs) cs') (λ _. cs' ≡ cs) → Took (sofar es cs b) (cue_read room line said (sofar es cs b)) r es cs'
  took_call slot call b cs' e h a =
      subst (λ (x : Result Cue ℕ). Took (sofar es cs b) (cue_read room line x (sofar es cs b)) r es cs') (sym e)
      (took_by_call es cs r (ltb (length cs) room) b (fault Full line) (record { slot = slot; line = line; call = call }) cs' h a)

-- what a line says, with the place of a wrong word as a fault
abbrev pub Said : ℕ → Result Cue ℕ → Result Cue ListFault → Type 0
Said line said told = MatchResult said (λ cue. told ≡ Ok cue) (λ place. told ≡ Err (fault (BadCue place) line))

pub said_cue : (line : ℕ) (said : Result Cue ℕ) (told : Result Cue ListFault) (cue : Cue) → Said line said told → told ≡ Ok cue → said ≡ Ok cue
said_cue line (Ok other) told cue h e = cc
said_cue line (Err place) told cue h e = absurd (cc)

pub took_bad : (room line : ℕ) (said want : Result Cue ℕ) (told : Result Cue ListFault) (f : ListFault) (es : List Entry) (cs : List Due) (b : Bool) → said ≡ want → Said line said told → told ≡ Err f → Took (sofar es cs b) (cue_read room line want (sofar es cs b)) (Err f) es cs
took_bad room line said want told f es cs b same h e = subst (λ (x : Result Cue ℕ). Took (sofar es cs b) (cue_read room line x (sofar es cs b)) (Err f) es cs) same (by said h)
  where
    by : (said : Result Cue ℕ) → Said line said told → Took (sofar es cs b) (cue_read room line said (sofar es cs b)) (Err f) es cs
    by (Ok cue) h = absurd (cc)
    by (Err place) h = (cc, refl, refl)
