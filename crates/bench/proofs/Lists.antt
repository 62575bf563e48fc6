-- One call more of a list.
use Rattle.std.proofs.Common.{◌≡◌, List, [], ◌∷◌, ◌++◌, length, Result, sym, refl, ap, ◌∙◌, subst, arith, length-append}
use Rattle.std.proofs.lemmas.List.{map-append}
use Rattle.refusal.specs.declared.Refusal.{Refusal}
use Rattle.history.specs.Bench.{World}
use Rattle.history.specs.Told.{Call as Asks, call, after, answers}
use Rattle.history.proofs.Runs.{after_more, answers_more}
use Rattle.bench.specs.declared.performing.Answer.{Answer}
use Rattle.bench.specs.declared.performing.Call.{Call}
use Rattle.bench.specs.Performing.{answer_told, fault_of, asks, Ended, Obeys, history, AllEnded, Performs}

-- A LIST

history_more : (cs : List Call) (as' : List (Result Answer Refusal)) (c : Call) (a : Result Answer Refusal) → length as' ≡ length cs → history (cs ++ c ∷ []) (as' ++ a ∷ []) ≡ history cs as' ++ asks c (fault_of a) ∷ []
history_more [] [] c a e = refl
history_more [] (x ∷ as') c a e = absurd (omega arith)
history_more (d ∷ cs) [] c a e = absurd (omega arith)
history_more (d ∷ cs) (x ∷ as') c a e = ap (λ hs. asks d (fault_of x) ∷ hs) (history_more cs as' c a (omega arith))

ended_more : (w : World) (cs : List Call) (as' : List (Result Answer Refusal)) (c : Asks) (a : Result Answer Refusal) → length as' ≡ length cs → AllEnded w (history cs as') as'
    → let x : World = after w (history cs as') in Ended x.lanes (call x c).0.lanes a
    → AllEnded w (history cs as' ++ c ∷ []) (as' ++ a ∷ [])
ended_more w [] [] c a e all one = (one, tt)
ended_more w [] (x ∷ as') c a e all one = absurd (omega arith)
ended_more w (d ∷ cs) [] c a e all one = absurd (omega arith)
ended_more w (d ∷ cs) (x ∷ as') c a e all one = (all.0, ended_more (call w (asks d (fault_of x))).0 cs as' c a (omega arith) all.1 one)

pub performs_more : (w w' w'' : World) (cs : List Call) (as' : List (Result Answer Refusal)) (c : Call) (a : Result Answer Refusal) → Performs w cs as' w' → Obeys w' c a w'' → Performs w (cs ++ c ∷ []) (as' ++ a ∷ []) w''
performs_more w w' w'' cs as' c a p o =
    let hs : List Asks = history cs as' in
    let x : Asks = asks c (fault_of a) in
    let more = history_more cs as' c a p.each in
    let ends : Ended (after w hs).lanes (call (after w hs) x).0.lanes a =
    subst (λ v. Ended v.lanes (call v x).0.lanes a) p.bench (subst (λ v. Ended w'.lanes v.lanes a) o.bench o.ended) in
    record {
      each = simp length-append (omega (arith, p.each));
      answers =
          map-append answer_told as' (a ∷ [])
          ∙ ((λ i. p.answers i ++ (o.answer ∙ ap (λ v. (call v x).1) p.bench) i ∷ [])
          ∙ (sym (answers_more w hs x) ∙ ap (answers w) (sym more)));
      bench = o.bench ∙ (ap (λ v. (call v x).0) p.bench ∙ (sym (after_more w hs x) ∙ ap (after w) (sym more)));
      ended = subst (λ ks. AllEnded w ks (as' ++ a ∷ [])) (sym more) (ended_more w cs as' x a p.each p.ended ends);
    }
