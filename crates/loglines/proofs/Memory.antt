-- One write after another.
use Rattle.std.proofs.Common.{◌≡◌, ℕ, ◌+◌, ◌<◌, ◌≤◌, List, [], ◌∷◌, ◌++◌, length, take, drop, set, sym, refl, ap, ◌∙◌, subst, append_assoc, add-zero, add_assoc, add-one, arith, length-append, length-set, take-append-drop}
use Rattle.std.proofs.lemmas.List.{length-take-le, take_at, drop_at, drop-drop, set_split}
use Rattle.loglines.specs.Memory.{put, Wrote}

put_none : (m : List ℕ) (at : ℕ) → m ≡ put m at []
unfolding put
put_none m at = sym (ap (λ (k : ℕ). take at m ++ drop k m) (add-zero at) ∙ take-append-drop at m)

put_put : (m : List ℕ) (at to : ℕ) (xs ys : List ℕ) → at ≤ length m → to ≡ at + length xs → put (put m at xs) to ys ≡ put m at (xs ++ ys)
unfolding put
put_put m at to xs ys h e =
    let front = take at m ++ xs in
    let rest = drop (at + length xs) m in
    let long : length front ≡ to = length-append (take at m) xs ∙ ap (λ (k : ℕ). k + length xs) (length-take-le at m h) ∙ sym e in
    let whole : take at m ++ (xs ++ rest) ≡ front ++ rest = sym (append_assoc (take at m) xs rest) in
    let taken : take to (take at m ++ (xs ++ rest)) ≡ front = ap (take to) whole ∙ take_at front rest to long in
    let dropped : drop (to + length ys) (take at m ++ (xs ++ rest)) ≡ drop (at + length (xs ++ ys)) m =
    ap (drop (to + length ys)) whole ∙ sym (drop-drop (length ys) to (front ++ rest)) ∙ ap (drop (length ys)) (drop_at front rest to long)
    ∙ drop-drop (length ys) (at + length xs) m ∙ ap (λ (k : ℕ). drop k m) (add_assoc at (length xs) (length ys) ∙ ap (λ (k : ℕ). at + k) (sym (length-append xs ys))) in
    (λ i. taken i ++ (ys ++ dropped i)) ∙ append_assoc (take at m) xs (ys ++ drop (at + length (xs ++ ys)) m)
    ∙ ap (λ (l : List ℕ). take at m ++ l) (sym (append_assoc xs ys (drop (at + length (xs ++ ys)) m)))

put_byte : (m : List ℕ) (at b : ℕ) → at < length m → set m at b ≡ put m at (b ∷ [])
unfolding put
put_byte m at b h = set_split m at b h ∙ ap (λ (k : ℕ). take at m ++ b ∷ drop k m) (sym (add-one at))

pub wrote_none : (m : List ℕ) (at : ℕ) → Wrote m at [] at m
wrote_none m at = record { ends = sym (add-zero at); memory = put_none m at; room = refl }

pub wrote_byte : (m : List ℕ) (at b : ℕ) → at < length m → Wrote m at (b ∷ []) (at + 1) (set m at b)
wrote_byte m at b h = record { ends = refl; memory = put_byte m at b h; room = length-set m at b }

pub wrote_then : {m n k : List ℕ} {at to end : ℕ} {xs ys : List ℕ} → at ≤ length m → Wrote m at xs to n → Wrote n to ys end k → Wrote m at (xs ++ ys) end k
wrote_then {m} {n} {k} {at} {to} {end} {xs} {ys} h v w = record {
  ends = omega (arith, v.ends, w.ends, length-append xs ys);
  memory = w.memory ∙ ap (λ (l : List ℕ). put l to ys) v.memory ∙ put_put m at to xs ys h v.ends;
  room = w.room ∙ v.room;
}

pub wrote_same : {m n : List ℕ} {at end : ℕ} {xs ys : List ℕ} → xs ≡ ys → Wrote m at xs end n → Wrote m at ys end n
wrote_same {m} {n} {at} {end} e w = subst (λ (l : List ℕ). Wrote m at l end n) e w

pub wrote_two : (m : List ℕ) (at a b : ℕ) → at + 2 ≤ length m → Wrote m at (a ∷ b ∷ []) (at + 2) (set (set m at a) (at + 1) b)
wrote_two m at a b h =
    let kept = length-set m at a in
    let both = wrote_then (omega arith) (wrote_byte m at a (omega arith)) (wrote_byte (set m at a) (at + 1) b (omega arith)) in
    record { ends = refl; memory = both.memory; room = both.room }
