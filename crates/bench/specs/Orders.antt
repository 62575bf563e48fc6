-- What making an order answers.
use Rattle.std.specs.Prelude.{◌≡◌, ℕ, Result, MatchResult}
use Rattle.refusal.specs.declared.Refusal.{Refusal}
use Rattle.refusal.specs.declared.Refusal.TheVariants.{Bounds}
use Rattle.history.specs.Bench.{Valid}
use Rattle.history.specs.declared.Asked.{Asked}
use Rattle.bench.specs.declared.order.Order.{Order}

abbrev pub asking : (head first count start period depth spare : ℕ) → Asked
asking head first count start period depth spare = record {
  head = head;
  first = first;
  timing = record { count = count; start = start; period = period; depth = depth; spare = spare };
}

-- the order that was asked for, and Bounds exactly where a number is outside its limits
abbrev pub OrderedExactlyWithinLimits : Asked → Result Order Refusal → Type 0
OrderedExactlyWithinLimits a r = MatchResult r (λ o. (o.asked ≡ a) × Valid a) (λ e. (e ≡ Bounds) × (Valid a → ⊥))
