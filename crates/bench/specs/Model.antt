-- A bench and the pool that is lent to it, as the world that the calls' definitions speak of.
use Rattle.std.specs.Prelude.{◌≡◌, ℕ, ◌<◌, Bool, true, false, cond, not, ◌&&◌, List, length, Some, None, Option, Result, MatchResult, ◌==◌, slice_index_or}
use Rattle.refusal.specs.declared.Refusal.{Refusal}
use Rattle.refusal.specs.declared.Refusal.TheVariants.{NotHeld}
use Rattle.disk.specs.Meaning.{Block}
use Rattle.history.specs.Bench.{World, some_and}
use Rattle.history.specs.declared.Lease.{Lease}
use Rattle.history.specs.Calls.{Slip as Named}
use Rattle.bench.specs.declared.slip.Slip.{Slip}
use Rattle.bench.specs.declared.slip.SlipNumbers.{SlipNumbers}
use Rattle.bench.specs.declared.state.Bench.{Bench}

abbrev pub world : {D : Type 0} → (D → List Block) → List ℕ → Bench D → World
world meaning pool b = record {
  number = b.number;
  now = b.now;
  lanes = b.lanes;
  leases = b.leases;
  disk = meaning b.disk;
  pool = pool;
  attempts = b.attempts;
  failures = b.failures;
}

-- lease m is out to that party, by slip or not
abbrev pub out_to : List (Option Lease) → ℕ → ℕ → Bool → Bool
out_to es party m slip = some_and (λ e. (e.party == party) && cond slip e.slip (not e.slip)) (slice_index_or es m None)

-- lease m, and Not held exactly where it is not out to that party, by slip or not
abbrev pub OutOrNotHeld : List (Option Lease) → ℕ → ℕ → Bool → Result Lease Refusal → Type 0
OutOrNotHeld es party m slip r = MatchResult r
    (λ e. (out_to es party m slip ≡ true) × (m < length es) × (slice_index_or es m None ≡ Some e))
    (λ e. (out_to es party m slip ≡ false) × (e ≡ NotHeld))

-- what a slip names
abbrev pub of_numbers : SlipNumbers → Named
of_numbers s = record { lease = s.lease; bench = s.bench; party = s.party }

abbrev pub named : Slip → Named
named s = of_numbers s.numbers

-- the slip is this bench's, and its lease is out by slip to its party
abbrev pub honours_numbers : {D : Type 0} → Bench D → SlipNumbers → Bool
honours_numbers b s = s.bench == b.number && out_to b.leases s.party s.lease true

abbrev pub honoured : {D : Type 0} → Bench D → Slip → Bool
honoured b s = honours_numbers b s.numbers

-- its lease, and Not held exactly where that is not so
abbrev pub HonouredOrNotHeld : {D : Type 0} → Bench D → SlipNumbers → Result Lease Refusal → Type 0
HonouredOrNotHeld b s r = MatchResult r
    (λ e. (honours_numbers b s ≡ true) × (s.lease < length b.leases) × (slice_index_or b.leases s.lease None ≡ Some e))
    (λ e. (honours_numbers b s ≡ false) × (e ≡ NotHeld))
