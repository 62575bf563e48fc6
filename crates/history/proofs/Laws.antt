-- The laws over every history, together.
use Rattle.std.proofs.Common.{ℕ, List}
use Rattle.disk.specs.Meaning.{Block}
use Rattle.history.specs.Laws.{Start, BenchLaws}
use Rattle.history.proofs.Burning.{taken_law}
use Rattle.history.proofs.Checks.{refused_law, looks_law}
use Rattle.history.proofs.Choosing.{choice_law}
use Rattle.history.proofs.Histories.{crowded_law, shown_law, rule_law}
use Rattle.history.proofs.Lately.{lane_law}
use Rattle.history.proofs.Sharing.{shared_law}
use Rattle.history.proofs.Slips.{slip_law, honoured_law}
use Rattle.history.proofs.Telling.{tally_law}

pub bench_laws : (number : ℕ) (disk : List Block) (pool : List ℕ) → Start disk pool → BenchLaws number disk pool
bench_laws number disk pool start = record {
  crowded_law = crowded_law number disk pool start;
  taken_law = taken_law number disk pool start;
  shown_law = shown_law number disk pool start;
  slip_law = slip_law number disk pool start;
  honoured_law = honoured_law;
  lane_law = lane_law number disk pool;
  rule_law = rule_law number disk pool start;
  choice_law = choice_law;
  tally_law = tally_law number disk pool;
  refused_law = refused_law;
  looks_law = looks_law;
  shared_law = shared_law number disk pool start;
}
