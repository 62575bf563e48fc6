use Rattle.std.proofs.Common.{◌≡◌, ℕ, ◌≤◌, List, length, nat_lt, if◌then◌else◌, sym, ◌∙◌, arith, rules}
use Rattle.std.proofs.lemmas.Bool.{cond-false, le-ltb}
use Rattle.loglines.specs.Memory.{put}
use Rattle.loglines.specs.Text.{log_line}
use Rattle.loglines.proofs.Memory.{wrote_then}
use Rattle.loglines.proofs.LogLine.write.Goals as goal

long_enough : (n k m bs : List ℕ) → n ≡ k → k ≡ put m 0 bs → 64 ≤ length m → n ≡ (if nat_lt (length m) 64 then m else put m 0 bs)
long_enough n k m bs e p h = e ∙ p ∙ sym (cond-false _ _ _ (le-ltb (length m) 64 h))

pub returns-clause-memory : goal.returns-clause-memory
returns-clause-memory c =
    let whole = wrote_then (omega arith) c.write_text.ensures.wrote c.byte.ensures.wrote in
    long_enough _ c.byte.new.self.out.now c.args.out.now (log_line c.args.self.now) (search rules) whole.memory c.if-out-lt-ROOM.false
