-- The order of read requests: by deadline, then head, then block.
use Rattle.std.specs.Prelude.{ℕ, List, [], ◌∷◌}
use Rattle.queue.specs.declared.request.ReadRequest.{ReadRequest}

abbrev pub request_keys : ReadRequest → List ℕ
request_keys r = r.deadline ∷ r.head ∷ r.block ∷ []
