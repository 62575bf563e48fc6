-- The keys of a read request tell requests apart.
use Rattle.std.specs.Prelude.{◌≡◌}
use Rattle.queue.specs.Requests.{request_keys}
use Rattle.queue.specs.declared.request.ReadRequest.{ReadRequest}

pub same_request : (x y : ReadRequest) → request_keys x ≡ request_keys y → x ≡ y
same_request x y e =
    let d : x.deadline ≡ y.deadline = cc in
    let h : x.head ≡ y.head = cc in
    let b : x.block ≡ y.block = cc in
    λ i. record { deadline = d i; head = h i; block = b i }
