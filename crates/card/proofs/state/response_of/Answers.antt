use mathlib.Core.Path.{◌≡◌}
use native.Mathlib.Omega.{arith}
use lib.ListN.{length, take, length-take}
use Rattle.rules.specs.State.{response_size}
use Rattle.card.proofs.state.response_of.Goals as goal

pub returns : goal.returns
returns c = let s = c.args.waiting.now in
    let n : c.min-n.result ≡ length (take response_size s) = omega (arith, c.min-n.ensures, length-take response_size s) in
    rw (c.filled_response-bytes.ensures, n)
