use Prim.Native.Nat.{ℕ, ◌-◌}
use mathlib.Core.Path.{ap, ◌∙◌}
use native.Mathlib.Omega.{arith}
use lib.ListN.{get_or}
use Rattle.stores.proofs.Changes.{record-length, record-byte}
use Rattle.stores.proofs.record_byte.Goals as goal

pub returns-then-i-n : goal.returns-then-i-n
returns-then-i-n c = let a = c.args in record-length a.f a.given.now a.i (omega (arith, c.if-i-n.true, c.lead-n.ensures.is))

pub returns : goal.returns
returns c = let a = c.args in
    let e = c.lead-n.ensures.is in ap (λ (m : ℕ). get_or a.given.now (a.i - m) 0) e ∙ record-byte a.f a.given.now a.i (omega (arith, c.if-i-n.false, e))
