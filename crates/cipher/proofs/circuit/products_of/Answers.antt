use mathlib.Core.Path.{refl}
use Rattle.cipher.specs.Circuit.{multiplying}
use Rattle.cipher.proofs.circuit.products_of.Goals as goal

pub returns : goal.returns
unfolding multiplying
returns c = refl
