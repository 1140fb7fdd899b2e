use mathlib.Core.Path.{refl}
use Rattle.cipher.specs.Circuit.{inverting}
use Rattle.cipher.proofs.circuit.inverse_of.Goals as goal

pub returns : goal.returns
unfolding inverting
returns c = refl
