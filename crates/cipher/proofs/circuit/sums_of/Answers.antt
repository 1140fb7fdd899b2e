use mathlib.Core.Path.{refl}
use Rattle.cipher.specs.Circuit.{summing}
use Rattle.cipher.proofs.circuit.sums_of.Goals as goal

pub returns : goal.returns
unfolding summing
returns c = refl
