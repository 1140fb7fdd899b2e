use mathlib.Core.Path.{refl}
use Rattle.cipher.specs.Circuit.{gathering}
use Rattle.cipher.proofs.circuit.outs_of.Goals as goal

pub returns : goal.returns
unfolding gathering
returns c = refl
