use mathlib.Core.Path.{refl}
use Rattle.cipher.specs.Circuit.{norming}
use Rattle.cipher.proofs.circuit.norm_of.Goals as goal

pub returns : goal.returns
unfolding norming
returns c = refl
