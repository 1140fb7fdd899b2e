use Rattle.std.proofs.Common.{arith}
use Rattle.std.proofs.lemmas.Grind.{common_steps}
use Rattle.cipher.specs.Call.{outcome, output}
use Rattle.cipher.proofs.encipher.Goals as goal

pub returns-then-key-ne16 : goal.returns-then-key-ne16
unfolding outcome output
returns-then-key-ne16 c = grind (arith, common_steps)

pub returns : goal.returns
unfolding outcome output
returns c = grind (arith, common_steps)
