use mathlib.Core.Path.{refl, ap, ◌∙◌}
use Rattle.texts.specs.Reading.{tries_in}
use Rattle.texts.proofs.Loading.{credential-is}
use native.Mathlib.Omega.{arith}
use Rattle.texts.proofs.load.credential_in.Goals as goal

pub overflow_cast-result : goal.overflow_cast-result
overflow_cast-result c = omega (arith, c.hex_in-n.ensures.few)

pub returns : goal.returns
returns c = credential-is c.args.s.now _ _ _ (c.tries_in-tries.ensures ∙ ap tries_in c.fields.ensures) c.hex_in-n.ensures _ refl
