use mathlib.Core.Path.{refl, ap, ◌∙◌}
use Rattle.texts.specs.Reading.{home_in}
use Rattle.texts.proofs.Loading.{session-is}
use native.Mathlib.Omega.{arith}
use Rattle.texts.proofs.load.session_in.Goals as goal

pub overflow_cast-result : goal.overflow_cast-result
overflow_cast-result c = omega (arith, c.hex_in-n.ensures.few)

pub returns : goal.returns
returns c = session-is c.args.d c.args.s.now _ _ _ _ _ c.rights_in-rights.ensures (c.home_in-home.ensures ∙ ap (home_in c.args.d) c.fields.ensures) (c.current_in-current.ensures ∙ rw c.fields-2.ensures) (rw (← c.fields-3.ensures) c.hex_in-n.ensures) _ refl
