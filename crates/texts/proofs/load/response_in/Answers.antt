use mathlib.Core.Path.{ap, ◌∙◌}
use Rattle.texts.specs.Reading.{small}
use Rattle.rules.specs.State.{response_size}
use Rattle.texts.proofs.Loading.{hex-part, response-is}
use native.Mathlib.Omega.{arith}
use Rattle.texts.proofs.load.response_in.Goals as goal

pub slice_bounds-waiting-end : goal.slice_bounds-waiting-end
slice_bounds-waiting-end c = omega (arith, c.hex_in-n.ensures.few)

pub slice_bounds-response_of-end : goal.slice_bounds-response_of-end
slice_bounds-response_of-end c = hex-part response_size _ _ _ c.hex_in-n.ensures

pub returns : goal.returns
returns c = response-is c.args.s.now _ _ _ _ _ (c.small_in-mode.ensures ∙ ap small c.fields.ensures) c.fields-2.ensures c.hex_in-n.ensures c.response_of.ensures
