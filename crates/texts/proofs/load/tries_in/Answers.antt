use mathlib.Core.Path.{ap, ◌∙◌}
use Rattle.texts.specs.Reading.{small}
use Rattle.texts.proofs.Loading.{tries-are}
use Rattle.texts.proofs.load.tries_in.Goals as goal

pub returns : goal.returns
returns c = tries-are c.args.s.now _ _ c.small_in-limit.ensures (c.small_in-left.ensures ∙ ap small c.fields.ensures)
