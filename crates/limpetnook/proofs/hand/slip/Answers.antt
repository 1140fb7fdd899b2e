use mathlib.Core.Path.{ap, ◌∙◌}
use Rattle.limpetnook.specs.Place.{slip_from, slip_of}
use Rattle.limpetnook.proofs.hand.slip.Goals as goal

pub returns : goal.returns
unfolding slip_of
returns c = c.from.ensures ∙ ap slip_from c.store.ensures
