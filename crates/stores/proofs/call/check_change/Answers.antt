use mathlib.Core.Path.{ap, refl, ◌∙◌}
use Rattle.card.specs.Head.{command_of}
use Rattle.rules.specs.State.{number_of}
use Rattle.rules.specs.Pins.{pin_named}
use Rattle.card.proofs.Outcomes.{change-checked}
use Rattle.card.specs.Checks.{checked}
use Rattle.stores.proofs.call.check_change.Goals as goal

pub returns : goal.returns
returns c = let a = c.args in
    let k = command_of a.h a.given.now in
    c.check_change.ensures ∙ rw (c.held_at.ensures, c.pin_named.ensures.is) (ap checked (change-checked a.card k (number_of (pin_named k)) refl))
