use mathlib.Core.Path.{ap, ◌∙◌}
use Rattle.card.specs.Head.{command_of}
use Rattle.card.proofs.Outcomes.{reload-checked}
use Rattle.card.specs.Checks.{checked}
use Rattle.stores.proofs.call.check_reload.Goals as goal

pub returns : goal.returns
returns c = let a = c.args in
    c.check_reload.ensures ∙ rw c.held_at.ensures (ap checked (reload-checked a.card (command_of a.h a.given.now)))
