use mathlib.Core.Path.{ap, ◌∙◌}
use Rattle.card.specs.Head.{command_of}
use Rattle.card.proofs.Outcomes.{authenticate-checked}
use Rattle.card.specs.Checks.{checked}
use Rattle.stores.proofs.call.check_authenticate.Goals as goal

pub returns : goal.returns
returns c = let a = c.args in
    c.check_authenticate.ensures ∙ rw c.tries_at.ensures (ap checked (authenticate-checked a.card (command_of a.h a.given.now)))
