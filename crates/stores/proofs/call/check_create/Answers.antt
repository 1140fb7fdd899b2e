use mathlib.Core.Path.{ap, refl, ◌∙◌}
use Rattle.card.specs.Head.{command_of}
use Rattle.card.proofs.Serving.{created-parts}
use Rattle.card.specs.Checks.{checked}
use Rattle.stores.proofs.call.check_create.Goals as goal

pub returns : goal.returns
returns c = let a = c.args in
    c.check_create.ensures ∙ ap checked (created-parts a.card a.card.session a.card.directory (command_of a.h a.given.now) refl refl)
