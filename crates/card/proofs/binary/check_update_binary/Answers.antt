use mathlib.Core.Path.{◌∙◌}
use Rattle.rules.specs.Binary.{update_binary_checks}
use Rattle.card.specs.Head.{command_of}
use Rattle.card.proofs.binary.check_update_binary.Goals as goal

pub returns : goal.returns
unfolding update_binary_checks
returns c = let a = c.args in
    let k = command_of a.h a.given.now in
    c.check_binary.ensures ∙ rw (c.file_of-f.ensures, c.binary_target-place.ensures, c.offset.ensures.is)
