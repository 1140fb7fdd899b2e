use mathlib.Core.Path.{◌∙◌}
use Rattle.codes.specs.Chaining.{link}
use Rattle.codes.proofs.linked.Goals as goal

pub returns : goal.returns
unfolding link
returns c = c.aes128.ensures ∙ rw c.sum.ensures
