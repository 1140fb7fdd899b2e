use mathlib.Core.Path.{◌∙◌}
use native.Mathlib.Omega.{arith}
use Rattle.card.proofs.Filling.{filled-front}
use Rattle.limpetnook.proofs.board.block_of.Goals as goal

pub returns : goal.returns
returns c = c.show.ensures.left_is ∙ filled-front 16 _ c.args.bytes.now (omega (arith, c.min-n.ensures))
