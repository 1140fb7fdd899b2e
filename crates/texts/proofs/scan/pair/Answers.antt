use mathlib.Core.Path.{◌∙◌}
use Rattle.texts.specs.Reading.{pair}
use Rattle.texts.proofs.scan.pair.Goals as goal

pub returns : goal.returns
unfolding pair
returns c = c.hex_byte.ensures ∙ rw (c.byte_at.ensures, c.byte_at-2.ensures)
