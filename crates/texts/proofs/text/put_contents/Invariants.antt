use mathlib.Core.Path.{◌≡◌}
use lib.ListN.{length}
use Rattle.texts.specs.Text.{contents}
use Rattle.digits.specs.Page.{page, draw}
use Rattle.texts.proofs.text.put_contents.Given as goal

abbrev pub invariant-loop-row : goal.invariant-loop-row
invariant-loop-row l = (l.row-iterator.size ≡ 32) × (length l.out ≡ length l.initial.out) × (draw (contents l.row-iterator.rest.now) (page l.out l.q) ≡ draw (contents l.bytes) (page l.initial.out l.at))
