use mathlib.Core.Path.{◌≡◌}
use lib.ListN.{length, drop}
use Rattle.digits.specs.Page.{page, draw}
use Rattle.texts.proofs.Drawing.{right_fields}
use Rattle.texts.proofs.text.put_rights.Given as goal

abbrev pub invariant-loop-right : goal.invariant-loop-right
invariant-loop-right l = (length l.out ≡ length l.initial.out) × (draw (right_fields (drop l.right-index l.rights)) (page l.out l.q) ≡ draw (right_fields l.rights) (page l.initial.out l.at))
