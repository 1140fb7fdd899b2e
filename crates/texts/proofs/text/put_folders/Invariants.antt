use mathlib.Core.Path.{◌≡◌}
use lib.ListN.{length, drop}
use Rattle.texts.specs.Text.{folder_lines}
use Rattle.digits.specs.Page.{page, draw}
use Rattle.texts.proofs.text.put_folders.Given as goal

abbrev pub invariant-loop-x : goal.invariant-loop-x
invariant-loop-x l = (length l.out ≡ length l.initial.out) × (draw (folder_lines (drop l.x-index l.x-items)) (page l.out l.q) ≡ draw (folder_lines l.x-items) (page l.initial.out l.at))
