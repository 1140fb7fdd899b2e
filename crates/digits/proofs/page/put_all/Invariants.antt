use mathlib.Core.Path.{◌≡◌}
use lib.ListN.{drop}
use Rattle.digits.specs.Page.{page, draw}
use Rattle.digits.proofs.page.put_all.Given as goal

abbrev pub invariant-loop-b : goal.invariant-loop-b
invariant-loop-b l = draw (drop l.b-index l.text) (page l.out l.q) ≡ draw l.text (page l.initial.out l.at)
