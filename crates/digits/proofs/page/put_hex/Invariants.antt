use mathlib.Core.Path.{◌≡◌}
use lib.ListN.{drop}
use Rattle.digits.specs.Digits.{hex_of}
use Rattle.digits.specs.Page.{page, draw}
use Rattle.digits.proofs.page.put_hex.Given as goal

abbrev pub invariant-loop-b : goal.invariant-loop-b
invariant-loop-b l = draw (hex_of (drop l.b-index l.bytes)) (page l.out l.q) ≡ draw (hex_of l.bytes) (page l.initial.out l.at)
