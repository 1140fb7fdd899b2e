use mathlib.Core.Path.{◌≡◌}
use mathlib.Core.Bool.{◌&&◌}
use lib.ListN.{drop}
use Rattle.rules.specs.Words.{all_of}
use Rattle.lines.specs.Grammar.{digit_to}
use Rattle.lines.proofs.numerals.all_digits.Given as goal

abbrev pub invariant-loop-b : goal.invariant-loop-b
invariant-loop-b l = (l.good && all_of (digit_to l.base) (drop l.b-index l.s)) ≡ all_of (digit_to l.base) l.s
