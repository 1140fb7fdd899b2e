use mathlib.Core.Path.{◌≡◌}
use mathlib.Core.Bool.{◌&&◌}
use lib.ListN.{drop}
use Rattle.lines.specs.Grammar.{lacks}
use Rattle.lines.proofs.fields.lacks.Given as goal

abbrev pub invariant-loop-x : goal.invariant-loop-x
invariant-loop-x l = (l.good && lacks l.b (drop l.x-index l.s)) ≡ lacks l.b l.s
