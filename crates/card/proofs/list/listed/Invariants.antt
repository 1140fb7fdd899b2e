use mathlib.Core.Path.{◌≡◌}
use lib.ListN.{drop}
use Rattle.rules.specs.List.{rows, find}
use Rattle.card.proofs.list.listed.Given as goal

abbrev pub invariant-loop-class : goal.invariant-loop-class
invariant-loop-class l = find rows l.cla l.ins ≡ find (drop l.class-index rows) l.cla l.ins
