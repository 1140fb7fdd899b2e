use mathlib.Core.Path.{◌≡◌}
use Prim.Native.Nat.{◌≤◌}
use lib.ListN.{drop}
use Rattle.lines.specs.Grammar.{number_from, number_of}
use Rattle.lines.proofs.numerals.number_of.Given as goal

abbrev pub invariant-loop-b : goal.invariant-loop-b
invariant-loop-b l = (l.n ≤ 65535) × (number_from l.n (drop l.b-index l.s) ≡ number_of l.s)
