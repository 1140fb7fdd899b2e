use Prim.Native.Nat.{◌<◌}
use mathlib.Core.Path.{◌≡◌}
use lib.ListN.{drop}
use Rattle.texts.specs.Reading.{number_from, number}
use Rattle.texts.proofs.scan.number_in.Given as goal

abbrev pub invariant-loop-b : goal.invariant-loop-b
invariant-loop-b l = (l.n < 65536) × (number_from l.n (drop l.b-index l.s) ≡ number l.s)
