use Prim.Native.Nat.{◌-◌, ◌≤◌}
use mathlib.Core.Path.{◌≡◌}
use lib.ListN.{length}
use Rattle.power.specs.Plan.{stores_of}
use Rattle.stores.specs.Runs.{laid}
use Rattle.stores.proofs.run.lay.Given as goal

abbrev pub invariant-loop-k : goal.invariant-loop-k
invariant-loop-k l = (l.k ≤ length (stores_of l.card l.area l.cmd) - l.first) × (l.out ≡ laid (stores_of l.card l.area l.cmd) l.first l.k l.initial.out)
