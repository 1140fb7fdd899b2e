use mathlib.Core.Path.{◌≡◌}
use lib.ListN.{drop}
use Prim.Native.Nat.{◌+◌, ◌≤◌}
use Rattle.lines.specs.Grammar.{tabs}
use Rattle.lines.proofs.fields.tabs.Given as goal

abbrev pub invariant-loop-b : goal.invariant-loop-b
invariant-loop-b l = (l.n ≤ l.b-index) × (tabs (drop l.b-index l.s) + l.n ≡ tabs l.s)
