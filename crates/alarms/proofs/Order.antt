-- The table does not depend on the order of the alarms.
-- Assumes nothing.
use Prim.Native.Nat.{ℕ}
use mathlib.Core.List.{List, ◌++◌}
use mathlib.Core.Path.{ap}
use Rattle.sums.specs.Totals.{one, minutes_of}
use Rattle.alarms.specs.Report.{header, table}
use Rattle.sums.proofs.Adding.{tally-reordered}
use Rattle.alarms.specs.Says.{TableReordered}
use Rattle.alarms.proofs.Rows.{rows_same}

pub table-reordered : TableReordered
unfolding table
table-reordered xs ys r = ap (λ (l : List ℕ). header ++ l) (rows_same _ _ _ _ 192 (λ i h. (tally-reordered one i xs ys r, tally-reordered minutes_of i xs ys r)))
