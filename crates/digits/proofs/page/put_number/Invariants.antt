use Prim.Native.Nat.{suc, ◌+◌, ◌^◌, ◌<◌}
use mathlib.Core.Path.{◌≡◌}
use mathlib.Core.List.{◌++◌}
use lib.ListN.{length, drop}
use Rattle.digits.specs.Digits.{digits_in, decimal}
use Rattle.digits.proofs.page.put_number.Given as goal

abbrev pub invariant-loop-tens : goal.invariant-loop-tens
invariant-loop-tens l = (l.from < 10) × (length l.digits ≡ 10) × (l.tens < 10 ^ suc l.from) × (digits_in l.from l.tens ++ drop (l.from + 1) l.digits ≡ decimal l.n)

abbrev pub decreases-loop-tens : goal.decreases-loop-tens
decreases-loop-tens l = l.tens
