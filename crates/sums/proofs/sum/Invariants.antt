-- So far the alarms passed are summed.
use Rattle.std.proofs.Common.{◌≡◌, take}
use Rattle.sums.specs.Kept.{sum_of}
use Rattle.sums.proofs.sum.Given as goal

abbrev pub invariant-loop-a : goal.invariant-loop-a
invariant-loop-a l = l.totals ≡ sum_of l.fn.t (take l.a-index l.alarms)
