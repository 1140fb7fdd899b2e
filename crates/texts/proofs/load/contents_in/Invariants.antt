use Prim.Native.Nat.{◌-◌}
use Rattle.texts.proofs.Scanning.{ContentsInv}
use Rattle.texts.proofs.load.contents_in.Given as goal

abbrev pub invariant-loop-i : goal.invariant-loop-i
invariant-loop-i l = ContentsInv l.n l.s l.initial.image l.image l.to l.rest l.i

abbrev pub decreases-loop-i : goal.decreases-loop-i
decreases-loop-i l = l.n - l.i
