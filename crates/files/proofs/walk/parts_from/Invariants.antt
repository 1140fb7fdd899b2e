use Prim.Native.Nat.{◌-◌}
use Rattle.files.specs.Walk.{Comes}
use Rattle.files.proofs.walk.parts_from.Given as goal

abbrev pub invariant-loop-at : goal.invariant-loop-at
invariant-loop-at l = Comes l.used l.bytes l.at

abbrev pub decreases-loop-at : goal.decreases-loop-at
decreases-loop-at l = l.used - l.at
