use mathlib.Core.Path.{◌≡◌}
use mathlib.Core.Bool.{true}
use Prim.Native.Nat.{◌≤◌, ◌-◌}
use Rattle.files.specs.Types.{good_length}
use Rattle.files.specs.Walk.{Comes}
use Rattle.files.proofs.walk.parts.Given as goal

abbrev pub invariant-loop-at : goal.invariant-loop-at
invariant-loop-at l = (l.turns ≤ 32) × (good_length l.last ≡ true) × Comes l.used l.bytes l.at

abbrev pub decreases-loop-at : goal.decreases-loop-at
decreases-loop-at l = l.used - l.at
