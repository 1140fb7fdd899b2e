use mathlib.Core.Path.{◌≡◌}
use Prim.Native.Nat.{◌≤◌, ◌*◌}
use Rattle.files.specs.Directory.{start_at}
use Rattle.files.proofs.places.start_at.Given as goal

abbrev pub invariant-loop-f : goal.invariant-loop-f
invariant-loop-f l = (l.sum ≤ l.f-index * 65535) × (l.sum ≡ start_at l.fn.d.files l.f-index)
