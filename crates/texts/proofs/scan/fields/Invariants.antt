use Prim.Native.Nat.{◌-◌}
use mathlib.Core.Path.{◌≡◌}
use Rattle.texts.specs.Reading.{skips}
use Rattle.texts.proofs.scan.fields.Given as goal

abbrev pub invariant-loop : goal.invariant-loop
invariant-loop l = skips (l.k - l.counter) l.rest ≡ skips l.k l.s
