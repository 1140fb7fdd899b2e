use Prim.Native.Nat.{◌-◌}
use mathlib.Core.Path.{◌≡◌}
use Rattle.lines.specs.Grammar.{field}
use Rattle.lines.proofs.fields.field.Given as goal

abbrev pub invariant-loop : goal.invariant-loop
invariant-loop l = field (l.n - l.counter) l.rest ≡ field l.n l.line
