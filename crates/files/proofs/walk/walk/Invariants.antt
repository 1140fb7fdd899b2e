use mathlib.Core.Path.{◌≡◌}
use mathlib.Core.Bool.{true}
use Prim.Native.Nat.{ℕ, ◌-◌, ◌≤◌}
use Rattle.files.specs.Types.{good_length}
use Rattle.files.specs.Walk.{walk}
use Rattle.files.proofs.walk.walk.Given as goal

-- a step is 0, or takes a good length and its byte
abbrev pub Good : ℕ → Type 0
Good step = (step ≡ 0 → ⊥) → good_length (step - 1) ≡ true

abbrev pub invariant-loop-i : goal.invariant-loop-i
invariant-loop-i l = (l.at ≡ walk l.used l.bytes l.i) × (l.turns ≤ 32) × Good l.step
