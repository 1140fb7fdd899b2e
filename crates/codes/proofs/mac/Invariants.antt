use mathlib.Core.Path.{◌≡◌}
use Rattle.codes.specs.Padding.{padded}
use Rattle.codes.specs.Chaining.{chain, first_blocks}
use Rattle.codes.proofs.mac.Given as goal

abbrev pub invariant-loop-i : goal.invariant-loop-i
invariant-loop-i l = l.chain ≡ chain l.key l.initial.chain (first_blocks l.i (padded l.message))
