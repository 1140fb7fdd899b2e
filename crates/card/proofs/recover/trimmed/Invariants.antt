use mathlib.Core.Path.{◌≡◌}
use Rattle.power.specs.Recovery.{trim}
use Rattle.card.proofs.recover.trimmed.Given as goal

abbrev pub invariant-loop-i : goal.invariant-loop-i
invariant-loop-i g l = trim l.blank l.next l.i ≡ trim l.blank l.initial.next l.initial.i
