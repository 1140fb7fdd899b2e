use Rattle.card.proofs.Bytewise.{GatheredTo}
use Rattle.card.proofs.pins.same.Given as goal

abbrev pub invariant-loop-i : goal.invariant-loop-i
invariant-loop-i l = GatheredTo l.held l.value l.given l.differ l.i
