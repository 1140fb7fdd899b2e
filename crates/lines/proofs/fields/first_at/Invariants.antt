use Rattle.lines.specs.Grammar.{Past}
use Rattle.lines.proofs.fields.first_at.Given as goal

abbrev pub invariant-loop-i : goal.invariant-loop-i
invariant-loop-i l = Past l.b l.s l.i
