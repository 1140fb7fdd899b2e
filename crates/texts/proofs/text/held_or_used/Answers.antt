use mathlib.Core.Path.{◌∙◌}
use borrow.Author.Tests.{eq-eqb, ne_eqb}
use Rattle.texts.specs.Text.{held_or_used}
use native.Mathlib.Omega.{arith}
use Rattle.texts.proofs.text.held_or_used.Goals as goal

pub overflow_cast-result : goal.overflow_cast-result
overflow_cast-result c = omega (arith, c.bytes_used.ensures.low)

pub returns-then-f-eq-VARIABLE : goal.returns-then-f-eq-VARIABLE
unfolding held_or_used
returns-then-f-eq-VARIABLE c = c.bytes_used.ensures.is ∙ rw (eq-eqb _ _ c.if-f-eq-VARIABLE.true)

pub returns : goal.returns
unfolding held_or_used
returns c = c.from.ensures ∙ rw (ne_eqb _ _ c.if-f-eq-VARIABLE.false)
