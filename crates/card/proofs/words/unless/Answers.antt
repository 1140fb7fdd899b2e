use borrow.Author.Tests.{ne_eqb}
use Rattle.card.specs.Checks.{checked}
use Rattle.card.proofs.words.unless.Goals as goal

pub returns-then-test : goal.returns-then-test
unfolding checked
returns-then-test c = rw c.if-test.true

pub returns-else-test : goal.returns-else-test
unfolding checked
returns-else-test c = rw (c.if-test.false, ne_eqb _ _ c.requires)
