use mathlib.Core.Path.{refl, sym, ◌∙◌}
use Rattle.lines.specs.Grammar.{digit_to}
use Rattle.card.proofs.Passing.{pass-more, pass-end}
use Rattle.lines.proofs.numerals.all_digits.Goals as goal

pub loop-b-init : goal.loop-b-init
loop-b-init c = refl

pub loop-b-preserved : goal.loop-b-preserved
loop-b-preserved c = rw c.value.ensures.is (pass-more (digit_to c.args.base) c.args.s.now c.loop-b.good c.loop-b.b-index c.loop-b-test.true ∙ c.loop-b.invariant)

pub returns : goal.returns
returns c = sym (pass-end (digit_to c.args.base) c.args.s.now c.loop-b.good c.loop-b.b-index c.loop-b-test.false) ∙ c.loop-b.invariant
