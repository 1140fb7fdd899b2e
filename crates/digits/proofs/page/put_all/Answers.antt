use mathlib.Core.Path.{sym, ◌∙◌}
use Rattle.digits.proofs.Drawn.{all_more, all_end}
use Rattle.digits.proofs.page.put_all.Goals as goal

pub loop-b-preserved : goal.loop-b-preserved
loop-b-preserved c = all_more c.args.text.now c.loop-b.b-index _ _ c.loop-b-test.true c.put-q.ensures ∙ c.loop-b.invariant

pub returns : goal.returns
returns c = sym (all_end c.args.text.now c.loop-b.b-index _ c.loop-b-test.false) ∙ c.loop-b.invariant
