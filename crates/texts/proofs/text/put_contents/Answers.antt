use mathlib.Core.Path.{sym, ◌∙◌}
use Rattle.texts.proofs.Drawing.{rows-more, rows-end}
use Rattle.texts.proofs.text.put_contents.Goals as goal

pub loop-row-preserved : goal.loop-row-preserved
loop-row-preserved c =
    let l = c.loop-row in
    let s = c.in-Some.ensures.steps in
    (s.0 ∙ l.invariant.0, c.put_row-q.auto.out ∙ l.invariant.1, rows-more l.row-iterator.rest.now c.in-Some.row.now _ _ _ s.1.0 (rw l.invariant.0 at s.1.1) s.1.2 c.put_row-q.ensures ∙ l.invariant.2)

pub returns : goal.returns
returns c = let l = c.loop-row in sym (rows-end l.row-iterator.rest.now _ c.in-None.ensures.steps.1.0) ∙ l.invariant.2
