use mathlib.Core.Path.{sym, ◌∙◌}
use Rattle.digits.specs.Digits.{decimal}
use Rattle.texts.proofs.Drawing.{field-as, rights-more, rights-end}
use Rattle.texts.proofs.text.put_rights.Goals as goal

pub loop-right-preserved : goal.loop-right-preserved
loop-right-preserved c =
    let l = c.loop-right in
    (c.number_field-q.auto.out ∙ l.invariant.0, rights-more c.args.rights.now l.right-index _ _ c.loop-right-test.true (field-as decimal _ _ _ _ _ c.number_field-q.ensures c.from.ensures) ∙ l.invariant.1)

pub returns : goal.returns
returns c = let l = c.loop-right in sym (rights-end c.args.rights.now l.right-index _ c.loop-right-test.false) ∙ l.invariant.1
