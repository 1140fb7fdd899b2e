use borrow.Author.Rules.{rules}
use Rattle.card.proofs.Bytewise.{same_none, same_next, same-all}
use Rattle.card.proofs.words.same.Goals as goal

pub loop-i-init : goal.loop-i-init
loop-i-init c = same_none

pub loop-i-preserved : goal.loop-i-preserved
loop-i-preserved c = let l = c.loop-i in
    let a = c.args in
    same_next a.a.now a.b.now l.i l.good l.invariant _ c.loop-i-test.true (search rules) (search rules)

pub returns : goal.returns
returns c = let l = c.loop-i in
    let a = c.args in
    same-all a.a.now a.b.now l.i l.good l.invariant c.loop-i-test.false (search rules)
