use mathlib.Core.Path.{◌≡◌}
use native.Mathlib.Omega.{arith}
use lib.ListN.{length}
use borrow.Author.Rules.{rules}
use Rattle.card.proofs.Bytewise.{gathered, gathered_none, gathered-more, gathered-all}
use Rattle.card.proofs.pins.same.Goals as goal

pub loop-i-init : goal.loop-i-init
loop-i-init c = gathered_none c.min-held.result c.args.value c.args.given.now c.from-differ.result (search rules)

pub loop-i-preserved : goal.loop-i-preserved
loop-i-preserved c =
    let a = c.args in
    let l = c.loop-i in
    gathered-more c.min-held.result a.value a.given.now l.differ _ l.i (search rules) (search rules) l.invariant (gathered l.differ _ _)

pub returns : goal.returns
returns c =
    let a = c.args in
    let l = c.loop-i in
    let n : length a.value ≡ 16 = search rules in
    gathered-all a.value a.given.now a.len c.min-held.result l.i l.differ (omega (arith, n, c.from.ensures, c.min-held.ensures)) (omega (arith, n, c.min-n.ensures, c.loop-i-test.false)) l.invariant
