use native.Mathlib.Omega.{arith}
use mathlib.Core.Path.{◌∙◌, sym}
use Rattle.card.proofs.Rows.{hit, miss, past}
use Rattle.rules.specs.List.{rows}
use Rattle.card.proofs.list.listed.Goals as goal

pub returns-then-class-cla : goal.returns-then-class-cla
unfolding rows
returns-then-class-cla c = let a = c.args in
    hit a.cla a.ins c.loop-class.class-index (omega arith) c.if-class-cla.true ∙ sym c.loop-class.invariant

pub loop-class-preserved : goal.loop-class-preserved
unfolding rows
loop-class-preserved c = let a = c.args in
    c.loop-class.invariant ∙ miss a.cla a.ins c.loop-class.class-index (omega arith) c.if-class-cla.false

pub returns : goal.returns
unfolding rows
returns c = let a = c.args in
    past a.cla a.ins c.loop-class.class-index (omega arith) ∙ sym c.loop-class.invariant
