use mathlib.Core.Path.{sym, ◌∙◌}
use native.Mathlib.Omega.{arith}
use borrow.Author.Rules.{rules}
use Rattle.lines.proofs.Scanning.{past-none, block-passed}
use Rattle.lines.proofs.fields.blocks_past.Goals as goal

pub loop-i-init : goal.loop-i-init
loop-i-init c = past-none _ _

pub overflow_sub-s : goal.overflow_sub-s
overflow_sub-s c = c.loop-i.invariant.inside

pub returns-then-not-lacks : goal.returns-then-not-lacks
returns-then-not-lacks c = c.loop-i.invariant

pub loop-i-preserved : goal.loop-i-preserved
loop-i-preserved c = let l = c.loop-i in
    let a = c.args in
    block-passed a.b a.s.now l.i 16 l.invariant (omega (arith, c.loop-i-test.true, l.invariant.inside)) (sym c.lacks.ensures ∙ (search rules))

pub returns : goal.returns
returns c = c.loop-i.invariant
