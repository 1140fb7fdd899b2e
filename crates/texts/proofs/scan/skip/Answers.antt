use Prim.Native.Nat.{◌+◌}
use mathlib.Core.Path.{◌∙◌}
use Rattle.texts.proofs.Scanning.{from_is, skip-stops, skip-goes, skip-ends}
use Rattle.texts.proofs.scan.skip.Goals as goal

pub returns-then-ends : goal.returns-then-ends
returns-then-ends c = let s = c.args.s.now in let l = c.loop-i in from_is s (l.i + 1) ∙ skip-stops s l.i _ _ c.loop-i-test.true c.ends.ensures c.if-ends.true l.invariant

pub loop-i-preserved : goal.loop-i-preserved
loop-i-preserved c = let l = c.loop-i in skip-goes c.args.s.now l.i _ _ c.loop-i-test.true c.ends.ensures c.if-ends.false l.invariant

pub returns : goal.returns
returns c = let l = c.loop-i in skip-ends c.args.s.now l.i _ c.loop-i-test.false l.invariant
