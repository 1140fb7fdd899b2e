use Rattle.texts.proofs.Scanning.{number-start, number-goes, number-stops, number-ends}
use native.Mathlib.Omega.{arith}
use Rattle.texts.proofs.scan.number_in.Goals as goal

pub loop-b-init : goal.loop-b-init
loop-b-init c = (omega arith, number-start c.args.s.now)

pub returns-then-v-ge10 : goal.returns-then-v-ge10
returns-then-v-ge10 c = let l = c.loop-b in number-stops c.args.s.now l.n l.b-index _ l.invariant.1 c.loop-b-test.true c.value-v.ensures.is c.if-v-ge10.true

pub loop-b-preserved : goal.loop-b-preserved
loop-b-preserved c = let l = c.loop-b in (omega arith, number-goes c.args.s.now l.n l.b-index _ _ l.invariant.1 c.loop-b-test.true c.value-v.ensures.is c.if-v-ge10.false (rw c.from.ensures))

pub returns : goal.returns
returns c = let l = c.loop-b in number-ends c.args.s.now l.n l.b-index l.invariant.1 c.loop-b-test.false
