use Rattle.texts.proofs.Scanning.{pairs-goes, pairs-ends}
use Rattle.texts.proofs.scan.pairs_in.Goals as goal

pub loop-i-preserved : goal.loop-i-preserved
loop-i-preserved c = let l = c.loop-i in pairs-goes c.args.n c.args.s.now c.args.out.now l.out c.args.to l.i l.invariant _ c.loop-i-test.true c.hex_byte.ensures

pub returns : goal.returns
returns c = let l = c.loop-i in pairs-ends c.args.n c.args.s.now c.args.out.now l.out c.args.to l.i l.invariant c.loop-i-test.false
