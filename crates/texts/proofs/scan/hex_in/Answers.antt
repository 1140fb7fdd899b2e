use mathlib.Core.Path.{◌∙◌}
use lib.Seq.{set-get_or}
use Rattle.texts.proofs.Scanning.{hex-stops, hex-goes, hex-ends}
use Rattle.texts.proofs.scan.hex_in.Goals as goal

pub returns-then-value-ge16 : goal.returns-then-value-ge16
returns-then-value-ge16 c = let l = c.loop-i in rw (set-get_or l.out l.i 0) (hex-stops c.args.s.now c.args.out.now l.out l.rest.now l.i l.invariant _ (c.value.ensures.is ∙ rw c.byte_at.ensures) c.if-value-ge16.true)

pub loop-i-preserved : goal.loop-i-preserved
loop-i-preserved c = let l = c.loop-i in hex-goes c.args.s.now c.args.out.now l.out l.rest.now l.i l.invariant _ _ _ (rw l.invariant.size c.loop-i-test.true) (c.value.ensures.is ∙ rw c.byte_at.ensures) c.if-value-ge16.false c.pair.ensures c.past-rest.ensures

pub returns : goal.returns
returns c = let l = c.loop-i in hex-ends c.args.s.now c.args.out.now l.out l.rest.now l.i l.invariant (rw l.invariant.size c.loop-i-test.false)
