use Rattle.texts.proofs.Scanning.{skips-goes}
use Rattle.texts.proofs.scan.fields.Goals as goal

pub loop-preserved : goal.loop-preserved
loop-preserved c = let l = c.loop in skips-goes _ l.rest.now _ c.args.k l.counter c.loop-test.true c.skip-rest.ensures l.invariant
