use Rattle.cipher.proofs.Halves.{more-mixed, last-mixed}
use Rattle.cipher.proofs.mixed_but_last.Goals as goal

pub returns-then-n-ne9 : goal.returns-then-n-ne9
returns-then-n-ne9 c = let lo = c in
    let args = lo.args in
    more-mixed args.s.lo args.s.hi lo.if-n-ne9.true lo.mixed-lo.ensures c.mixed-hi.ensures

pub returns-else-n-ne9 : goal.returns-else-n-ne9
returns-else-n-ne9 c = last-mixed c.args.s.lo c.args.s.hi c.if-n-ne9.false
