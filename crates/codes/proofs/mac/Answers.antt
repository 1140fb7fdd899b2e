use native.Mathlib.Omega.{arith}
use Rattle.codes.proofs.Chaining.{no-link, next-link, all-linked}
use Rattle.codes.proofs.mac.Goals as goal

pub loop-i-init : goal.loop-i-init
loop-i-init c = no-link c.args.key c.args.start c.args.message.now

pub loop-i-preserved : goal.loop-i-preserved
loop-i-preserved c = let at = c.loop-i in
    let a = c.args in
    next-link a.key a.start a.message.now at.i (omega arith) at.invariant c.linked-next.ensures

pub returns : goal.returns
returns c = let at = c.loop-i in
    let a = c.args in
    all-linked a.key a.start a.message.now at.i (omega arith) at.invariant
