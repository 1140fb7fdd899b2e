use Rattle.texts.proofs.Scanning.{contents-start, row_inside, contents-goes, contents-rest, contents-image}
use native.Mathlib.Omega.{arith}
use Rattle.texts.proofs.load.contents_in.Goals as goal

pub loop-i-init : goal.loop-i-init
loop-i-init c = contents-start c.args.n c.args.s.now c.args.image.now c.args.to c.requires.0

pub pairs_in-requires : goal.pairs_in-requires
pairs_in-requires c = let l = c.loop-i in (omega (arith, row_inside c.args.n c.args.s.now c.args.image.now l.image c.args.to l.rest.now l.i l.invariant c.min-m.result c.loop-i-test.true (omega (arith, c.min-m.ensures))), omega (arith, c.min-m.ensures, c.loop-i-test.true, c.requires.1, l.invariant.size))

pub loop-i-preserved : goal.loop-i-preserved
loop-i-preserved c = let l = c.loop-i in contents-goes c.args.n c.args.s.now c.args.image.now l.image c.args.to l.rest.now l.i l.invariant c.min-m.result _ _ c.loop-i-test.true (omega (arith, c.min-m.ensures)) c.pairs_in.ensures c.past-rest.ensures

pub returns-clause-rest : goal.returns-clause-rest
returns-clause-rest c = let l = c.loop-i in contents-rest c.args.n c.args.s.now c.args.image.now l.image c.args.to l.rest.now l.i l.invariant c.loop-i-test.false

pub returns-clause-image : goal.returns-clause-image
returns-clause-image c = let l = c.loop-i in contents-image c.args.n c.args.s.now c.args.image.now l.image c.args.to l.rest.now l.i l.invariant c.loop-i-test.false
