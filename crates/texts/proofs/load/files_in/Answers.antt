use Rattle.texts.specs.Forms.{is_new}
use Rattle.texts.proofs.Scanning.{files-begin, files-over, file-inside, files-goes, files-full}
use native.Mathlib.Omega.{arith}
use Rattle.texts.proofs.load.files_in.Goals as goal

pub loop-init : goal.loop-init
loop-init c = files-begin (is_new c.args.form) c.args.given c.args.s.now c.args.image.now c.requires.0 c.requires.1

pub overflow_sub-image : goal.overflow_sub-image
overflow_sub-image c = omega (arith, c.loop.invariant.room, c.loop.invariant.size)

pub goes_on-requires : goal.goes_on-requires
goes_on-requires c = c.size-n.ensures.low

pub returns-then-not-goes_on : goal.returns-then-not-goes_on
returns-then-not-goes_on c = let l = c.loop in files-over (is_new c.args.form) c.args.given c.args.s.now c.args.image.now l.image l.d l.rest.now l.to l.counter l.invariant _ _ _ c.loop-test.true c.housed_in-f.ensures c.size-n.ensures c.contents_part-lines.ensures _ c.goes_on.ensures c.if-not-goes_on.true

pub contents_in-rest-requires : goal.contents_in-rest-requires
contents_in-rest-requires c = let l = c.loop in file-inside (is_new c.args.form) c.args.given c.args.s.now c.args.image.now l.image l.d l.rest.now l.to l.counter l.invariant _ _ _ c.loop-test.true c.housed_in-f.ensures c.size-n.ensures c.contents_part-lines.ensures _ c.goes_on.ensures c.if-not-goes_on.false

pub overflow_add-to : goal.overflow_add-to
overflow_add-to c = omega (arith, c.size-n.ensures.low, c.loop.invariant.near, c.loop-test.true)

pub loop-preserved : goal.loop-preserved
loop-preserved c = let l = c.loop in files-goes (is_new c.args.form) c.args.given c.args.s.now c.args.image.now l.image l.d l.rest.now l.to l.counter l.invariant _ _ _ c.loop-test.true c.housed_in-f.ensures c.size-n.ensures c.contents_part-lines.ensures _ c.goes_on.ensures _ _ _ c.if-not-goes_on.false c.added-d.ensures c.contents_in-rest.ensures.rest c.contents_in-rest.ensures.image

pub returns : goal.returns
returns c = let l = c.loop in files-full (is_new c.args.form) c.args.given c.args.s.now c.args.image.now l.image l.d l.rest.now l.to l.counter l.invariant c.loop-test.false
