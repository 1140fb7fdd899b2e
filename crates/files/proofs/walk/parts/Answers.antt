use Rattle.std.proofs.Common.{refl, sym, ap, ◌∙◌, arith}
use Rattle.files.specs.Types.{good_length}
use Rattle.files.specs.Walk.{parted}
use Rattle.files.proofs.Walks.{comes-none, comes-on, comes-bad, comes-end}
use Rattle.files.proofs.walk.parts.Goals as goal

pub returns-then-bytes-used : goal.returns-then-bytes-used
unfolding parted
returns-then-bytes-used c = rw c.walk.ensures

pub loop-at-init : goal.loop-at-init
loop-at-init c = (omega arith, refl, comes-none c.args.used c.args.bytes.now)

pub past_alike-at-requires : goal.past_alike-at-requires
past_alike-at-requires c = let v = c.loop-at.invariant in (c.loop-at-test.true, c.if-bytes-used.false, refl, ap good_length c.if-n-last.true ∙ v.1, v.2)

pub returns-then-not-good_length : goal.returns-then-not-good_length
returns-then-not-good_length c = let a = c.args in
    let l = c.loop-at in
    sym (comes-bad a.used a.bytes.now l.at c.from.result l.invariant.2 c.loop-at-test.true c.from.ensures (sym c.good_length.ensures ∙ c.if-not-good_length.true))

pub loop-at-preserved : goal.loop-at-preserved
loop-at-preserved c = let a = c.args in
    let l = c.loop-at in
    let g = ap good_length (sym c.from.ensures) ∙ sym c.good_length.ensures ∙ c.if-not-good_length.false in
    let n = c.from-else-n-last in
    (omega (arith, l.invariant.0, c.if-turns-eq-MOST_TURNS.false), g, comes-on a.used a.bytes.now l.at n.result l.invariant.2 c.loop-at-test.true n.ensures (ap good_length n.ensures ∙ g))

pub returns : goal.returns
returns c = comes-end c.args.used c.args.bytes.now c.loop-at.at c.loop-at.invariant.2 c.loop-at-test.false
