use Rattle.std.proofs.Common.{sym, ◌∙◌}
use Rattle.files.proofs.Walks.{comes-on, comes-bad, comes-end}
use Rattle.files.proofs.walk.parts_from.Goals as goal

pub returns-then-not-good_length : goal.returns-then-not-good_length
returns-then-not-good_length c = let a = c.args in
    let l = c.loop-at in
    sym (comes-bad a.used a.bytes.now l.at c.from-n.result l.invariant c.loop-at-test.true c.from-n.ensures (sym c.good_length.ensures ∙ c.if-not-good_length.true))

pub loop-at-preserved : goal.loop-at-preserved
loop-at-preserved c = let a = c.args in
    let l = c.loop-at in
    comes-on a.used a.bytes.now l.at c.from-n.result l.invariant c.loop-at-test.true c.from-n.ensures (sym c.good_length.ensures ∙ c.if-not-good_length.false)

pub returns : goal.returns
returns c = comes-end c.args.used c.args.bytes.now c.loop-at.at c.loop-at.invariant c.loop-at-test.false
