use Rattle.std.proofs.Common.{false, get_or, arith, refl, sym, ap, ◌∙◌}
use lib.Seq.{take_all}
use Rattle.std.proofs.lemmas.Bool.Decides.{nat_tests}
use Rattle.sums.specs.Kept.{plus, sum_of, no_alarm, answer}
use Rattle.sums.proofs.Adding.{sum_more, list-taken, list-refused}
use Rattle.sums.proofs.sum.Goals as goal

pub loop-a-init : goal.loop-a-init
unfolding sum_of
loop-a-init c = refl

pub loop-a-preserved : goal.loop-a-preserved
loop-a-preserved c =
    let i = c.loop-a.a-index in
    let ys = c.args.alarms.now in
    c.add-totals.ensures ∙ ap (λ t. plus t (get_or ys i no_alarm)) c.loop-a.invariant ∙ sum_more c.args.t ys i no_alarm c.loop-a-test.true

pub returns-then-alarms-gt1000 : goal.returns-then-alarms-gt1000
returns-then-alarms-gt1000 c = rw (list-refused c.args.t c.args.alarms.now c.if-alarms-gt1000.true) (grind (arith, nat_tests))

pub returns : goal.returns
returns c =
    let ys = c.args.alarms.now in
    ap (λ t. answer t false) (c.loop-a.invariant ∙ ap (sum_of c.args.t) (take_all c.loop-a.a-index ys (omega arith)))
    ∙ sym (list-taken c.args.t ys c.if-alarms-gt1000.false)
