use mathlib.Core.Path.{sym, ap, ◌∙◌}
use Rattle.sums.specs.declared.Summed.{Summed}
use Rattle.alarms.specs.Feed.{fed_one, put}
use borrow.Author.Tests.{eq-eqb, le-ltb}
use Rattle.alarms.proofs.Fed.{fed_more, fed_end}
use Rattle.std.proofs.Common.{arith}
use Rattle.std.proofs.lemmas.Bool.Decides.{nat_tests}
use Rattle.alarms.proofs.feeding.fed.Goals as goal
use Rattle.alarms.proofs.feeding.fed.Goals.{then-feed-ge1000, else-feed-ge1000}

pub loop-b-preserved-then-feed-ne-DONE : goal.loop-b-preserved-then-feed-ne-DONE
unfolding fed_one
loop-b-preserved-then-feed-ne-DONE c = fed_more c.loop-b.feed _ c.args.piece.now c.loop-b.b-index c.loop-b-test.true (grind (arith, nat_tests)) ∙ c.loop-b.invariant

pub loop-b-preserved : goal.loop-b-preserved
unfolding fed_one put
loop-b-preserved c =
    fed_more c.loop-b.feed _ c.args.piece.now c.loop-b.b-index c.loop-b-test.true
    (elim c.if-feed-ge1000.branch [
      | then-feed-ge1000 w ↦
          rw (c.alarm_of.ensures, w.feed-is, w.no_batch-feed.ensures, ap (λ (s : Summed). s.totals) w.all.ensures, ← c.scanned-feed.ensures, eq-eqb _ _ c.if-feed-ne-DONE.false, le-ltb _ _ w.if-feed-ge1000.true)
      | else-feed-ge1000 w ↦ grind (arith, nat_tests)
    ])
    ∙ c.loop-b.invariant

pub returns : goal.returns
returns c = sym (fed_end _ c.args.piece.now c.loop-b.b-index c.loop-b-test.false) ∙ c.loop-b.invariant
