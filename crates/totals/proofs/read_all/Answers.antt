use Rattle.totals.proofs.Read.{follows-none, follows-more, follows-fed}
use Rattle.totals.proofs.read_all.Goals as goal

pub loop-init : goal.loop-init
loop-init g c = follows-none _

pub loop-preserved : goal.loop-preserved
loop-preserved g c = follows-more c.loop.invariant (follows-fed _ c.fed-feed.ensures)

pub returns-then-n-eq0 : goal.returns-then-n-eq0
returns-then-n-eq0 g c = follows-more c.loop.invariant (follows-fed _ c.fed-feed.ensures)
