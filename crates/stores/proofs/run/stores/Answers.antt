use lib.ListN.{length}
use Rattle.stores.proofs.Calling.{served-ready}
use Rattle.stores.proofs.Laying.{most-fit, refused-run, served-run}
use Rattle.stores.proofs.run.stores.Goals as goal

pub returns-then-outcome-ne0 : goal.returns-then-outcome-ne0
returns-then-outcome-ne0 c = let a = c.args in
    refused-run a.card a.area.now a.cmd.now a.random.now a.first a.out.now c.refusal-outcome.ensures c.if-outcome-ne0.true

pub lay-n-requires : goal.lay-n-requires
lay-n-requires c = let a = c.args in
    record { ready = served-ready a.card a.area.now a.random.now c.refusal-outcome.ensures c.if-outcome-ne0.false; most_in_bounds = rw c.most-most.ensures (most-fit a.first (length a.out.now)) }

pub returns : goal.returns
returns c = let was = c in
    let a = was.args in
    served-run a.card a.area.now a.cmd.now a.random.now a.first a.out.now was.refusal-outcome.ensures was.if-outcome-ne0.false was.most-most.ensures c.lay-n.ensures
