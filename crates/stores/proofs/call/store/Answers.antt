use Rattle.stores.proofs.Calling.{served-ready, refused-call, served-call}
use Rattle.stores.proofs.call.store.Goals as goal

pub returns-then-outcome-ne0 : goal.returns-then-outcome-ne0
returns-then-outcome-ne0 c = let a = c.args in
    rw c.no_store.ensures (refused-call a.card a.area.now a.random.now a.cmd.now a.n c.refusal-outcome.ensures c.if-outcome-ne0.true)

pub served-requires : goal.served-requires
served-requires c = let a = c.args in served-ready a.card a.area.now a.random.now c.refusal-outcome.ensures c.if-outcome-ne0.false

pub returns : goal.returns
returns c = let a = c.args in
    rw c.served.ensures (served-call a.card a.area.now a.random.now a.cmd.now a.n c.refusal-outcome.ensures c.if-outcome-ne0.false)
