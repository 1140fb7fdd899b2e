use mathlib.Core.Path.{◌∙◌}
use Rattle.stores.proofs.Calling.{fetch-none, served-store}
use Rattle.stores.proofs.call.served.Goals as goal

pub returns-then-fetches : goal.returns-then-fetches
returns-then-fetches c = let a = c.args in
    c.no_store.ensures ∙ fetch-none a.card a.area.now a.cmd.now c.head_of-h.ensures c.fetches.ensures a.k c.if-fetches.true

pub returns : goal.returns
returns c = let a = c.args in
    c.ruled.ensures ∙ served-store a.card a.area.now a.cmd.now c.head_of-h.ensures c.fetches.ensures a.k c.if-fetches.false c.listed-ins.ensures
