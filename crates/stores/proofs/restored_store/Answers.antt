use mathlib.Core.Path.{◌∙◌}
use Rattle.power.specs.Store.{tries_left}
use Rattle.stores.proofs.Changes.{not-restored, restored}
use Rattle.stores.proofs.restored_store.Goals as goal

pub returns-then-not-agrees : goal.returns-then-not-agrees
returns-then-not-agrees c = let a = c.args in c.no_store.ensures ∙ not-restored a.agrees (tries_left a.n a.tries.limit) a.k (c.if-not-agrees.true)

pub returns : goal.returns
returns c = let a = c.args in c.only.ensures ∙ rw c.tries_store.ensures (restored a.agrees (tries_left a.n a.tries.limit) a.k (c.if-not-agrees.false))
