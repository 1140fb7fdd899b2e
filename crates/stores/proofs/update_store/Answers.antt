use mathlib.Core.Path.{◌∙◌}
use Rattle.power.specs.Store.{area_byte}
use Rattle.stores.proofs.Numbers.{store-row, row-none}
use Rattle.stores.proofs.update_store.Goals as goal

pub returns-then-k-given : goal.returns-then-k-given
returns-then-k-given c = let a = c.args in c.area_store.ensures ∙ store-row area_byte a.at a.given.now a.k c.if-k-given.true

pub returns-else-k-given : goal.returns-else-k-given
returns-else-k-given c = let a = c.args in c.no_store.ensures ∙ row-none area_byte a.at a.given.now a.k c.if-k-given.false
