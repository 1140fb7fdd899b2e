use mathlib.Core.Path.{◌∙◌}
use Rattle.stores.proofs.Changes.{store-known}
use Rattle.stores.proofs.known_store.Goals as goal

pub returns : goal.returns
returns c = let a = c.args in c.run_store.ensures ∙ rw (c.entry_store-target.ensures, c.known_bytes.ensures, c.turn-i.ensures.is) (store-known a.place a.f a.k)
