use mathlib.Core.Path.{◌∙◌}
use Rattle.stores.proofs.Changes.{store-value}
use Rattle.stores.proofs.value_store.Goals as goal

pub returns : goal.returns
returns c = let s = c in c.run_store.ensures ∙ rw (c.credential_store-target.ensures, c.value_byte-byte.ensures, c.turn-i.ensures.is) (store-value s.args.given.now s.requires.1 s.args.n s.args.k)
