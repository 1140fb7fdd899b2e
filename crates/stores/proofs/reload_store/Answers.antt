use mathlib.Core.Path.{◌∙◌}
use Rattle.stores.proofs.Changes.{reload-value, reload-tries}
use Rattle.stores.proofs.reload_store.Goals as goal

pub returns-then-k-lt-VALUE_STORES : goal.returns-then-k-lt-VALUE_STORES
returns-then-k-lt-VALUE_STORES c = let s = c in c.value_store.ensures ∙ reload-value s.args.given.now s.requires.1 s.args.n s.args.limit s.args.k c.if-k-lt-VALUE_STORES.true

pub returns : goal.returns
returns c = let s = c in c.only.ensures ∙ rw c.tries_store.ensures (reload-tries s.args.given.now s.requires.1 s.args.n s.args.limit s.args.k c.if-k-lt-VALUE_STORES.false)
