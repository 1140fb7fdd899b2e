use mathlib.Core.Path.{◌∙◌}
use Rattle.stores.proofs.Changes.{make-bytes, make-entry, make-count}
use Rattle.stores.proofs.make_store.Goals as goal

pub returns-then-k-size : goal.returns-then-k-size
returns-then-k-size c = let a = c.args in c.area_store.ensures ∙ make-bytes a.count a.end a.size a.f a.k c.if-k-size.true

pub returns-then-i-lt-ENTRY_SIZE : goal.returns-then-i-lt-ENTRY_SIZE
returns-then-i-lt-ENTRY_SIZE c = let a = c.args in c.entry_store.ensures ∙ rw c.new_bytes.ensures (make-entry a.count a.end a.size a.f a.k c.if-k-size.false c.if-i-lt-ENTRY_SIZE.true)

pub returns-else-i-lt-ENTRY_SIZE : goal.returns-else-i-lt-ENTRY_SIZE
returns-else-i-lt-ENTRY_SIZE c = let a = c.args in c.only.ensures ∙ rw c.a_store.ensures (make-count a.count a.end a.size a.f a.k c.if-k-size.false c.if-i-lt-ENTRY_SIZE.false)
