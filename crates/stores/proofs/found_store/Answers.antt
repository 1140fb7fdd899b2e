use mathlib.Core.Path.{◌∙◌}
use Rattle.stores.proofs.Changes.{found-bytes, found-count}
use Rattle.stores.proofs.found_store.Goals as goal

pub returns-then-k-lt-FOLDER_SIZE : goal.returns-then-k-lt-FOLDER_SIZE
returns-then-k-lt-FOLDER_SIZE c = let a = c.args in c.a_store.ensures ∙ rw c.folder_bytes.ensures (found-bytes a.number a.x a.k c.if-k-lt-FOLDER_SIZE.true)

pub returns-else-k-lt-FOLDER_SIZE : goal.returns-else-k-lt-FOLDER_SIZE
returns-else-k-lt-FOLDER_SIZE c = let a = c.args in c.only.ensures ∙ rw c.a_store-else-k-lt-FOLDER_SIZE.ensures (found-count a.number a.x a.k c.if-k-lt-FOLDER_SIZE.false)
