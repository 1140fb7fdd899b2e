use Rattle.card.proofs.Recovering.{entry-redone}
use Rattle.card.proofs.recover.redo_entry.Goals as goal

pub returns : goal.returns
returns c = let a = c.args in
    rw c.with_directory.ensures (entry-redone a.card a.card.journal.bytes a.place)
