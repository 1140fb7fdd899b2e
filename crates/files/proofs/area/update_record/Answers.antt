use lib.ListN.{length}
use Rattle.files.proofs.Served.{lent-stored, off-stored, updates-record}
use Rattle.files.proofs.area.update_record.Goals as goal

pub returns-in_default : goal.returns-in_default
returns-in_default c = let a = c.args in off-stored a.x a.area.now c.in_default.ensures _ _ _

pub returns : goal.returns
returns c = let a = c.args in
    let b = c.in-Some in
    lent-stored a.x a.area.now b.bytes.start b.bytes.end b.ensures _ a.l.start a.given.now _ _ (λ t. updates-record a.x.file a.l (length a.given.now) t) c.update.ensures
