use Rattle.files.specs.Record.{next_start, entry}
use Rattle.files.proofs.Appends.{next_fits}
use Rattle.files.proofs.Served.{lent-written, off-written}
use Rattle.files.proofs.area.append_record.Goals as goal

pub returns-in_default : goal.returns-in_default
returns-in_default c = let a = c.args in off-written a.x a.area.now c.in_default.ensures _ _ _ _ _ _ c.file_answer.ensures

pub returns : goal.returns
returns c = let a = c.args in
    let f = a.x.file in
    let b = c.in-Some in
    lent-written a.x a.area.now b.bytes.start b.bytes.end b.ensures _ (next_start f) _ _ (entry f a.given.now) _ _ (λ t. next_fits f a.given.now t) c.append.ensures
