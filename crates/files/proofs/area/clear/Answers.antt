use Rattle.files.proofs.Served.{lent-cleared, off-cleared}
use Rattle.files.proofs.area.clear.Goals as goal

pub returns-in_default : goal.returns-in_default
returns-in_default c = let a = c.args in off-cleared a.x a.area.now c.in_default.ensures _ _

pub returns : goal.returns
returns c = let a = c.args in
    let b = c.in-Some in
    lent-cleared a.x a.area.now b.bytes.start b.bytes.end b.ensures _ c.clear.ensures
