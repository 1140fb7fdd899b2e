use mathlib.Core.Path.{sym, ◌∙◌}
use Rattle.files.proofs.Served.{lent-located, off-located}
use Rattle.files.proofs.area.locate.Goals as goal

pub returns-in_default : goal.returns-in_default
returns-in_default c = let a = c.args in c.nowhere.ensures ∙ sym (off-located a.x a.area.now c.in_default.ensures a.n)

pub returns : goal.returns
returns c = let a = c.args in
    let b = c.in-Some in
    c.locate.ensures ∙ lent-located a.x a.area.now b.bytes.start b.bytes.end b.ensures a.n
