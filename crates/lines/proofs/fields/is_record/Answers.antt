use mathlib.Core.Path.{sym, ◌∙◌}
use Rattle.lines.proofs.Scanning.{other-record, counted-record}
use Rattle.lines.proofs.fields.is_record.Goals as goal

pub returns-then-begins : goal.returns-then-begins
returns-then-begins c = let a = c.args in counted-record a.n a.word.now a.s.now c.tabs.result (sym c.begins.ensures ∙ c.if-begins.true) c.tabs.ensures.is

pub returns-else-begins : goal.returns-else-begins
returns-else-begins c = let a = c.args in c.if-begins.false ∙ other-record a.n a.word.now a.s.now (sym c.begins.ensures ∙ c.if-begins.false)
