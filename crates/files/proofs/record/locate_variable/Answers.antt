use Rattle.std.proofs.Common.{sym, arith}
use Rattle.std.proofs.lemmas.Grind.{common_steps}
use Rattle.files.specs.Record.{located, records_held, start_of, length_of}
use Rattle.files.proofs.Walks.{stood-in, number-held}
use Rattle.files.proofs.record.locate_variable.Goals as goal

pub overflow_add-at : goal.overflow_add-at
overflow_add-at c = omega (arith, stood-in _ _ _ (sym c.if-stands.ensures))

pub bounds-extent-at : goal.bounds-extent-at
bounds-extent-at c = stood-in _ _ _ (sym c.if-stands.ensures)

pub returns-then-stands : goal.returns-then-stands
unfolding located records_held start_of length_of
returns-then-stands c = grind (arith, common_steps, number-held)

pub returns-else-n-ge1 : goal.returns-else-n-ge1
unfolding located records_held start_of length_of
returns-else-n-ge1 c = grind (arith, common_steps, number-held)
