use Rattle.std.proofs.Common.{arith}
use Rattle.std.proofs.lemmas.Grind.{common_steps}
use Rattle.files.specs.Record.{entry}
use Rattle.files.proofs.Parts.{splice-cons}
use Rattle.files.proofs.record.store_entry.Goals as goal

pub returns-then-f-eq-VARIABLE : goal.returns-then-f-eq-VARIABLE
unfolding entry
returns-then-f-eq-VARIABLE c = grind (arith, common_steps, splice-cons)
