use Rattle.texts.specs.Forms.{is_new}
use Rattle.texts.proofs.Scanning.{FilesInv}
use Rattle.texts.proofs.load.files_in.Given as goal

abbrev pub invariant-loop : goal.invariant-loop
invariant-loop l = FilesInv (is_new l.form) l.given l.s l.initial.image l.image l.d l.rest l.to l.counter
