use Rattle.texts.specs.Reading.{most_folders_of}
use Rattle.texts.specs.Forms.{is_new}
use Rattle.texts.proofs.Scanning.{FoldersInv}
use Rattle.texts.proofs.load.folders_in.Given as goal

abbrev pub invariant-loop : goal.invariant-loop
invariant-loop l = FoldersInv l.s (most_folders_of (is_new l.fn.form)) l.d l.rest l.counter
