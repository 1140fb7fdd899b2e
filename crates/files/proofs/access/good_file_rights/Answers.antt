use mathlib.Core.Path.{sym}
use Rattle.files.proofs.Rights.{plain-good}
use Rattle.files.proofs.access.good_file_rights.Goals as goal

pub returns-then-byte-eq0 : goal.returns-then-byte-eq0
returns-then-byte-eq0 c = sym (plain-good _ c.if-byte-eq0.true)
