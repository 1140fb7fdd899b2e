use mathlib.Core.Path.{◌≡◌}
use lib.ListN.{length, drop}
use Rattle.texts.specs.Text.{files_text}
use Rattle.digits.specs.Page.{page, draw}
use Rattle.texts.specs.Forms.{is_new}
use Rattle.texts.proofs.text.put_files.Given as goal

abbrev pub invariant-loop-f : goal.invariant-loop-f
invariant-loop-f l = (length l.out ≡ length l.initial.out) × (draw (files_text (is_new l.form) l.fn.d (drop l.f-index l.f-items) l.rest) (page l.out l.q) ≡ draw (files_text (is_new l.form) l.fn.d l.f-items l.area) (page l.initial.out l.at))
