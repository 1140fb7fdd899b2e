use Rattle.texts.specs.Text.{file_line}
use Rattle.digits.specs.Digits.{decimal}
use Rattle.texts.specs.Forms.{is_new}
use Rattle.texts.proofs.Drawing.{line-more, line-home, field-as}
use Rattle.texts.proofs.text.put_file.Goals as goal

pub returns : goal.returns
unfolding file_line
returns c = line-more _ _ _ _ _ _ c.hex_field-a.ensures (line-more _ _ _ _ _ _ c.hex_field-b.ensures (line-more _ _ _ _ _ _ (field-as decimal _ _ _ _ _ c.number_field-c.ensures c.held_or_used.ensures) (line-home (is_new c.args.form) c.args.d c.args.f.folder _ c.separator.ensures _ _ _ _ (field-as decimal _ _ _ _ _ c.number_field-e.ensures c.from.ensures) c.put_home.ensures)))
