use Rattle.texts.specs.Text.{folder_line}
use Rattle.texts.proofs.Drawing.{line-more, line-last}
use Rattle.texts.proofs.text.put_folder.Goals as goal

pub returns : goal.returns
unfolding folder_line
returns c = line-more _ _ _ _ _ _ c.hex_field-a.ensures (line-last _ _ _ c.hex_field.ensures)
