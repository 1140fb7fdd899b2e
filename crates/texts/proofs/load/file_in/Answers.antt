use mathlib.Core.Path.{ap, ◌∙◌}
use Rattle.texts.specs.Reading.{number, small}
use Rattle.texts.proofs.Loading.{file-is}
use Rattle.texts.proofs.load.file_in.Goals as goal

pub returns : goal.returns
returns c = file-is c.args.s.now _ _ _ _ _ _ _ c.bytes_in-fid.ensures c.fields-3.ensures c.bytes_in-made.ensures c.new_file-f.ensures (c.number_in-n.ensures.is ∙ ap number c.fields.ensures) (c.small_in-newest.ensures ∙ ap small c.fields-2.ensures) c.counted.ensures
