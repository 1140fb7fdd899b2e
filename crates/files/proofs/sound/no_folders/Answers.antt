use Rattle.std.proofs.Common.{sym, ◌∙◌, rules}
use Rattle.files.specs.Directory.{folder_at}
use Rattle.files.proofs.Folders.{none-sum, none-sound}
use Rattle.files.proofs.sound.no_folders.Goals as goal

pub returns : goal.returns
returns c = let l = c.args.folders in
    none-sum (folder_at l 0) (folder_at l 1) (folder_at l 2) (folder_at l 3) c.from.result c.from-2.result c.from-3.result
    (c.from.ensures ∙ c.from_le_bytes-front.ensures) (c.from-2.ensures ∙ c.from_le_bytes-middle.ensures) (c.from-3.ensures ∙ c.from_le_bytes-back.ensures)
    ∙ sym (none-sound l (search rules))
