use Rattle.texts.proofs.Loading.{folder-is}
use Rattle.texts.proofs.load.folder_in.Goals as goal

pub returns : goal.returns
returns c = folder-is c.args.s.now _ _ _ _ c.bytes_in-fid.ensures c.fields.ensures c.bytes_in-right.ensures c.new_folder.ensures
