use Rattle.texts.specs.Forms.{is_new}
use Rattle.texts.proofs.Loading.{no-file, directory-loaded}
use Rattle.texts.proofs.load.directory_in.Goals as goal

pub files_in-requires : goal.files_in-requires
files_in-requires c = no-file _ _ c.folders_in-given.ensures

pub returns : goal.returns
returns c = directory-loaded (is_new c.args.form) c.args.s.now _ _ _ _ _ _ _ c.lines_in-lines.ensures c.folders_in-given.ensures c.from-n.ensures c.fields.ensures c.requires c.files_in.ensures
