use Rattle.texts.proofs.Loading.{housed-is}
use Rattle.texts.proofs.load.housed_in.Goals as goal

pub returns : goal.returns
returns c = housed-is c.args.d c.args.s.now _ _ _ _ c.fields.ensures c.home_in-home.ensures c.file_in.ensures c.in_folder.ensures
