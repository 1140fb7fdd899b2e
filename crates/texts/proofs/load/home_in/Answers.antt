use Rattle.texts.proofs.Loading.{home-is}
use Rattle.texts.proofs.load.home_in.Goals as goal

pub returns : goal.returns
returns c = home-is c.args.d c.args.s.now _ _ _ c.bytes_in-fid.ensures c.two.ensures.is c.find_folder.ensures
