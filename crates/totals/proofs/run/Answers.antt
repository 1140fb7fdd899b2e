use Rattle.totals.proofs.Read.{reported}
use Rattle.totals.proofs.run.Goals as goal

pub returns : goal.returns
returns g c = reported _ _ c.args.out.now _ _ c.start.ensures c.read_all-feed.ensures c.requires c.told.ensures
