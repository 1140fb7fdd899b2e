use Rattle.cipher.proofs.Halves.{added-blocks}
use Rattle.cipher.proofs.add_key.Goals as goal

pub returns : goal.returns
returns c = let args = c.args in added-blocks args.s args.k
