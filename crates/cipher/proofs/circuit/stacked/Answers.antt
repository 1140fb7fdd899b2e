use Rattle.cipher.proofs.Triples.{stacked-exact}
use Rattle.cipher.proofs.circuit.stacked.Goals as goal

pub returns : goal.returns
returns c = stacked-exact c.args.low c.args.high
