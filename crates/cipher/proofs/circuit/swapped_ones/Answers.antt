use Rattle.cipher.proofs.Triples.{swapped-ones}
use Rattle.cipher.proofs.circuit.swapped_ones.Goals as goal

pub returns : goal.returns
returns c = swapped-ones c.args.a c.args.b c.ranges.a.fits c.ranges.b.fits
