use Rattle.cipher.proofs.Triples.{swapped-twos}
use Rattle.cipher.proofs.circuit.swapped_twos.Goals as goal

pub returns : goal.returns
returns c = swapped-twos c.args.a c.args.b c.ranges.a.fits c.ranges.b.fits
