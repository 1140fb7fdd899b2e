use Rattle.cipher.proofs.Triples.{planes-made}
use Rattle.cipher.proofs.circuit.bits_of.Goals as goal

pub returns : goal.returns
returns c = let v = c in
    let u = v in
    let y = u in
    let x = y in
    let args = x.args in
    planes-made args.a args.b args.c x.swapped_ones-x.ensures y.swapped_ones-y.ensures u.swapped_twos-u.ensures v.swapped_twos-v.ensures
