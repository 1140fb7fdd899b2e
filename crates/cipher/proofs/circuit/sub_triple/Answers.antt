use Rattle.cipher.specs.Circuit.{planes}
use Rattle.cipher.proofs.Gates.{joined}
use Rattle.cipher.proofs.Triples.{triple-halves}
use Rattle.cipher.proofs.circuit.sub_triple.Goals as goal

pub returns : goal.returns
returns c = let outs = c in
    let products = outs in
    let inverse = products in
    let norm = inverse in
    let sums = norm in
    let bits = sums in
    let args = bits.args in
    triple-halves args.a args.b args.c outs.outs_of.result
    (joined (planes args.a args.b args.c) (rw bits.bits_of.ensures at sums.sums_of-y.ensures) norm.norm_of.ensures inverse.inverse_of-v.ensures products.products_of.ensures outs.outs_of.ensures)
    c.words_of.ensures.0 c.words_of.ensures.1 c.words_of.ensures.2
