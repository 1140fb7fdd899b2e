use Rattle.cipher.specs.Circuit.{outs}
use Rattle.cipher.proofs.Triples.{outs-made}
use Rattle.cipher.proofs.circuit.words_of.Goals as goal

pub returns : goal.returns
returns c = let v = c in
    let u = v in
    let y = u in
    let fourth = y in
    let third = fourth in
    let x = third in
    let second = x in
    let first = second in
    outs-made (outs first.args.s) first.stacked.ensures second.stacked-2.ensures third.stacked-3.ensures fourth.stacked-4.ensures
    x.swapped_ones-x.ensures y.swapped_ones-y.ensures u.swapped_twos-u.ensures v.swapped_twos-v.ensures
