use Rattle.cipher.proofs.Halves.{turned-halves}
use Rattle.cipher.proofs.word.turned.Goals as goal

pub returns : goal.returns
returns c =
    turned-halves c.args.w c.low_half.result c.high_half.result c.rotate_right.result c.rotate_right-2.result c.joined.result
    c.ranges.w.fits c.low_half.ensures c.rotate_right.ensures c.high_half.ensures c.rotate_right-2.ensures c.joined.ensures
