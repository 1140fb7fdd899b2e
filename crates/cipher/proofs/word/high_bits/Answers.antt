use Rattle.cipher.proofs.Halves.{high-halves}
use Rattle.cipher.proofs.word.high_bits.Goals as goal

pub returns : goal.returns
returns c = high-halves c.args.w
