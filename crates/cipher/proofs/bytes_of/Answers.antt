use Rattle.cipher.proofs.States.{written}
use Rattle.cipher.proofs.bytes_of.Goals as goal

pub returns : goal.returns
returns c = rw (c.to_le_bytes.ensures, c.to_le_bytes-2.ensures) (written c.args.s)
