use Rattle.std.proofs.Common.{◌∙◌}
use Rattle.files.proofs.Pass.{unused-sum}
use Rattle.files.proofs.sound.filled.Goals as goal

pub returns : goal.returns
returns c = unused-sum c.args.f c.from_le_bytes-front.result c.from.result c.from_le_bytes-front.ensures (c.from.ensures ∙ c.from_le_bytes-back.ensures)
