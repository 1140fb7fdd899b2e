use Rattle.digits.specs.Digits.{or_dash}
use Rattle.texts.proofs.Drawing.{field-as}
use Rattle.texts.proofs.text.put_challenge.Goals as goal

pub returns : goal.returns
returns c = field-as or_dash _ _ _ _ _ c.front_field.ensures (rw c.from.ensures)
