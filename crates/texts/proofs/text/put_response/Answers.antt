use Rattle.digits.specs.Digits.{decimal, or_dash}
use Rattle.digits.proofs.Drawn.{draws-then}
use Rattle.texts.proofs.Drawing.{field-as}
use Rattle.texts.proofs.text.put_response.Goals as goal

pub returns : goal.returns
returns c = draws-then _ _ _ _ _ (field-as decimal _ _ _ _ _ c.number_field-a.ensures c.from.ensures) (field-as or_dash _ _ _ _ _ c.front_field.ensures (rw c.two-n.ensures.is))
