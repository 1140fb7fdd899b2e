use Rattle.texts.specs.Text.{credential_line}
use Rattle.digits.specs.Digits.{decimal, or_dash}
use Rattle.texts.proofs.Drawing.{line-more, line-last, field-as}
use Rattle.texts.proofs.text.put_credential.Goals as goal

pub returns : goal.returns
unfolding credential_line
returns c = line-more _ _ _ _ _ _ (field-as or_dash _ _ _ _ _ c.front_field-a.ensures (rw c.from.ensures)) (line-more _ _ _ _ _ _ (field-as decimal _ _ _ _ _ c.number_field-b.ensures c.from-2.ensures) (line-last _ _ _ (field-as decimal _ _ _ _ _ c.number_field.ensures c.from-3.ensures)))
