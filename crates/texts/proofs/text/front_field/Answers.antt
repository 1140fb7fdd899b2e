use mathlib.Core.Path.{◌∙◌, ap}
use lib.ListN.{take}
use Rattle.std.proofs.lemmas.List.{take_min}
use Rattle.digits.specs.Digits.{or_dash}
use Rattle.texts.proofs.Drawing.{field-as}
use Rattle.texts.proofs.text.front_field.Goals as goal

pub returns : goal.returns
returns c = field-as or_dash _ _ c.args.end _ _ c.hex_field.ensures (ap (λ n. take n c.args.bytes.now) c.min-m.ensures ∙ take_min c.args.n c.args.bytes.now)
