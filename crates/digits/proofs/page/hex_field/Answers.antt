use Rattle.digits.proofs.Drawn.{draws-then}
use Rattle.digits.proofs.page.hex_field.Goals as goal

pub returns : goal.returns
returns c = draws-then _ _ _ _ _ c.put_or_dash-q.ensures c.put.ensures
