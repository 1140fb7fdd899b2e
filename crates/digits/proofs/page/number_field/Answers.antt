use Rattle.digits.proofs.Drawn.{draws-then}
use Rattle.digits.proofs.page.number_field.Goals as goal

pub returns : goal.returns
returns c = draws-then _ _ _ _ _ c.put_number-q.ensures c.put.ensures
