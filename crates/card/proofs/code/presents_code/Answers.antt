use Rattle.std.proofs.Math.Bool.{and_assoc}
use Rattle.rules.specs.Code.{presents_code}
use Rattle.card.proofs.Checking.{all-good}
use Rattle.card.proofs.code.presents_code.Goals as goal

pub returns : goal.returns
unfolding presents_code
returns c = rw (and_assoc, c.takes_code.ensures, c.is_ok-passes.ensures.value, all-good _ c.check_presented.ensures)
