use Rattle.digits.proofs.Drawn.{draws-then}
use Rattle.texts.proofs.text.put_whole.Goals as goal

pub returns : goal.returns
returns c = draws-then _ _ _ _ _ c.put_file-q.ensures c.put_contents.ensures
