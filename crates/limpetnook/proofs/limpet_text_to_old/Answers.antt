use Rattle.limpetnook.proofs.Placing.{places-converted}
use Rattle.limpetnook.proofs.limpet_text_to_old.Goals as goal

pub returns : goal.returns
returns c = places-converted _ _ _ c.to_old-done.ensures
