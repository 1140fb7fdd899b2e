use Rattle.limpetnook.proofs.Placing.{places-refused}
use Rattle.limpetnook.proofs.limpet_command.Goals as goal

pub returns-else-done-eq0 : goal.returns-else-done-eq0
returns-else-done-eq0 c = let a = c.args in
    places-refused a.card.now a.area.now a.cmd.now a.random.now a.reply.now c.command-done.result _ _ c.if-done-eq0.false c.command-done.ensures
