use Rattle.lines.proofs.Telling.{command-tested}
use Rattle.lines.proofs.script.is_command.Goals as goal

pub returns : goal.returns
returns c = let a = c.args in
    rw (c.begins.ensures, c.is_hex.ensures, c.is_hex-2.ensures) (command-tested a.line.now a.rest.now a.first.now a.second.now c.requires.0 c.requires.1 c.requires.2)
