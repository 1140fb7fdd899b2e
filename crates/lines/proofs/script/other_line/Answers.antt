use mathlib.Core.Path.{refl}
use native.Mathlib.Omega.{arith}
use Rattle.lines.specs.Script.{answered}
use Rattle.lines.proofs.Telling.{quiet-written}
use Rattle.lines.proofs.script.other_line.Goals as goal

pub handled-told-requires : goal.handled-told-requires
handled-told-requires c = c.requires.0

pub put_answer-n-requires : goal.put_answer-n-requires
put_answer-n-requires c = (omega arith, c.requires.1)

pub returns : goal.returns
returns c = let a = c.args in quiet-written a.number a.out.now (answered a.given a.area.now a.line.now) c.handled-told.result _ _ _ _ c.handled-told.ensures c.put_answer-n.ensures refl
