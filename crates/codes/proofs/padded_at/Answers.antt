use mathlib.Core.Path.{sym}
use native.Mathlib.Omega.{arith}
use Rattle.codes.proofs.Padding.{in-message, at-end, past_end}
use Rattle.codes.proofs.padded_at.Goals as goal

pub returns-then-i-message : goal.returns-then-i-message
returns-then-i-message c = let a = c.args in sym (in-message a.message.now a.i (omega arith))

pub returns-then-i-message-2 : goal.returns-then-i-message-2
returns-then-i-message-2 c = let a = c.args in sym (at-end a.message.now a.i (omega arith))

pub returns-else-i-message-2 : goal.returns-else-i-message-2
returns-else-i-message-2 c = let a = c.args in sym (past_end a.message.now a.i (omega arith))
