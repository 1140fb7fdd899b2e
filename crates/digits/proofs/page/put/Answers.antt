use Rattle.digits.proofs.Drawn.{put-done, put-none}
use Rattle.digits.proofs.page.put.Goals as goal

pub returns-then-at-out : goal.returns-then-at-out
returns-then-at-out c = put-done _ _ _ c.if-at-out.true

pub returns-else-at-out : goal.returns-else-at-out
returns-else-at-out c = put-none _ _ _ c.if-at-out.false
