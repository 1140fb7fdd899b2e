use mathlib.Core.Path.{sym, ◌∙◌}
use Rattle.digits.proofs.Drawn.{hex-more, hex-end}
use Rattle.digits.proofs.page.put_hex.Goals as goal

pub loop-b-preserved : goal.loop-b-preserved
loop-b-preserved c =
    hex-more c.args.bytes.now c.loop-b.b-index _ _ _ _ _ c.loop-b-test.true c.hex_digit.ensures c.hex_digit-in-loop-b.ensures c.put-middle.ensures c.put-q.ensures ∙ c.loop-b.invariant

pub returns : goal.returns
returns c = sym (hex-end c.args.bytes.now c.loop-b.b-index _ c.loop-b-test.false) ∙ c.loop-b.invariant
