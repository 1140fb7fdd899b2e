use Rattle.texts.specs.Reading.{hex_in}
use Rattle.texts.proofs.Loading.{current-none, current-some, byte_of}
use native.Mathlib.Omega.{arith}
use Rattle.texts.proofs.load.current_in.Goals as goal

pub returns-then-n-eq0 : goal.returns-then-n-eq0
returns-then-n-eq0 c = current-none c.args.d c.args.home (hex_in 2 c.args.s.now) _ c.hex_in-n.ensures.count-is c.if-n-eq0.true

pub overflow_cast-two : goal.overflow_cast-two
overflow_cast-two c = omega (arith, c.two.ensures.low)

pub returns : goal.returns
returns c = current-some c.args.d c.args.home (hex_in 2 c.args.s.now) _ c.hex_in-n.ensures.count-is _ _ _ _ c.if-n-eq0.false (byte_of 2 c.args.s.now _ _ 0 c.hex_in-n.ensures) (byte_of 2 c.args.s.now _ _ 1 c.hex_in-n.ensures) c.two.ensures.is c.find_fid.ensures
