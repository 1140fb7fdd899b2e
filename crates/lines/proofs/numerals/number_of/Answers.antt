use Prim.Native.Nat.{◌+◌, ◌*◌}
use mathlib.Core.Path.{refl}
use native.Mathlib.Omega.{arith}
use borrow.Author.Rules.{rules}
use Rattle.lines.proofs.Scanning.{number-high, number-on, number-end}
use Rattle.lines.proofs.numerals.number_of.Goals as goal

pub overflow_add-n : goal.overflow_add-n
overflow_add-n c = omega (arith, c.value.ensures.low, c.from.ensures)

pub returns-then-n-gt65535 : goal.returns-then-n-gt65535
returns-then-n-gt65535 c = let l = c.loop-b in
    number-high c.args.s.now _ (l.b-index + 1) (number-on c.args.s.now l.n l.b-index (l.n * 10 + c.from.result) l.invariant.1 c.loop-b-test.true (rw (c.from.ensures, c.value.ensures.is) refl)) c.if-n-gt65535.true

pub loop-b-preserved : goal.loop-b-preserved
loop-b-preserved c = let l = c.loop-b in
    (search rules, number-on c.args.s.now l.n l.b-index (l.n * 10 + c.from.result) l.invariant.1 c.loop-b-test.true (rw (c.from.ensures, c.value.ensures.is) refl))

pub returns : goal.returns
returns c = let l = c.loop-b in number-end c.args.s.now l.n l.b-index l.invariant.1 c.loop-b-test.false l.invariant.0
