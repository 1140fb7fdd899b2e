use mathlib.Core.Path.{refl, ◌∙◌}
use mathlib.Core.List.{append-nil}
use lib.ListN.{length-set}
use Rattle.digits.specs.Digits.{digits_in}
use Rattle.digits.proofs.Decimal.{decimal-as, place-left, found-more, found_all}
use Rattle.digits.proofs.Drawn.{draws-as}
use borrow.Author.Rules.{rules}
use native.Mathlib.Omega.{arith}
use Rattle.digits.proofs.page.put_number.Goals as goal

pub loop-tens-init : goal.loop-tens-init
loop-tens-init c = (search rules, refl, search rules, append-nil (digits_in 9 c.args.n) ∙ decimal-as 9 c.args.n (search rules) (search rules))

pub overflow_sub-from : goal.overflow_sub-from
overflow_sub-from c = let l = c.loop-tens in place-left l.from l.tens (omega arith) l.invariant.2

pub loop-tens-preserved : goal.loop-tens-preserved
loop-tens-preserved c = let l = c.loop-tens in
    let more = found-more l.digits _ l.tens _ c.last_digit.ensures l.from (omega arith) l.invariant.3 (omega arith) l.invariant.2 in
    (search rules, length-set l.digits l.from c.last_digit.result ∙ l.invariant.1, more.0, more.1)

pub slice_bounds-put_all-end : goal.slice_bounds-put_all-end
slice_bounds-put_all-end c = let l = c.loop-tens in omega (arith, length-set l.digits l.from c.last_digit-2.result, l.invariant.1)

pub returns : goal.returns
returns c = let l = c.loop-tens in
    draws-as _ _ _ _ c.put_all.ensures
    (found_all l.digits _ l.tens _ c.last_digit-2.ensures 10 l.from l.invariant.1 l.invariant.0 l.invariant.3 (omega arith))
