use Rattle.std.proofs.Common.{◌≡◌, ◌∙◌, ◌+◌, min, arith, false, eq-eqb}
use borrow.Author.Tests.{ne_eqb}
use Rattle.files.specs.Types.{is_variable}
use Rattle.files.proofs.Lists.{count-cyclic}
use Rattle.files.proofs.Appends.{takes, grows-cyclic, next_low, used-bytes, appended-newest}
use Rattle.files.proofs.record.appended.Goals as goal

pub overflow_add-bytes_used-then-f-eq-VARIABLE : goal.overflow_add-bytes_used-then-f-eq-VARIABLE
overflow_add-bytes_used-then-f-eq-VARIABLE c = omega (arith, used-bytes c.args.f c.args.n (eq-eqb _ _ c.if-f-eq-VARIABLE.true) c.requires)

pub overflow_cast-bytes_used : goal.overflow_cast-bytes_used
overflow_cast-bytes_used c = omega (arith, used-bytes c.args.f c.args.n (eq-eqb _ _ c.if-f-eq-VARIABLE.true) c.requires)

pub overflow_cast-next_place : goal.overflow_cast-next_place
overflow_cast-next_place c = let f = c.args.f in
    let v : is_variable f ≡ false = ne_eqb _ _ c.if-f-eq-VARIABLE.false in
    let w = takes f c.args.n c.requires in
    let k = grows-cyclic f w.kind v in
    omega (arith, next_low f k w.sound, count-cyclic f k)

pub returns : goal.returns
returns c = let f = c.args.f in
    let m : c.min-held.result ≡ min (f.held + 1) f.size1 = omega arith in
    c.with_newest.ensures ∙ rw (m, c.next_place.ensures.is) (appended-newest f c.args.n (ne_eqb _ _ c.if-f-eq-VARIABLE.false) c.requires)
