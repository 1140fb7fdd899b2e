use mathlib.Core.Path.{refl, sym}
use borrow.Author.Tests.{eq-eqb, ne_eqb}
use lib.Seq.{length-take-le}
use Rattle.lines.proofs.Telling.{key-few, transport-few, issue-told}
use borrow.Author.Rules.{rules}
use Rattle.lines.proofs.script.issue_line.Goals as goal

pub hex_bytes-n-requires : goal.hex_bytes-n-requires
hex_bytes-n-requires c = (key-few c.args.line.now c.requires _ c.field.ensures, search rules)

pub hex_bytes-m-requires : goal.hex_bytes-m-requires
hex_bytes-m-requires c = (transport-few c.args.line.now c.requires _ c.field-2.ensures, search rules)

pub slice_bounds-issue-end : goal.slice_bounds-issue-end
slice_bounds-issue-end c = sym (length-take-le _ _ (search rules))

pub slice_bounds-issue-end-2 : goal.slice_bounds-issue-end-2
slice_bounds-issue-end-2 c = sym (length-take-le _ _ (search rules))

pub returns-then-done-eq0 : goal.returns-then-done-eq0
returns-then-done-eq0 c = let s = c in
    issue-told s.args.line.now s.requires s.args.given _ s.args.area.now _ _ _ _ _ _ _ _ _ _ _ _ _ _ _ _ _ c.issue-done.result _
    c.field.ensures c.field-3.ensures c.field-8.ensures c.field-4.ensures c.field-9.ensures c.field-5.ensures c.field-6.ensures c.field-2.ensures c.field-7.ensures
    c.hex_bytes-n.ensures.front-is c.limit_of-device.ensures c.limit_of-admin.ensures c.limit_of-user.ensures c.limit_of-mode.ensures c.hex_bytes-m.ensures.front-is c.limit_of-limit.ensures c.issue-done.ensures
    (rw (eq-eqb _ _ c.if-done-eq0.true)) refl

pub returns-else-done-eq0 : goal.returns-else-done-eq0
returns-else-done-eq0 c = let s = c in
    issue-told s.args.line.now s.requires s.args.given _ s.args.area.now _ _ _ _ _ _ _ _ _ _ _ _ _ _ _ _ _ c.issue-done.result _
    c.field.ensures c.field-3.ensures c.field-8.ensures c.field-4.ensures c.field-9.ensures c.field-5.ensures c.field-6.ensures c.field-2.ensures c.field-7.ensures
    c.hex_bytes-n.ensures.front-is c.limit_of-device.ensures c.limit_of-admin.ensures c.limit_of-user.ensures c.limit_of-mode.ensures c.hex_bytes-m.ensures.front-is c.limit_of-limit.ensures c.issue-done.ensures
    (rw (ne_eqb _ _ c.if-done-eq0.false)) refl
