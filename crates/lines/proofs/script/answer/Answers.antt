use mathlib.Core.Path.{◌≡◌, refl, sym, ◌∙◌}
use mathlib.Core.Bool.{true, false}
use native.Mathlib.Omega.{arith}
use Prim.Native.Nat.{◌≤◌}
use lib.ListN.{length}
use lib.Seq.{length-take-le}
use borrow.Author.Rules.{rules}
use Rattle.lines.specs.Script.{sends, answered}
use Rattle.lines.proofs.Telling.{first-is, second_is, sent-hex, sent-answered, not-answered, is-answered}
use Rattle.lines.proofs.script.answer.Goals as goal
use Rattle.lines.proofs.script.answer.Goals.{then-area-ne-AREA_SIZE-via-then-area-ne-AREA_SIZE, then-area-ne-AREA_SIZE-via-else-area-ne-AREA_SIZE+then-out-lt-OUT_SIZE, else-given-via-then-given+else-is_command, else-given-via-else-given}

pub returns-then-area-ne-AREA_SIZE : goal.returns-then-area-ne-AREA_SIZE
returns-then-area-ne-AREA_SIZE c = let a = c.args in
    let n : length a.area.now ≡ 4096 → 532 ≤ length a.out.now → ⊥ =
    elim c.then-area-ne-AREA_SIZE.branch [
      | then-area-ne-AREA_SIZE-via-then-area-ne-AREA_SIZE w ↦ λ e l. w.if-area-ne-AREA_SIZE.true e
      | then-area-ne-AREA_SIZE-via-else-area-ne-AREA_SIZE+then-out-lt-OUT_SIZE w ↦ λ e l. omega arith
    ]
    in
    not-answered a.given a.area.now a.line.now a.number a.out.now _ n refl

pub slice_bounds-first-end : goal.slice_bounds-first-end
slice_bounds-first-end c = sym (length-take-le _ _ (search rules))

pub is_command-requires : goal.is_command-requires
is_command-requires c = let a = c.args in (c.after-rest.ensures, first-is a.line.now _ c.after-rest.ensures _ _ c.tab_at-at.ensures.is c.min-from.ensures, second_is a.line.now _ c.after-rest.ensures _ _ c.tab_at-at.ensures.is c.min-from.ensures)

pub command_line-requires : goal.command_line-requires
command_line-requires c = let a = c.args in
    let e : sends a.given a.line.now ≡ true = rw (c.if-given.true) (sym c.is_command.ensures ∙ c.if-is_command.true) in
    let h = sent-hex a.line.now _ c.after-rest.ensures _ _ c.tab_at-at.ensures.is c.min-from.ensures a.given e in
    (h.0, h.1, c.if-out-lt-OUT_SIZE.false)

pub returns-then-is_command : goal.returns-then-is_command
returns-then-is_command c = let a = c.args in
    let e : sends a.given a.line.now ≡ true = rw (c.if-given.true) (sym c.is_command.ensures ∙ c.if-is_command.true) in
    is-answered a.given a.area.now a.line.now a.number a.out.now _ _ _ _ c.if-area-ne-AREA_SIZE.false c.if-out-lt-OUT_SIZE.false (sent-answered a.line.now _ c.after-rest.ensures _ _ c.tab_at-at.ensures.is c.min-from.ensures a.given e a.area.now) c.command_line.ensures

pub other_line-requires : goal.other_line-requires
other_line-requires c = let a = c.args in
    let e : sends a.given a.line.now ≡ false =
    elim c.else-given.branch [
      | else-given-via-then-given+else-is_command w ↦ rw w.if-given.true (sym w.is_command.ensures ∙ w.if-is_command.false)
      | else-given-via-else-given w ↦ rw w.if-given.false
    ]
    in
    (e, c.if-out-lt-OUT_SIZE.false)

pub returns : goal.returns
returns c = let a = c.args in is-answered a.given a.area.now a.line.now a.number a.out.now (answered a.given a.area.now a.line.now) _ _ _ c.if-area-ne-AREA_SIZE.false c.if-out-lt-OUT_SIZE.false refl c.other_line.ensures
