use mathlib.Core.Bool.{◌&&◌, true, false}
use mathlib.Core.Path.{◌≡◌, refl, sym, ◌∙◌}
use Rattle.lines.specs.Grammar.{is_reset}
use Rattle.lines.proofs.Telling.{too_long, on-issue, on-reset, on_none}
use Rattle.lines.proofs.script.handled.Goals as goal
use Rattle.lines.proofs.script.handled.Goals.{else-given-via-then-given+else-is_reset, else-given-via-else-given}

pub returns-then-line-gt-LINE_SIZE : goal.returns-then-line-gt-LINE_SIZE
returns-then-line-gt-LINE_SIZE c = let a = c.args in too_long a.given a.area.now a.line.now _ c.if-line-gt-LINE_SIZE.true refl

pub issue_line-requires : goal.issue_line-requires
issue_line-requires c = sym c.is_issue.ensures ∙ c.if-is_issue.true

pub returns-then-is_issue : goal.returns-then-is_issue
returns-then-is_issue c = let a = c.args in on-issue a.given a.area.now a.line.now _ c.if-line-gt-LINE_SIZE.false _ (sym c.is_issue.ensures ∙ c.if-is_issue.true) c.issue_line.ensures

pub returns-then-is_reset : goal.returns-then-is_reset
returns-then-is_reset c = let s = c in
    let e : (s.args.given.issued && is_reset s.args.line.now) ≡ true = rw c.if-given.true (sym c.is_reset.ensures ∙ c.if-is_reset.true) in
    on-reset s.args.given s.args.area.now s.args.line.now _ c.if-line-gt-LINE_SIZE.false (sym c.is_issue.ensures ∙ c.if-is_issue.false) s.requires e c.reset_line.ensures

pub returns : goal.returns
returns c = let s = c in
    let e : (s.args.given.issued && is_reset s.args.line.now) ≡ false =
    elim c.else-given.branch [
      | else-given-via-then-given+else-is_reset w ↦ rw w.if-given.true (sym w.is_reset.ensures ∙ w.if-is_reset.false)
      | else-given-via-else-given w ↦ rw w.if-given.false
    ]
    in
    on_none s.args.given s.args.area.now s.args.line.now _ c.if-line-gt-LINE_SIZE.false (sym c.is_issue.ensures ∙ c.if-is_issue.false) s.requires e refl
