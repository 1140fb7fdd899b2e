use mathlib.Core.Path.{sym, ◌∙◌, ap}
use borrow.Author.Tests.{eqb-true, eqb-false}
use Rattle.digits.specs.Page.{page, draw}
use Rattle.digits.proofs.Written.{dash-none, dash-some}
use Rattle.digits.proofs.page.put_or_dash.Goals as goal

pub returns-then-is_empty : goal.returns-then-is_empty
returns-then-is_empty c =
    c.put.ensures ∙ ap (λ w. draw w (page c.args.out.now c.args.at)) (dash-none c.args.bytes.now (eqb-true _ _ (sym c.if-is_empty.ensures)))

pub returns-else-is_empty : goal.returns-else-is_empty
returns-else-is_empty c =
    c.put_hex.ensures ∙ ap (λ w. draw w (page c.args.out.now c.args.at)) (dash-some c.args.bytes.now (eqb-false _ _ (sym c.if-is_empty.ensures)))
