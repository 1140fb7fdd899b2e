use mathlib.Core.Path.{ap, ◌∙◌}
use Rattle.rules.specs.Words.{same}
use Rattle.texts.specs.Forms.{is_new}
use Rattle.texts.proofs.Loading.{drawn-low, drawn-part, drawn-text}
use native.Mathlib.Omega.{arith}
use borrow.Author.Rules.{rules}
use Rattle.texts.proofs.calls.is_text.Goals as goal

pub slice_bounds-same-end : goal.slice_bounds-same-end
slice_bounds-same-end c = let r = c.requires in omega (arith, drawn-low (is_new c.args.form) c.args.card c.args.area.now r.sound r.form _ r.page _ _ c.put_card-n.ensures, r.page, c.put_card-n.auto.out)

pub slice_bounds-same-end-2 : goal.slice_bounds-same-end-2
slice_bounds-same-end-2 c = let r = c.requires in drawn-part (is_new c.args.form) c.args.card c.args.area.now r.sound r.form _ r.page _ _ c.put_card-n.ensures (search rules)

pub returns : goal.returns
returns c = let r = c.requires in c.same.ensures ∙ ap (same c.args.s.now) (drawn-text (is_new c.args.form) c.args.card c.args.area.now r.sound r.form _ r.page _ _ c.put_card-n.ensures)
