use Rattle.texts.specs.Forms.{is_new}
use Rattle.texts.proofs.Loading.{write-short, write_done}
use borrow.Author.Rules.{rules}
use Rattle.texts.proofs.calls.hand_over.Goals as goal

pub returns-then-not-show : goal.returns-then-not-show
returns-then-not-show c = let a = c.args in let r = c.requires in write-short (is_new a.form) a.card a.area.now a.out.now r.area r.sound r.form _ r.page _ _ (search rules) c.put_card-n.ensures _ _ c.show.ensures _ c.if-not-show.true c.answer.ensures

pub returns : goal.returns
returns c = let a = c.args in let r = c.requires in write_done (is_new a.form) a.card a.area.now a.out.now r.area r.sound r.form _ r.page _ _ (search rules) c.put_card-n.ensures _ _ c.show.ensures _ c.if-not-show.false c.answer-2.ensures
