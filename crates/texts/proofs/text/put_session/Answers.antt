use mathlib.Core.Path.{refl}
use borrow.Author.Rules.{rules}
use Rattle.texts.specs.Text.{session_line}
use Rattle.digits.specs.Digits.{or_dash}
use Rattle.texts.specs.Forms.{is_new}
use Rattle.texts.proofs.Drawing.{line-more, line-two, three-rights, current-front, field-as}
use Rattle.texts.proofs.text.put_session.Goals as goal

pub returns : goal.returns
unfolding session_line
returns c =
    line-more _ _ _ _ _ _ refl
    (line-more _ _ _ _ _ _ refl
    (line-more _ _ _ _ _ _ (three-rights c.args.card.session.rights (search rules) _ _ c.put_rights-a.ensures)
    (line-more _ _ _ _ _ _ (field-as or_dash _ _ _ _ _ c.front_field-b.ensures (current-front c.args.card.directory c.args.card.session.current _ _ c.file-f.ensures c.fid_length-n.ensures.is))
    (line-more _ _ _ _ _ _ c.put_challenge-c.ensures
    (line-two (is_new c.args.form) c.args.card.directory c.args.card.session.folder _ c.separator.ensures _ _ _ _ _ c.put_response-e.ensures c.put_home.ensures)))))
