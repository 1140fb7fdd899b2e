use Rattle.texts.specs.Forms.{is_new}
use Rattle.texts.proofs.Drawing.{card-drawn}
use Rattle.texts.proofs.text.put_card.Goals as goal

pub returns : goal.returns
returns c = card-drawn (is_new c.args.form) c.args.card c.args.area.now _ _ _ _ _ c.put_credentials-a.ensures c.put_session-b.ensures c.put_folders-c.ensures c.put_files.ensures
