use mathlib.Core.Path.{refl, ap, ◌∙◌}
use Rattle.texts.specs.Reading.{credential_in, session_in, response_in}
use Rattle.texts.specs.Forms.{is_new}
use Rattle.texts.proofs.Loading.{card-loaded}
use Rattle.texts.proofs.load.card_in.Goals as goal

pub directory_in-directory-requires : goal.directory_in-directory-requires
directory_in-directory-requires c = c.requires

pub returns : goal.returns
returns c = card-loaded (is_new c.args.form) c.args.s.now _ _ _ _ _ _ _ _ _ _ _ c.credential_in-device.ensures (c.credential_in-admin.ensures ∙ ap credential_in c.fields.ensures) (c.credential_in-user.ensures ∙ ap credential_in c.fields-2.ensures) (c.credential_in-transport.ensures ∙ ap credential_in c.fields-3.ensures) c.directory_in-directory.ensures (c.session_in-session.ensures ∙ ap (session_in _) c.fields-rest.ensures) (c.response_in-response.ensures ∙ ap response_in c.fields-rest.ensures) c.no_journal-journal.ensures refl
