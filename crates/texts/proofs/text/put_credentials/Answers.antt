use Rattle.texts.proofs.Drawing.{credentials-drawn}
use Rattle.texts.proofs.text.put_credentials.Goals as goal

pub returns : goal.returns
returns c = credentials-drawn c.args.card _ _ _ _ _ c.put_credential-a.ensures c.put_credential-b.ensures c.put_credential-c.ensures c.put_credential.ensures
