use mathlib.Core.Bool.{true, false}
use mathlib.Core.Path.{◌≡◌}
use Rattle.texts.specs.Forms.{is_new}
use Rattle.texts.proofs.Drawing.{no-home, a-home}
use Rattle.texts.proofs.text.put_home.Goals as goal

pub returns-in-New : goal.returns-in-New
returns-in-New c =
    let e : is_new c.args.form ≡ true = rw c.in-New.is in
    a-home (is_new c.args.form) c.args.d c.args.place e _ _ _ c.home_fid-fid.ensures c.hex_field.ensures

pub returns-in-Old : goal.returns-in-Old
returns-in-Old c =
    let e : is_new c.args.form ≡ false = rw c.in-Old.is in
    no-home (is_new c.args.form) c.args.d c.args.place e _
