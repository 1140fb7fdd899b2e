use mathlib.Core.Path.{refl, sym, ◌∙◌}
use lib.ListN.{length}
use Rattle.files.proofs.Served.{not-stored, stored-as, as-asked, fits-extent, binary-fits}
use Rattle.files.proofs.binary.update.Goals as goal

pub returns-then-not-updates : goal.returns-then-not-updates
returns-then-not-updates c = let e = c.if-not-updates.ensures in record { answer-is = e; left_is = not-stored _ _ _ _ (sym e) }

pub returns : goal.returns
returns c = let a = c.args in
    let n = length a.given.now in
    let e = c.if-not-updates.ensures in
    let k = fits-extent a.f (length a.extent.now) _ (sym e) a.offset n (binary-fits a.f a.offset n (as-asked a.f (length a.extent.now) _ (sym e))) in
    record { answer-is = c.store.ensures.answer-is ∙ k ∙ e; left_is = stored-as _ a.extent.now a.offset a.given.now _ a.offset _ (k ∙ e) refl c.store.ensures.left_is }
