use mathlib.Core.Path.{refl, sym, ◌∙◌}
use lib.ListN.{length}
use Rattle.files.proofs.Served.{not-shown, shown-as, as-asked, shows-extent, reads-binary}
use Rattle.files.proofs.binary.read.Goals as goal

pub returns-then-not-reads : goal.returns-then-not-reads
returns-then-not-reads c = not-shown _ _ _ (sym c.if-not-reads.ensures)

pub returns : goal.returns
returns c = let a = c.args in
    let e = c.if-not-reads.ensures in
    let k = shows-extent a.f (length a.extent.now) _ (sym e) a.offset a.n (length a.out.now) (reads-binary a.f a.offset a.n (length a.out.now) (as-asked a.f (length a.extent.now) _ (sym e))) in
    shown-as _ _ _ _ _ _ _ (k ∙ e) refl c.show.ensures
