use lib.ListN.{length}
use Rattle.files.proofs.Served.{lent-shown, off-shown, reads-binary}
use Rattle.files.proofs.area.read_binary.Goals as goal

pub returns-in_default : goal.returns-in_default
returns-in_default c = let a = c.args in off-shown a.x a.area.now c.in_default.ensures _ _ _

pub returns : goal.returns
returns c = let a = c.args in
    let b = c.in-Some in
    lent-shown a.x a.area.now b.bytes.start b.bytes.end b.ensures _ a.offset a.n _ _ _ (λ t. (reads-binary a.x.file a.offset a.n (length a.out.now) t).0) c.read.ensures
