use Rattle.cipher.proofs.Halves.{key-follows, core-key}
use borrow.Author.Rules.{rules}
use Rattle.cipher.proofs.next_key.Goals as goal

pub returns : goal.returns
returns c = let at = c in
    let args = at.args in
    rw c.from.ensures
    (key-follows args.k at.key_core.result args.rc (search rules) (search rules)
    (core-key args.k.hi args.t at.key_core.result args.rc (search rules) at.requires at.key_core.ensures))
