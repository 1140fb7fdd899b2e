use Rattle.cipher.proofs.Halves.{mixed-halves}
use Rattle.cipher.proofs.word.mixed.Goals as goal

pub returns : goal.returns
returns c = let twice = c in
    let at = twice in
    mixed-halves at.args.w at.turned-q.result twice.doubled.result c.turned.result c.turned-2.result
    at.turned-q.ensures twice.doubled.ensures c.turned.ensures c.turned-2.ensures
