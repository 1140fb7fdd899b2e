use mathlib.Core.Path.{refl, sym}
use lib.Seq.{length-take-le}
use Rattle.lines.proofs.Telling.{hex-few, answer-inside, few-taken, command-written}
use borrow.Author.Rules.{rules}
use Rattle.lines.proofs.script.command_line.Goals as goal

pub hex_bytes-n-requires : goal.hex_bytes-n-requires
hex_bytes-n-requires c = (hex-few c.args.first.now c.requires.0, search rules)

pub hex_bytes-m-requires : goal.hex_bytes-m-requires
hex_bytes-m-requires c = (hex-few c.args.second.now c.requires.1, search rules)

pub slice_bounds-command-end : goal.slice_bounds-command-end
slice_bounds-command-end c = sym (length-take-le _ _ (search rules))

pub slice_bounds-command-end-2 : goal.slice_bounds-command-end-2
slice_bounds-command-end-2 c = sym (length-take-le _ _ (search rules))

pub slice_bounds-reply-end : goal.slice_bounds-reply-end
slice_bounds-reply-end c = answer-inside _ _ _ _ _ _ _ _ c.command-done.ensures

pub slice_bounds-put_answer-end : goal.slice_bounds-put_answer-end
slice_bounds-put_answer-end c = sym (length-take-le _ _ (answer-inside _ _ _ _ _ _ _ _ c.command-done.ensures))

pub put_answer-n-requires : goal.put_answer-n-requires
put_answer-n-requires c = (few-taken c.command-done.result.n _ (search rules), c.requires.2)

pub returns : goal.returns
returns c = let a = c.args in
    command-written a.number a.out.now a.card _ a.area.now _ a.first.now a.second.now _ _ _ _ c.command-done.result _ _ c.hex_bytes-n.ensures.front-is c.hex_bytes-m.ensures.front-is c.command-done.ensures c.put_answer-n.ensures refl refl
