use mathlib.Core.Path.{sym, ◌∙◌}
use borrow.Author.Rules.{rules}
use Rattle.limpetnook.proofs.Coding.{not-coded, is-coded}
use Rattle.limpetnook.proofs.limpet_code.Goals as goal

pub returns-then-not-good_lengths : goal.returns-then-not-good_lengths
returns-then-not-good_lengths c = not-coded _ _ _ _ (sym c.good_lengths.ensures ∙ c.if-not-good_lengths.true)

pub returns : goal.returns
returns c = let a = c.args in
    is-coded a.key.now a.challenge.now a.message.now a.code.now (sym c.good_lengths.ensures ∙ c.if-not-good_lengths.false)
    c.block_of.ensures c.block_of-2.ensures c.mac-block.ensures (search rules) c.show.ensures.left_is
