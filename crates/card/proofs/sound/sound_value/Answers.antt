use mathlib.Core.Bool.{true, false}
use mathlib.Core.Path.{◌≡◌, sym, ◌∙◌}
use lib.ListN.{length}
use borrow.Author.Rules.{rules}
use borrow.Author.Tests.{eq-eqb}
use Rattle.rules.specs.Sound.{is_key, good_value, sound_value}
use Rattle.card.proofs.Values.{key-kept, pin-kept}
use Rattle.card.proofs.sound.sound_value.Goals as goal

pub returns-then-is_key : goal.returns-then-is_key
unfolding good_value sound_value
returns-then-is_key c = let s = c in
    let x = s.args.x in
    let n : length x.value ≡ 16 = search rules in
    let k : is_key s.args.n ≡ true = sym c.is_key.ensures ∙ c.if-is_key.true in
    rw (eq-eqb _ _ n, k, c.from-len.ensures) (key-kept x.value x.len n)

pub returns-else-is_key : goal.returns-else-is_key
unfolding good_value sound_value
returns-else-is_key c = let s = c in
    let x = s.args.x in
    let n : length x.value ≡ 16 = search rules in
    let k : is_key s.args.n ≡ false = sym c.is_key.ensures ∙ c.if-is_key.false in
    rw (eq-eqb _ _ n, k, c.good_pin_length.ensures, c.from-len.ensures, s.requires k)
    (sym (pin-kept x.value x.len n))
