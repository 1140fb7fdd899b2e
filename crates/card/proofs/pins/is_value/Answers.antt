use Prim.Native.Nat.{ℕ}
use mathlib.Core.Path.{◌≡◌, refl, sym, ap, ◌∙◌}
use mathlib.Core.List.{List, [], ◌∷◌}
use native.Mathlib.Omega.{arith}
use lib.Dec.{eqb}
use borrow.Author.Rules.{rules}
use borrow.Author.Tests.{ne_eqb}
use lib.ListN.{length, get_or-eq_default}
use Rattle.rules.specs.declared.Credential.{Credential}
use Rattle.rules.specs.Words.{same}
use Rattle.rules.specs.State.{how_many, no_credential, value_of}
use Rattle.card.proofs.pins.is_value.Goals as goal

none-given : (ys : List ℕ) → eqb (length ys) 0 ≡ same [] ys
unfolding same
none-given [] = refl
none-given (y ∷ ys) = ne_eqb (length (y ∷ ys)) 0 (λ e. omega (arith, e))

pub returns-else-n-lt-CREDENTIALS : goal.returns-else-n-lt-CREDENTIALS
returns-else-n-lt-CREDENTIALS c = let a = c.args in
    let n : length a.card.credentials ≡ how_many = search rules in
    c.is_empty.ensures ∙ none-given a.given.now
    ∙ ap (λ (x : Credential). same (value_of x) a.given.now) (sym (get_or-eq_default a.card.credentials no_credential (omega (arith, n, c.if-n-lt-CREDENTIALS.false))))
