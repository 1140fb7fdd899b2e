use mathlib.Core.Path.{refl, sym, ◌∙◌}
use native.Mathlib.Omega.{arith}
use borrow.Author.Rules.{rules}
use borrow.Author.Tests.{eq-eqb}
use Rattle.card.proofs.Serving.{key-whole}
use Rattle.stores.proofs.Numbers.{same_at}
use Rattle.stores.proofs.Calling.{plain-call, coded-call}
use Rattle.stores.proofs.call.ruled.Goals as goal

pub returns-then-h-eq-WITH_CODE : goal.returns-then-h-eq-WITH_CODE
returns-then-h-eq-WITH_CODE c = let s = c in
    let a = s.args in
    c.with_code.ensures
    ∙ same_at (coded-call a.card a.area.now a.cmd.now s.requires.h_value a.ins c.given_of-given.ensures c.code_of-tail.ensures
    c.covered_of-covered.ensures (rw (sym c.takes_code.ensures ∙ c.if-takes_code.true, eq-eqb _ 4 c.if-h-eq-WITH_CODE.true) refl) (key-whole a.card a.area.now s.requires.ready 3 (omega arith) refl)) a.k

pub returns : goal.returns
returns c = let s = c in
    let a = s.args in
    c.without_code.ensures
    ∙ same_at (plain-call a.card a.area.now a.cmd.now s.requires.h_value a.ins c.given_of-given.ensures c.code_of-tail.ensures
    (search rules)) a.k
