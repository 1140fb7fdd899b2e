use mathlib.Core.Path.{sym, ap, ◌∙◌}
use Rattle.files.specs.Record.{located_on}
use Rattle.files.proofs.Served.{located-place, located-none}
use Rattle.files.proofs.area.locate_in.Goals as goal

pub returns-then-not-is_place : goal.returns-then-not-is_place
returns-then-not-is_place c = let a = c.args in
    c.nowhere.ensures ∙ sym (located-none a.d a.place a.area.now a.n (sym c.if-not-is_place.ensures))

pub returns : goal.returns
returns c = let a = c.args in
    c.locate.ensures ∙ ap (λ x. located_on x a.area.now a.n) c.addressed.ensures
    ∙ located-place a.d a.place a.area.now a.n (sym c.if-not-is_place.ensures)
