-- What is told of all that was read.
-- Assumes nothing.
use Prim.Native.Nat.{ℕ}
use mathlib.Core.List.{List}
use mathlib.Core.Path.{◌≡◌, sym, ap, ◌∙◌}
use borrow.Author.Tests.{eq-eqb, ne_eqb}
use Rattle.sums.specs.declared.Totals.{Totals}
use Rattle.alarms.specs.declared.Feed.{Feed}
use Rattle.sums.specs.Kept.{sum_of}
use Rattle.alarms.specs.Report.{refused}
use Rattle.alarms.specs.Feed.{closed, table_of, last_of, told_of, Tells}
use Rattle.digits.specs.Page.{page, draw, Draws}
use Rattle.alarms.proofs.Rows.{draws-inside}

tells : (v w out left : List ℕ) (r : ℕ) → v ≡ w → Draws v out 0 r left → Tells w out r left
tells v w out left r e d = let d' : Draws w out 0 r left = d ∙ ap (λ (x : List ℕ). draw x (page out 0)) e in record { drawn = d'; inside = draws-inside w out left r d' }

module _ (f c : Feed) (out left : List ℕ) (r : ℕ) (e : c ≡ closed f) where
  pub tells-refusal : (c.scan.refusal ≡ 0 → ⊥) → Draws (refused c.scan.refusal c.scan.lines) out 0 r left → Tells (told_of f) out r left
  unfolding told_of last_of
  tells-refusal n d = tells _ _ out left r (rw (sym e, ne_eqb c.scan.refusal 0 n)) d

  pub tells-table : (t : Totals) → c.scan.refusal ≡ 0 → t ≡ sum_of c.totals c.batch → Draws (table_of t) out 0 r left → Tells (told_of f) out r left
  unfolding told_of last_of
  tells-table t n g d = tells _ _ out left r (rw (sym e, eq-eqb c.scan.refusal 0 n, g)) d
