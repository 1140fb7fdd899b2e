-- A place is a line and a kind.
-- Assumes nothing.
use Prim.Native.Nat.{ℕ, ◌+◌, ◌/◌, ◌%◌, ◌≤◌, ◌<◌}
use mathlib.Core.Bool.{Bool, true, false, ◌&&◌}
use mathlib.Core.Path.{◌≡◌, refl, sym, ◌∙◌}
use native.Mathlib.Omega.{arith}
use lib.Dec.{eqb}
use borrow.Author.Tests.{eqb-true, eqb-false, eq-eqb, le-leb}
use Rattle.sums.specs.declared.Alarm.{Alarm}
use Rattle.sums.specs.Alarm.{good, cell_of}
use Rattle.sums.specs.Totals.{is_at}
use Rattle.sums.specs.Says.{LineAndKind}
use Rattle.sums.proofs.Adding.{good-bounds}

good-at : (i : ℕ) (a : Alarm) → i < 192 → a.line ≡ i / 6 + 1 → a.kind ≡ i % 6 + 1 → good a ≡ true
unfolding good
good-at i a h e f =
    let l : 1 ≤ a.line = omega arith in
    let m : a.line ≤ 32 = omega arith in
    let n : 1 ≤ a.kind = omega arith in
    let o : a.kind ≤ 6 = omega arith in
    rw (le-leb 1 a.line l, le-leb a.line 32 m, le-leb 1 a.kind n, le-leb a.kind 6 o)

-- the place of a line and kind, and the line and kind of a place
module _ (i : ℕ) (a : Alarm) (h : i < 192) where
  is-both : good a ≡ true → cell_of a ≡ i → (a.line ≡ i / 6 + 1) × (a.kind ≡ i % 6 + 1)
  is-both g e = let b = good-bounds a g in (omega (arith, b.0, b.1, b.2, b.3), omega (arith, b.0, b.1, b.2, b.3))

  by_both : (x y : Bool) → eqb a.line (i / 6 + 1) ≡ x → eqb a.kind (i % 6 + 1) ≡ y → (g z : Bool) → good a ≡ g → eqb (cell_of a) i ≡ z → (g && z) ≡ (x && y)
  by_both true true e f g z p q =
      let l = eqb-true a.line (i / 6 + 1) e in
      let k = eqb-true a.kind (i % 6 + 1) f in
      let c : cell_of a ≡ i = omega arith in
      rw (sym p ∙ good-at i a h l k, sym q ∙ eq-eqb (cell_of a) i c)
  by_both true false e f true true p q = absurd (eqb-false a.kind (i % 6 + 1) f (is-both p (eqb-true (cell_of a) i q)).1)
  by_both false y e f true true p q = absurd (eqb-false a.line (i / 6 + 1) e (is-both p (eqb-true (cell_of a) i q)).0)
  by_both true false e f true false p q = refl
  by_both true false e f false z p q = refl
  by_both false y e f true false p q = refl
  by_both false y e f false z p q = refl

pub line-and-kind : LineAndKind
unfolding is_at
line-and-kind i a h = by_both i a h _ _ refl refl _ _ refl refl
