-- Rows drawn one behind the other, and what is drawn stays inside.
-- Assumes nothing.
use Prim.Native.Nat.{ℕ, zero, suc, ◌+◌, ◌/◌, ◌%◌, ◌≤◌, ◌<◌}
use mathlib.Core.List.{List, [], ◌∷◌, ◌++◌}
use mathlib.Core.Path.{◌≡◌, refl, sym, ap₂}
use mathlib.Core.Logic.{by_cases}
use native.Mathlib.Decide.{dec_lt}
use native.Mathlib.Numerals.{add-one}
use native.Mathlib.Omega.{arith}
use lib.ListN.{length, length-set}
use borrow.Author.Tests.{lt-ltb, le-ltb, eq-eqb, ne_eqb}
use Rattle.digits.specs.Digits.{tab, newline, ended, decimal}
use Rattle.digits.proofs.Drawn.{draws-then}
use Rattle.alarms.specs.Report.{row, rows}
use Rattle.digits.specs.Page.{Page, page, stroke, draw, Draws}

-- a row
pub row-none : (i count minutes : ℕ) (p : Page) → count ≡ 0 → p ≡ draw (row i count minutes) p
unfolding row draw
row-none i count minutes p e = rw (eq-eqb count 0 e)

pub row-some : (i count minutes : ℕ) (p p₁ p₂ p₃ p₄ : Page) → (count ≡ 0 → ⊥)
    → p₁ ≡ draw (ended tab (decimal (i / 6 + 1))) p → p₂ ≡ draw (ended tab (decimal (i % 6 + 1))) p₁ → p₃ ≡ draw (ended tab (decimal count)) p₂ → p₄ ≡ draw (ended newline (decimal minutes)) p₃
    → p₄ ≡ draw (row i count minutes) p
unfolding row
row-some i count minutes p p₁ p₂ p₃ p₄ n e₁ e₂ e₃ e₄ =
    rw (ne_eqb count 0 n)
    (draws-then (ended tab (decimal (i / 6 + 1))) _ p p₁ p₄ e₁ (draws-then (ended tab (decimal (i % 6 + 1))) _ p₁ p₂ p₄ e₂ (draws-then (ended tab (decimal count)) _ p₂ p₃ p₄ e₃ e₄)))

-- rows drawn in a loop
pub rows_none : (count minutes : ℕ → ℕ) (p : Page) → p ≡ draw (rows count minutes 0) p
unfolding rows draw
rows_none count minutes p = refl

pub rows_more : (count minutes : ℕ → ℕ) (i : ℕ) (p q r : Page) → q ≡ draw (rows count minutes i) p → r ≡ draw (row i (count i) (minutes i)) q → r ≡ draw (rows count minutes (i + 1)) p
unfolding rows
rows_more count minutes i p q r e f = rw (add-one i) (draws-then (rows count minutes i) (row i (count i) (minutes i)) p q r e f)

-- what is drawn stays inside
stroke-inside : (b : ℕ) (p : Page) → p.at ≤ length p.out → (stroke b p).at ≤ length (stroke b p).out
unfolding stroke
stroke-inside b p h =
    by_cases (dec_lt p.at (length p.out))
    (λ l. rw (lt-ltb p.at (length p.out) l) (omega (arith, length-set p.out p.at b)))
    (λ l. let k : length p.out ≤ p.at = omega arith in rw (le-ltb p.at (length p.out) k) h)

draw-inside : (w : List ℕ) (p : Page) → p.at ≤ length p.out → (draw w p).at ≤ length (draw w p).out
unfolding draw
draw-inside [] p h = h
draw-inside (b ∷ bs) p h = draw-inside bs (stroke b p) (stroke-inside b p h)

pub draws-inside : (w out left : List ℕ) (r : ℕ) → Draws w out 0 r left → r ≤ length left
draws-inside w out left r d = let h : (draw w (page out 0)).at ≤ length (draw w (page out 0)).out = draw-inside w (page out 0) (omega arith) in rw (sym d) at h

-- rows go by what stands at each place
pub rows_same : (c m d n : ℕ → ℕ) (k : ℕ) → ((i : ℕ) → i < k → (c i ≡ d i) × (m i ≡ n i)) → rows c m k ≡ rows d n k
unfolding rows
rows_same c m d n zero h = refl
rows_same c m d n (suc k) h =
    let e = h k (omega arith) in
    ap₂ (λ (x y : List ℕ). x ++ y) (rows_same c m d n k (λ i l. h i (omega arith))) (ap₂ (row k) e.0 e.1)
