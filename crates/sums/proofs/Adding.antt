-- The laws of the totals.
-- Assumes nothing.
use mathlib.Core.Path.{◌≡◌, refl, sym, ap, ap₂, ◌∙◌}
use mathlib.Core.Bool.{true, cond}
use mathlib.Core.List.{List, [], ◌∷◌, ◌++◌}
use Prim.Native.Nat.{ℕ, ◌+◌, ◌≤◌, ◌<◌}
use native.Mathlib.Numerals.{add-one}
use native.Mathlib.Omega.{arith}
use lib.Dec.{leb}
use lib.ListN.{length, take, get_or}
use lib.Seq.{take-suc}
use borrow.Author.Tests.{leb-true, le-leb, lt-leb}
use Rattle.files.proofs.Checks.{both}
use Rattle.sums.specs.declared.Alarm.{Alarm}
use Rattle.sums.specs.declared.Totals.{Totals}
use Rattle.sums.specs.Alarm.{good}
use Rattle.sums.specs.Totals.{is_at, tally, one, minutes_of, Cell}
use Rattle.sums.specs.Kept.{plus, sum_of, summed}
use Rattle.sums.specs.Says.{TotalsJoined, Reordered, TotalsReordered, SummedOnto, ListTaken, ListRefused}
use Rattle.sums.specs.Says.Reordered.{alike, behind, swapped, after}

-- what two lists joined come to, counted in any way, at every line and kind
pub tally-joined : (f : Alarm → ℕ) (i : ℕ) (xs ys : List Alarm) → tally f i (xs ++ ys) ≡ tally f i xs + tally f i ys
unfolding tally
tally-joined f i [] ys = omega arith
tally-joined f i (x ∷ xs) ys = omega (arith, tally-joined f i xs ys)

-- the order does not matter
pub tally-reordered : (f : Alarm → ℕ) (i : ℕ) (xs ys : List Alarm) → Reordered xs ys → tally f i xs ≡ tally f i ys
unfolding tally
tally-reordered f i xs ys alike = refl
tally-reordered f i xs ys (behind a r) = ap (λ (n : ℕ). cond (is_at i a) (f a) 0 + n) (tally-reordered f i _ _ r)
tally-reordered f i xs ys (swapped a b) = omega arith
tally-reordered f i xs ys (after r s) = tally-reordered f i _ _ r ∙ tally-reordered f i _ _ s

abbrev cell : ℕ → ℕ → Cell
cell n m = record { count = n; minutes = m }

pub totals-joined : TotalsJoined
totals-joined xs ys i = ap₂ (λ (n m : ℕ). cell n m) (tally-joined one i xs ys) (tally-joined minutes_of i xs ys)

pub totals-reordered : TotalsReordered
totals-reordered xs ys r i = ap₂ (λ (n m : ℕ). cell n m) (tally-reordered one i xs ys r) (tally-reordered minutes_of i xs ys r)

pub summed-onto : SummedOnto
unfolding sum_of
summed-onto t [] ys = refl
summed-onto t (x ∷ xs) ys = summed-onto (plus t x) xs ys

-- one alarm more
pub sum_more : (t : Totals) (ys : List Alarm) (i : ℕ) (d : Alarm) → i < length ys → plus (sum_of t (take i ys)) (get_or ys i d) ≡ sum_of t (take (i + 1) ys)
unfolding sum_of
sum_more t ys i d h = sym (ap (λ (k : ℕ). sum_of t (take k ys)) (add-one i) ∙ ap (sum_of t) (take-suc ys i d h) ∙ sym (summed-onto t (take i ys) (get_or ys i d ∷ [])))

-- all of them, or none
pub list-taken : ListTaken
unfolding summed
list-taken t xs h = rw (le-leb (length xs) 1000 h)

pub list-refused : ListRefused
unfolding summed
list-refused t xs h = rw (lt-leb (length xs) 1000 h)

-- a good alarm's line and kind
pub good-bounds : (a : Alarm) → good a ≡ true → (1 ≤ a.line) × (a.line ≤ 32) × (1 ≤ a.kind) × (a.kind ≤ 6)
unfolding good
good-bounds a e =
    let k = both _ _ e in
    let l = both (leb 1 a.line) (leb a.line 32) k.0 in
    let m = both (leb 1 a.kind) (leb a.kind 6) k.1 in
    (leb-true _ _ l.0, leb-true _ _ l.1, leb-true _ _ m.0, leb-true _ _ m.1)
