-- What the code keeps at a line and kind are the totals there, as long as nothing wraps.
-- Assumes nothing.
use Prim.Native.Nat.{ℕ, zero, suc, ◌+◌, ◌*◌, ◌≤◌, ◌<◌}
use mathlib.Core.Bool.{Bool, true, false, cond, ◌&&◌}
use mathlib.Core.List.{List, [], ◌∷◌}
use mathlib.Core.Path.{◌≡◌, refl, sym, ap₂, ◌∙◌}
use native.Mathlib.Nat.{mul-suc}
use native.Mathlib.Omega.{arith}
use lib.Dec.{eqb}
use lib.ListN.{length, get_or, set, replicate, length-set, get_or-replicate}
use lib.Seq.{get_or-set_same, get_or-set_other}
use borrow.Author.Tests.{eqb-true, eqb-false}
use Rattle.sums.specs.declared.Alarm.{Alarm}
use Rattle.sums.specs.declared.Totals.{Totals}
use Rattle.sums.specs.Alarm.{good, cell_of}
use Rattle.sums.specs.Totals.{is_at, tally, one, minutes_of, count_at, minutes_at, Cell}
use Rattle.sums.specs.Kept.{word, more, plus, sum_of, no_totals, no_alarm}
use Rattle.sums.specs.Says.{NoOverflow}

-- a list of numbers, one of them changed where the test holds
set-where : (l : List ℕ) (i k v : ℕ) (g : Bool) → i < length l → get_or (cond g (set l k v) l) i 0 ≡ cond (g && eqb k i) v (get_or l i 0)
set-where l i k v false h = refl
set-where l i k v true h = by_place (eqb k i) refl
  where
    by_place : (b : Bool) → eqb k i ≡ b → get_or (set l k v) i 0 ≡ cond (eqb k i) v (get_or l i 0)
    by_place true e = let s : k ≡ i = eqb-true k i e in rw (e, s) (get_or-set_same l i v 0 h)
    by_place false e = let n : i ≡ k → ⊥ = λ z. eqb-false k i e (sym z) in rw e (get_or-set_other l k i v 0 n)

-- where nothing is changed the value there is what it was
cell-where : (l : List ℕ) (i k m : ℕ) (g : Bool) → i < length l → get_or (cond g (set l k (word (get_or l k 0 + m))) l) i 0 ≡ cond (g && eqb k i) (word (get_or l i 0 + m)) (get_or l i 0)
cell-where l i k m g h = set-where l i k (word (get_or l k 0 + m)) g h ∙ by_place (g && eqb k i) refl
  where
    by_place : (b : Bool) → (g && eqb k i) ≡ b → cond (g && eqb k i) (word (get_or l k 0 + m)) (get_or l i 0) ≡ cond (g && eqb k i) (word (get_or l i 0 + m)) (get_or l i 0)
    by_place false e = rw e
    by_place true e = let s : k ≡ i = eqb-true k i (second g e) in rw s
      where
        second : (g : Bool) → (g && eqb k i) ≡ true → eqb k i ≡ true
        second true e = e
        second false e = absurd (let z : ◌≡◌ {A = ℕ} 0 1 = cc in omega arith)

-- a column of the totals: the counts, or the minutes
module _ (col : Totals → List ℕ) (f : Alarm → ℕ) (step : (t : Totals) (a : Alarm) → col (plus t a) ≡ cond (good a) (set (col t) (cell_of a) (word (get_or (col t) (cell_of a) 0 + f a))) (col t)) (none : col no_totals ≡ replicate 192 0) (i : ℕ) (inside : i < 192) where
  col-length : (t : Totals) (a : Alarm) → length (col t) ≡ 192 → length (col (plus t a)) ≡ 192
  col-length t a l = rw (step t a) (by-good (good a))
    where
      by-good : (g : Bool) → length (cond g (set (col t) (cell_of a) (word (get_or (col t) (cell_of a) 0 + f a))) (col t)) ≡ 192
      by-good true = length-set (col t) (cell_of a) (word (get_or (col t) (cell_of a) 0 + f a)) ∙ l
      by-good false = l

  col-plus : (t : Totals) (a : Alarm) → length (col t) ≡ 192 → get_or (col (plus t a)) i 0 ≡ cond (is_at i a) (word (get_or (col t) i 0 + f a)) (get_or (col t) i 0)
  unfolding is_at
  col-plus t a l = let h : i < length (col t) = omega arith in rw (step t a) (cell-where (col t) i (cell_of a) (f a) (good a) h)

  wraps : (b : Bool) (c m n : ℕ) → word (cond b (word (c + m)) c + n) ≡ word (c + (cond b m 0 + n))
  wraps true c m n = omega arith
  wraps false c m n = omega arith

  below : (b : Bool) (c m : ℕ) → c < 4294967296 → cond b (word (c + m)) c < 4294967296
  below true c m h = omega arith
  below false c m h = h

  col-sum : (xs : List Alarm) (t : Totals) → length (col t) ≡ 192 → get_or (col t) i 0 < 4294967296 → get_or (col (sum_of t xs)) i 0 ≡ word (get_or (col t) i 0 + tally f i xs)
  unfolding sum_of tally
  col-sum [] t l h = omega arith
  col-sum (a ∷ xs) t l h =
      let e = col-plus t a l in
      let s : get_or (col (plus t a)) i 0 < 4294967296 = rw e (below (is_at i a) (get_or (col t) i 0) (f a) h) in
      col-sum xs (plus t a) (col-length t a l) s ∙ rw e (wraps (is_at i a) (get_or (col t) i 0) (f a) (tally f i xs))

  col-exact : (xs : List Alarm) → tally f i xs < 4294967296 → get_or (col (sum_of no_totals xs)) i 0 ≡ tally f i xs
  col-exact xs h =
      let l : length (col no_totals) ≡ 192 = rw none in
      let z : get_or (col no_totals) i 0 ≡ 0 = rw none (get_or-replicate 192 i 0 0 inside) in
      let y : get_or (col no_totals) i 0 < 4294967296 = omega arith in
      col-sum xs no_totals l y ∙ rw z (omega arith)

counts_step : (t : Totals) (a : Alarm) → (plus t a).counts ≡ cond (good a) (set t.counts (cell_of a) (word (get_or t.counts (cell_of a) 0 + 1))) t.counts
unfolding plus more
counts_step t a = by-good (good a)
  where
    by-good : (g : Bool) → (cond g record { counts = set t.counts (cell_of a) (word (get_or t.counts (cell_of a) 0 + 1)); minutes = set t.minutes (cell_of a) (word (get_or t.minutes (cell_of a) 0 + a.minutes)) } t).counts ≡ cond g (set t.counts (cell_of a) (word (get_or t.counts (cell_of a) 0 + 1))) t.counts
    by-good true = refl
    by-good false = refl

minutes-step : (t : Totals) (a : Alarm) → (plus t a).minutes ≡ cond (good a) (set t.minutes (cell_of a) (word (get_or t.minutes (cell_of a) 0 + a.minutes))) t.minutes
unfolding plus more
minutes-step t a = by-good (good a)
  where
    by-good : (g : Bool) → (cond g record { counts = set t.counts (cell_of a) (word (get_or t.counts (cell_of a) 0 + 1)); minutes = set t.minutes (cell_of a) (word (get_or t.minutes (cell_of a) 0 + a.minutes)) } t).minutes ≡ cond g (set t.minutes (cell_of a) (word (get_or t.minutes (cell_of a) 0 + a.minutes))) t.minutes
    by-good true = refl
    by-good false = refl

abbrev cell : ℕ → ℕ → Cell
cell n m = record { count = n; minutes = m }

-- an alarm is counted for at most f at a place, so a list for at most that many times its length
at_most : (b : Bool) (n most : ℕ) → n ≤ most → cond b n 0 ≤ most
at_most true n most h = h
at_most false n most h = omega arith

tally-small : (f : Alarm → ℕ) (most i : ℕ) (xs : List Alarm) → ((j : ℕ) → j < length xs → f (get_or xs j no_alarm) ≤ most) → tally f i xs ≤ most * length xs
unfolding tally
tally-small f most i [] h = omega arith
tally-small f most i (a ∷ xs) h =
    let k : tally f i xs ≤ most * length xs = tally-small f most i xs (λ j l. h (suc j) (omega arith)) in
    let z : f a ≤ most = h 0 (omega arith) in
    let e : most * suc (length xs) ≡ most * length xs + most = mul-suc most (length xs) in
    omega (arith, at_most (is_at i a) (f a) most z)

-- 65,535 times 65,535 fits in 32 bits
pub no_overflow : NoOverflow
no_overflow xs l small i h =
    let a : count_at i xs < 4294967296 = omega (arith, tally-small one 1 i xs (λ j k. omega arith)) in
    let b : minutes_at i xs < 4294967296 = omega (arith, tally-small minutes_of 65535 i xs small) in
    ap₂ (λ (n m : ℕ). cell n m)
    (col-exact (λ t. t.counts) one counts_step refl i h xs a)
    (col-exact (λ t. t.minutes) minutes_of minutes-step refl i h xs b)

-- unused places are passed over
pub sum-unused : (t : Totals) (k : ℕ) → sum_of t (replicate k no_alarm) ≡ t
unfolding sum_of plus good
sum-unused t zero = refl
sum-unused t (suc k) = sum-unused t k
