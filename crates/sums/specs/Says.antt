-- What holds of the totals, for any lists of alarms.
use Rattle.std.specs.Prelude.{ℕ, ◌+◌, ◌/◌, ◌%◌, ◌≤◌, ◌<◌, true, false, ◌&&◌, List, ◌∷◌, ◌++◌, ◌≡◌, eqb, length, get_or}
use Rattle.sums.specs.declared.Alarm.{Alarm}
use Rattle.sums.specs.declared.Totals.{Totals}
use Rattle.sums.specs.Totals.{is_at, Cell, totals}
use Rattle.sums.specs.Kept.{answer, sum_of, summed, no_totals, no_alarm}

-- place i is line i / 6 + 1, kind i % 6 + 1
abbrev pub LineAndKind : Type 0
LineAndKind = (i : ℕ) (a : Alarm) → i < 192 → is_at i a ≡ (eqb a.line (i / 6 + 1) && eqb a.kind (i % 6 + 1))

abbrev pub together : Cell → Cell → Cell
together x y = record { count = x.count + y.count; minutes = x.minutes + y.minutes }

-- the totals of two lists joined are the sums of their totals
abbrev pub TotalsJoined : Type 0
TotalsJoined = (xs ys : List Alarm) (i : ℕ) → totals (xs ++ ys) i ≡ together (totals xs i) (totals ys i)

-- one list in another order: neighbours change places, as often as it takes
pub data Reordered : List Alarm → List Alarm → Type 0 where
  alike : {xs : List Alarm} → Reordered xs xs
  behind : (a : Alarm) {xs ys : List Alarm} → Reordered xs ys → Reordered (a ∷ xs) (a ∷ ys)
  swapped : (a b : Alarm) {xs : List Alarm} → Reordered (a ∷ b ∷ xs) (b ∷ a ∷ xs)
  after : {xs ys zs : List Alarm} → Reordered xs ys → Reordered ys zs → Reordered xs zs

-- the order of the alarms does not matter
abbrev pub TotalsReordered : Type 0
TotalsReordered = (xs ys : List Alarm) → Reordered xs ys → (i : ℕ) → totals xs i ≡ totals ys i

-- ---- what the code keeps
-- no alarm has more than 65,535 minutes: two bytes
abbrev pub TwoBytes : List Alarm → Type 0
TwoBytes xs = (j : ℕ) → j < length xs → (get_or xs j no_alarm).minutes ≤ 65535

-- what is kept at a place
abbrev pub kept_at : Totals → ℕ → Cell
kept_at t i = record { count = get_or t.counts i 0; minutes = get_or t.minutes i 0 }

-- up to 65,535 alarms are summed without overflow: what is kept are the totals
abbrev pub NoOverflow : Type 0
NoOverflow = (xs : List Alarm) → length xs ≤ 65535 → TwoBytes xs → (i : ℕ) → i < 192 → kept_at (sum_of no_totals xs) i ≡ totals xs i

-- a list summed onto the totals of another is both lists summed
abbrev pub SummedOnto : Type 0
SummedOnto = (t : Totals) (xs ys : List Alarm) → sum_of (sum_of t xs) ys ≡ sum_of t (xs ++ ys)

-- a list of up to 1,000 is taken whole
abbrev pub ListTaken : Type 0
ListTaken = (t : Totals) (xs : List Alarm) → length xs ≤ 1000 → summed t xs ≡ answer (sum_of t xs) false

-- a longer one is refused: the totals as they were, and the answer says so
abbrev pub ListRefused : Type 0
ListRefused = (t : Totals) (xs : List Alarm) → 1000 < length xs → summed t xs ≡ answer t true
