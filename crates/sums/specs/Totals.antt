-- The totals of a list of alarms: for each line and kind how many, and the sum of their minutes.
use Rattle.std.specs.Prelude.{Bool, cond, ◌&&◌, List, [], ◌∷◌, ℕ, ◌+◌, eqb}
use Rattle.sums.specs.declared.Alarm.{Alarm}
use Rattle.sums.specs.Alarm.{good, cell_of}

-- a good alarm of the line and kind at place i
unfoldable pub is_at : ℕ → Alarm → Bool
is_at i a = good a && eqb (cell_of a) i

-- what the alarms of a place come to, each counted as f says
unfoldable pub tally : (Alarm → ℕ) → ℕ → List Alarm → ℕ
tally f i [] = 0
tally f i (a ∷ more) = cond (is_at i a) (f a) 0 + tally f i more

abbrev pub one : Alarm → ℕ
one a = 1

abbrev pub minutes_of : Alarm → ℕ
minutes_of a = a.minutes

abbrev pub count_at : ℕ → List Alarm → ℕ
count_at i alarms = tally one i alarms

abbrev pub minutes_at : ℕ → List Alarm → ℕ
minutes_at i alarms = tally minutes_of i alarms

-- what stands at a place
pub record Cell : Type 0 where
  pub count : ℕ
  pub minutes : ℕ

abbrev pub totals : List Alarm → ℕ → Cell
totals alarms i = record { count = count_at i alarms; minutes = minutes_at i alarms }
