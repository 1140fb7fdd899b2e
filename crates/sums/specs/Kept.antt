-- How the code keeps totals: 32 bits each, and at most 1,000 alarms taken at a time.
use Rattle.std.specs.Prelude.{Bool, true, false, cond, List, [], ◌∷◌, ℕ, ◌+◌, ◌%◌, leb, length, get_or, set, replicate}
use Rattle.sums.specs.declared.Alarm.{Alarm}
use Rattle.sums.specs.declared.Totals.{Totals}
use Rattle.sums.specs.declared.Summed.{Summed}
use Rattle.sums.specs.Alarm.{good, cell_of}

abbrev pub word : ℕ → ℕ
word n = n % 4294967296

-- one more, of m minutes, at place i
unfoldable pub more : Totals → ℕ → ℕ → Totals
more t i m =
    record { counts = set t.counts i (word (get_or t.counts i 0 + 1)); minutes = set t.minutes i (word (get_or t.minutes i 0 + m)) }

unfoldable pub plus : Totals → Alarm → Totals
plus t a = cond (good a) (more t (cell_of a) a.minutes) t

-- each alarm added in turn
unfoldable pub sum_of : Totals → List Alarm → Totals
sum_of t [] = t
sum_of t (a ∷ rest) = sum_of (plus t a) rest

abbrev pub answer : Totals → Bool → Summed
answer t refused = record { totals = t; refused = refused }

-- all of a list, or none where there are more than 1,000
unfoldable pub summed : Totals → List Alarm → Summed
summed t alarms = cond (leb (length alarms) 1000) (answer (sum_of t alarms) false) (answer t true)

abbrev pub no_totals : Totals
no_totals = record { counts = replicate 192 0; minutes = replicate 192 0 }

-- an unused place of a batch, which is not good
abbrev pub no_alarm : Alarm
no_alarm = record { number = 0; line = 0; kind = 0; minutes = 0 }

abbrev pub no_batch : List Alarm
no_batch = replicate 1000 no_alarm
