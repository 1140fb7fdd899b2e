-- The table: lines, what is printed, and lists.
use Rattle.std.specs.Prelude.{true, List, [], ◌∷◌, ◌≡◌}
use Rattle.alarm_examples.specs.Table.{Row, all_hold}
use Rattle.alarm_examples.specs.Lines.{alarms-read, bad-lines, every_byte}
use Rattle.alarm_examples.specs.Reports.{ends, sums-told, refusals, most, lists}

abbrev pub table : List (List Row)
table = alarms-read ∷ bad-lines ∷ every_byte ∷ ends ∷ sums-told ∷ refusals ∷ most ∷ lists ∷ []

-- every row of every group holds
abbrev pub EachHolds : List (List Row) → Type 0
EachHolds [] = Unit {0}
EachHolds (rows ∷ more) = (all_hold rows ≡ true) × EachHolds more
