-- Every row of the table holds, computed from the definitions: a statement for each group of rows, and table-holds, that no group is left out.
-- Assumes nothing.
use mathlib.Core.Bool.{Bool, true}
use mathlib.Core.List.{List}
use mathlib.Core.Path.{◌≡◌, refl}
use Rattle.digits.specs.Digits.{digits_in, decimal, value}
use Rattle.sums.specs.Alarm.{good, alarm_of}
use Rattle.sums.specs.Totals.{is_at, tally}
use Rattle.sums.specs.Kept.{more, plus, sum_of, summed}
use Rattle.alarms.specs.Line.{name_of, digits_of, all_hex, hex_from, alarm_in, good_line, on_first, lines_of}
use Rattle.alarms.specs.Report.{row, rows, refused, told, report, table as totals_table}
use Rattle.alarm_examples.specs.Table.{Row, all_hold}
use Rattle.alarm_examples.specs.Lines.{alarms-read, bad-lines, every_byte}
use Rattle.alarm_examples.specs.Reports.{ends, sums-told, refusals, most, lists}
use Rattle.alarm_examples.specs.Rows.{table, EachHolds}

-- whether rows hold, by computation: to unfold this is to unfold every definition that a row may need
computed : List Row → Bool
unfolding digits_in decimal value good alarm_of is_at tally more plus sum_of summed name_of digits_of all_hex hex_from alarm_in good_line on_first lines_of row rows totals_table refused told report
computed = all_hold

pub alarms-read-hold : all_hold alarms-read ≡ true
unfolding computed
alarms-read-hold = refl

pub bad-lines-hold : all_hold bad-lines ≡ true
unfolding computed
bad-lines-hold = refl

pub every-byte-hold : all_hold every_byte ≡ true
unfolding computed
every-byte-hold = refl

pub ends-hold : all_hold ends ≡ true
unfolding computed
ends-hold = refl

pub sums-told-hold : all_hold sums-told ≡ true
unfolding computed
sums-told-hold = refl

pub refusals-hold : all_hold refusals ≡ true
unfolding computed
refusals-hold = refl

pub most-hold : all_hold most ≡ true
unfolding computed
most-hold = refl

pub lists-hold : all_hold lists ≡ true
unfolding computed
lists-hold = refl

pub table-holds : EachHolds table
table-holds = (alarms-read-hold, (bad-lines-hold, (every-byte-hold, (ends-hold, (sums-told-hold, (refusals-hold, (most-hold, (lists-hold, tt))))))))
