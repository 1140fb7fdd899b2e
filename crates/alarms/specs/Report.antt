-- The report: from the bytes read to the bytes printed.
use Rattle.std.specs.Prelude.{ℕ, zero, suc, ◌+◌, ◌/◌, ◌%◌, cond, List, [], ◌∷◌, ◌++◌, eqb, leb}
use Rattle.digits.specs.Digits.{tab, newline, chars, ended, decimal}
use Rattle.sums.specs.declared.Alarm.{Alarm}
use Rattle.sums.specs.Totals.{count_at, minutes_at}
use Rattle.alarms.specs.Line.{good_line, alarm_in, lines_of}

abbrev pub header : List ℕ
header = ended tab (chars "line") ++ (ended tab (chars "kind") ++ (ended tab (chars "count") ++ ended newline (chars "minutes")))

-- the row of place i, where there is any alarm
unfoldable pub row : ℕ → ℕ → ℕ → List ℕ
row i count minutes =
    cond (eqb count 0) []
    (ended tab (decimal (i / 6 + 1)) ++ (ended tab (decimal (i % 6 + 1)) ++ (ended tab (decimal count) ++ ended newline (decimal minutes))))

-- the rows of the first k places
unfoldable pub rows : (ℕ → ℕ) → (ℕ → ℕ) → ℕ → List ℕ
rows count minutes zero = []
rows count minutes (suc k) = rows count minutes k ++ row k (count k) (minutes k)

unfoldable pub table : List Alarm → List ℕ
table alarms = header ++ rows (λ i. count_at i alarms) (λ i. minutes_at i alarms) 192

-- 14 bad line, 15 too many alarms
unfoldable pub refused : ℕ → ℕ → List ℕ
refused refusal number = ended tab (decimal refusal) ++ ended newline (decimal number)

-- line n and those behind it, after these alarms
unfoldable pub told : ℕ → List Alarm → List (List ℕ) → List ℕ
told n alarms [] = table alarms
told n alarms (line ∷ lines) =
    cond (good_line line) (cond (leb n 65535) (told (suc n) (alarms ++ (alarm_in line ∷ [])) lines) (refused 15 n)) (refused 14 n)

unfoldable pub report : List ℕ → List ℕ
report input = told 1 [] (lines_of input)
