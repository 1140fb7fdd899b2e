-- A buffer of 16,384 bytes takes every report whole.
-- Assumes nothing.
use Prim.Native.Nat.{ℕ, zero, suc, ◌+◌, ◌*◌, ◌/◌, ◌%◌, ◌≤◌}
use mathlib.Core.Bool.{Bool, true, false, cond}
use mathlib.Core.List.{List, [], ◌∷◌, ◌++◌}
use mathlib.Core.Path.{◌≡◌, ap, ◌∙◌}
use native.Mathlib.Omega.{arith}
use lib.Dec.{eqb, leb}
use lib.ListN.{length, take, drop, length-append}
use lib.Seq.{take-append_seam}
use Rattle.digits.specs.Digits.{ended, decimal}
use Rattle.sums.specs.declared.Alarm.{Alarm}
use Rattle.alarms.specs.Line.{good_line, alarm_in, lines_of}
use Rattle.sums.specs.Totals.{count_at, minutes_at}
use Rattle.alarms.specs.Report.{header, row, rows, table, refused, told, report}
use Rattle.alarms.specs.Says.{joined, ReportPrinted}
use Rattle.files.specs.Part.{over}
use Rattle.digits.specs.Page.{page, draw, Draws}
use Rattle.digits.proofs.Decimal.{decimal-most}
use Rattle.digits.proofs.Drawn.{drawn-over}
use Rattle.alarms.proofs.Reports.{report-told}

field-short : (b n : ℕ) → length (ended b (decimal n)) ≤ 21
field-short b n = omega (arith, length-append (decimal n) (b ∷ []), decimal-most n)

row-short : (i count minutes : ℕ) → length (row i count minutes) ≤ 84
unfolding row
row-short i count minutes = by_count (eqb count 0)
  where
    by_count : (z : Bool) → length (cond z [] (ended 9 (decimal (i / 6 + 1)) ++ (ended 9 (decimal (i % 6 + 1)) ++ (ended 9 (decimal count) ++ ended 10 (decimal minutes))))) ≤ 84
    by_count true = omega arith
    by_count false =
        omega (
          arith,
          length-append (ended 9 (decimal (i / 6 + 1))) (ended 9 (decimal (i % 6 + 1)) ++ (ended 9 (decimal count) ++ ended 10 (decimal minutes))),
          length-append (ended 9 (decimal (i % 6 + 1))) (ended 9 (decimal count) ++ ended 10 (decimal minutes)),
          length-append (ended 9 (decimal count)) (ended 10 (decimal minutes)),
          field-short 9 (i / 6 + 1),
          field-short 9 (i % 6 + 1),
          field-short 9 count,
          field-short 10 minutes,
        )

rows_short : (count minutes : ℕ → ℕ) (k : ℕ) → length (rows count minutes k) ≤ 84 * k
unfolding rows
rows_short count minutes zero = omega arith
rows_short count minutes (suc k) = omega (arith, length-append (rows count minutes k) (row k (count k) (minutes k)), rows_short count minutes k, row-short k (count k) (minutes k))

table-short : (xs : List Alarm) → length (table xs) ≤ 16384
unfolding table
table-short xs = omega (arith, length-append header (rows (λ i. count_at i xs) (λ i. minutes_at i xs) 192), rows_short (λ i. count_at i xs) (λ i. minutes_at i xs) 192)

refused-short : (r n : ℕ) → length (refused r n) ≤ 16384
unfolding refused
refused-short r n = omega (arith, length-append (ended 9 (decimal r)) (ended 10 (decimal n)), field-short 9 r, field-short 10 n)

told-short : (n : ℕ) (xs : List Alarm) (lines : List (List ℕ)) → length (told n xs lines) ≤ 16384
unfolding told
told-short n xs [] = table-short xs
told-short n xs (l ∷ ls) = by_tests (good_line l) (leb n 65535) (told-short (suc n) (xs ++ (alarm_in l ∷ [])) ls)
  where
    by_tests : (a b : Bool) → length (told (suc n) (xs ++ (alarm_in l ∷ [])) ls) ≤ 16384 → length (cond a (cond b (told (suc n) (xs ++ (alarm_in l ∷ [])) ls) (refused 15 n)) (refused 14 n)) ≤ 16384
    by_tests true true h = h
    by_tests true false h = refused-short 15 n
    by_tests false b h = refused-short 14 n

report-short : (input : List ℕ) → length (report input) ≤ 16384
unfolding report
report-short input = told-short 1 [] (lines_of input)

over-front : (text out : List ℕ) → take (length text) (over text out) ≡ text
unfolding over
over-front text out = take-append_seam text (drop (length text) out)

pub report-printed : ReportPrinted
report-printed pieces out left r h t =
    let input = joined pieces in
    let d : Draws (report input) out 0 r left = t.drawn ∙ ap (λ (w : List ℕ). draw w (page out 0)) (report-told pieces) in
    let l : length (report input) ≤ length out = omega (arith, report-short input) in
    let k = drawn-over (report input) out left r l d in
    rw (k.0, k.1) (over-front (report input) out)
