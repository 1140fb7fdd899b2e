-- Inputs, and all that is printed for them.
use Rattle.std.specs.Prelude.{true, false, List, [], ◌∷◌, ◌++◌}
use Rattle.digits.specs.Digits.{chars}
use Rattle.alarm_examples.specs.Table.{Row, reports, from, listed, line, text, printed, rows_of}

-- the header alone; a last line with and without its newline
abbrev pub ends : List Row
ends =
    reports [] (rows_of [])
    ∷ reports (line "a" "000000070206000C") (rows_of (("2" ∷ "6" ∷ "1" ∷ "12" ∷ []) ∷ []))
    ∷ reports (text (line "a" "000000070206000C" ∷ [])) (rows_of (("2" ∷ "6" ∷ "1" ∷ "12" ∷ []) ∷ []))
    ∷ []

-- counts and minutes, ordered by line, then kind, whatever the order of the alarms and the box; no minutes is a row too
abbrev pub sums-told : List Row
sums-told =
    reports
    (text (line "mill" "000000022006FFFF" ∷ line "barn" "0000000101010005" ∷ line "barn" "0000000302010001" ∷ line "mill" "0000000401060000" ∷ line "silo" "000000052006FFFF" ∷ line "silo" "0000000101010003" ∷ []))
    (rows_of
    (("1" ∷ "1" ∷ "2" ∷ "8" ∷ [])
    ∷ ("1" ∷ "6" ∷ "1" ∷ "0" ∷ [])
    ∷ ("2" ∷ "1" ∷ "1" ∷ "1" ∷ [])
    ∷ ("32" ∷ "6" ∷ "2" ∷ "131070" ∷ [])
    ∷ []))
    ∷ reports
    (text (line "barn" "0000000302010001" ∷ line "silo" "0000000101010003" ∷ line "mill" "0000000401060000" ∷ line "silo" "000000052006FFFF" ∷ line "barn" "0000000101010005" ∷ line "mill" "000000022006FFFF" ∷ []))
    (rows_of
    (("1" ∷ "1" ∷ "2" ∷ "8" ∷ [])
    ∷ ("1" ∷ "6" ∷ "1" ∷ "0" ∷ [])
    ∷ ("2" ∷ "1" ∷ "1" ∷ "1" ∷ [])
    ∷ ("32" ∷ "6" ∷ "2" ∷ "131070" ∷ [])
    ∷ []))
    ∷ []

-- the first bad line alone is told, with its number
abbrev pub refusals : List Row
refusals =
    reports (10 ∷ []) (printed (("14" ∷ "1" ∷ []) ∷ []))
    ∷ reports (text (line "a" "0000000101010005" ∷ [] ∷ [])) (printed (("14" ∷ "2" ∷ []) ∷ []))
    ∷ reports (text (line "a" "0000000101010005" ∷ line "b" "0000000101010005" ∷ line "c" "0000000121010005" ∷ line "" "" ∷ [])) (printed (("14" ∷ "3" ∷ []) ∷ []))
    ∷ reports (text ((line "a" "0000000101010005" ++ (13 ∷ [])) ∷ [])) (printed (("14" ∷ "1" ∷ []) ∷ []))
    ∷ reports (text (line "a" "0000000101010005" ∷ []) ++ chars "b") (printed (("14" ∷ "2" ∷ []) ∷ []))
    ∷ []

-- 65,535 alarms are taken; line 65,536 is 14 where it is bad, else 15, and what is behind it does not matter
abbrev pub most : List Row
most =
    from 65535 (line "a" "0000000101010005" ∷ []) (rows_of (("1" ∷ "1" ∷ "1" ∷ "5" ∷ []) ∷ []))
    ∷ from 65535 (line "a" "0000000101010005" ∷ line "b" "0000000101010005" ∷ []) (printed (("15" ∷ "65536" ∷ []) ∷ []))
    ∷ from 65535 (line "a" "0000000101010005" ∷ line "b" "0000000101010005" ∷ [] ∷ []) (printed (("15" ∷ "65536" ∷ []) ∷ []))
    ∷ from 65535 (line "a" "0000000101010005" ∷ line "b" "0000000101070005" ∷ []) (printed (("14" ∷ "65536" ∷ []) ∷ []))
    ∷ from 65535 ([] ∷ []) (printed (("14" ∷ "65535" ∷ []) ∷ []))
    ∷ []

-- a list of up to 1,000 is summed; a longer one is refused, and the totals stay as they were
abbrev pub lists : List Row
lists =
    listed 0 false (9 ∷ 8 ∷ 9 ∷ 8 ∷ []) ∷ listed 3 false (12 ∷ 23 ∷ 9 ∷ 8 ∷ []) ∷ listed 1000 false (1009 ∷ 5008 ∷ 9 ∷ 8 ∷ []) ∷ listed 1001 true (9 ∷ 8 ∷ 9 ∷ 8 ∷ []) ∷ []
