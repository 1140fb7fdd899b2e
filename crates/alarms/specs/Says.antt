-- What holds of a line, of the report for any input, and of the code that tells it.
use Rattle.std.specs.Prelude.{ℕ, suc, ◌+◌, ◌*◌, ◌≤◌, ◌<◌, Bool, true, false, ◌&&◌, List, [], ◌∷◌, ◌++◌, ◌≡◌, length, take, get_or}
use Rattle.digits.specs.Digits.{tab, hex_of}
use Rattle.sums.specs.declared.Alarm.{Alarm}
use Rattle.sums.specs.Alarm.{good}
use Rattle.sums.specs.Says.{Reordered}
use Rattle.alarms.specs.declared.Feed.{Feed}
use Rattle.alarms.specs.Line.{good_line, alarm_in, lines_of}
use Rattle.alarms.specs.Report.{table, refused, report}
use Rattle.alarms.specs.Feed.{fed_all, start, told_of, Tells}

-- ---- a line, said by writing it
-- 1 to 32 bytes, any but tab; a line ends at its newline, so no newline is in it
pub record GoodName (name : List ℕ) : Type 0 where
  pub some : 1 ≤ length name
  pub few : length name ≤ 32
  pub tab-free : (i : ℕ) → i < length name → get_or name i 0 ≡ tab → ⊥

-- eight bytes
pub record Eight (bytes : List ℕ) : Type 0 where
  pub eight : length bytes ≡ 8
  pub each-byte : (i : ℕ) → get_or bytes i 0 < 256

-- running number (4), line, kind, minutes stopped (2), high bytes first
abbrev pub record_in : List ℕ → Alarm
record_in b =
    record {
      number = get_or b 0 0 * 16777216 + get_or b 1 0 * 65536 + get_or b 2 0 * 256 + get_or b 3 0;
      line = get_or b 4 0;
      kind = get_or b 5 0;
      minutes = get_or b 6 0 * 256 + get_or b 7 0;
    }

-- box name, tab, sixteen upper-case hex digits
abbrev pub spelled : List ℕ → List ℕ → List ℕ
spelled name bytes = name ++ (tab ∷ hex_of bytes)

-- a line that is so written is good exactly where its alarm's line and kind are, and its alarm is read
abbrev pub SpelledRead : Type 0
SpelledRead =
    (name bytes : List ℕ) → GoodName name → Eight bytes
    → (alarm_in (spelled name bytes) ≡ record_in bytes) × (good_line (spelled name bytes) ≡ good (record_in bytes))

-- every good line is so written
pub record IsLine (line : List ℕ) : Type 0 where
  pub name : List ℕ
  pub bytes : List ℕ
  pub good-name : GoodName name
  pub eight-bytes : Eight bytes
  pub is : line ≡ spelled name bytes

abbrev pub ReadSpelled : Type 0
ReadSpelled = (line : List ℕ) → good_line line ≡ true → IsLine line

-- ---- the report
abbrev pub all_good : List (List ℕ) → Bool
all_good [] = true
all_good (line ∷ lines) = good_line line && all_good lines

abbrev pub alarms_in : List (List ℕ) → List Alarm
alarms_in [] = []
alarms_in (line ∷ lines) = alarm_in line ∷ alarms_in lines

-- up to 65,535 lines, all good: the table of their alarms
abbrev pub GoodLinesTold : Type 0
GoodLinesTold = (input : List ℕ) → all_good (lines_of input) ≡ true → length (lines_of input) ≤ 65535 → report input ≡ table (alarms_in (lines_of input))

-- the first bad line, up to line 65,536: only 14 and its number, whatever is behind it
abbrev pub FirstBadTold : Type 0
FirstBadTold =
    (input : List ℕ) (before : List (List ℕ)) (line : List ℕ) (behind : List (List ℕ))
    → lines_of input ≡ before ++ (line ∷ behind) → all_good before ≡ true → length before ≤ 65535 → good_line line ≡ false
    → report input ≡ refused 14 (suc (length before))

-- a good line behind 65,535 good ones: only 15 and its number
abbrev pub SurplusTold : Type 0
SurplusTold =
    (input : List ℕ) (before : List (List ℕ)) (line : List ℕ) (behind : List (List ℕ))
    → lines_of input ≡ before ++ (line ∷ behind) → all_good before ≡ true → length before ≡ 65535 → good_line line ≡ true
    → report input ≡ refused 15 65536

-- the table does not depend on the order of the alarms
abbrev pub TableReordered : Type 0
TableReordered = (xs ys : List Alarm) → Reordered xs ys → table xs ≡ table ys

-- ---- the code
-- pieces of a text, fed one behind the other
abbrev pub fed_in : Feed → List (List ℕ) → Feed
fed_in f [] = f
fed_in f (piece ∷ pieces) = fed_in (fed_all f piece) pieces

abbrev pub joined : List (List ℕ) → List ℕ
joined [] = []
joined (piece ∷ pieces) = piece ++ joined pieces

-- what is told is the report on the input, in whatever pieces it came
abbrev pub ReportTold : Type 0
ReportTold = (pieces : List (List ℕ)) → told_of (fed_in start pieces) ≡ report (joined pieces)

-- and a buffer of 16,384 bytes takes all of it
abbrev pub ReportPrinted : Type 0
ReportPrinted =
    (pieces : List (List ℕ)) (out left : List ℕ) (r : ℕ) → 16384 ≤ length out → Tells (told_of (fed_in start pieces)) out r left
    → take r left ≡ report (joined pieces)
