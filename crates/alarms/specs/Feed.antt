-- How the code reads a text: byte by byte, with at most 1,000 alarms held.
use Rattle.std.specs.Prelude.{ℕ, ◌+◌, ◌*◌, ◌%◌, ◌≤◌, min, Bool, cond, ◌&&◌, not, List, [], ◌∷◌, ◌++◌, eqb, leb, ltb, length, get_or, set}
use Rattle.digits.specs.Digits.{tab, newline, value}
use Rattle.digits.specs.Page.{Draws}
use Rattle.sums.specs.declared.Alarm.{Alarm}
use Rattle.sums.specs.declared.Totals.{Totals}
use Rattle.alarms.specs.declared.Scan.{Scan}
use Rattle.alarms.specs.declared.Feed.{Feed}
use Rattle.sums.specs.Alarm.{good, alarm_of}
use Rattle.sums.specs.Kept.{sum_of, no_totals, no_batch}
use Rattle.alarms.specs.Report.{header, rows, refused}

-- the table of totals as the code keeps them
unfoldable pub table_of : Totals → List ℕ
table_of t = header ++ rows (λ i. get_or t.counts i 0) (λ i. get_or t.minutes i 0) 192

-- how far a line is read: 0 to 32 bytes of the name; 33 the tab, 34 to 49 with 1 to 16 digits; a bad line; a line that is done
abbrev pub after_tab : ℕ
after_tab = 33

abbrev pub full : ℕ
full = 49

abbrev pub bad : ℕ
bad = 50

abbrev pub done : ℕ
done = 51

-- the line behind one that is done
unfoldable pub begun : ℕ → ℕ
begun at = cond (eqb at done) 0 at

-- one byte further, in the name and in the digits
unfoldable pub name_after : ℕ → ℕ → ℕ
name_after at b = cond (eqb b tab) (cond (eqb at 0) bad after_tab) (cond (ltb at 32) (at + 1) bad)

unfoldable pub digit_after : ℕ → ℕ → ℕ
digit_after at v = cond (ltb at full) (cond (ltb v 16) (at + 1) bad) bad

unfoldable pub place_after : ℕ → ℕ → ℕ → ℕ
place_after at b v = cond (ltb at after_tab) (name_after at b) (digit_after at v)

unfoldable pub word_after : ℕ → ℕ → ℕ → ℕ
word_after at w v = cond (ltb at after_tab) 0 (w % 1152921504606846976 * 16 + v % 16)

abbrev pub in_line : Scan → ℕ → Scan
in_line s b =
    record {
      at = place_after (begun s.at) b (value b);
      word = word_after (begun s.at) s.word (value b);
      lines = s.lines;
      refusal = s.refusal;
    }

-- 14 bad line, 15 too many alarms, 0 for none; n is the line's number
unfoldable pub refusal_of : Bool → ℕ → ℕ
refusal_of is_good n = cond is_good (cond (leb n 65535) 0 15) 14

abbrev pub line_good : Scan → Bool
line_good s = eqb s.at full && good (alarm_of s.word)

-- past line 65,536, which is refused, the lines are not counted
abbrev pub next_line : ℕ → ℕ
next_line n = min (n + 1) 65536

unfoldable pub done_or_bad : ℕ → ℕ
done_or_bad refusal = cond (eqb refusal 0) done bad

abbrev pub line_end : Scan → Scan
line_end s =
    record {
      at = done_or_bad (refusal_of (line_good s) (next_line s.lines));
      word = s.word;
      lines = next_line s.lines;
      refusal = refusal_of (line_good s) (next_line s.lines);
    }

unfoldable pub scanned : Scan → ℕ → Scan
scanned s b = cond (eqb s.refusal 0) (cond (eqb b newline) (line_end s) (in_line s b)) s

abbrev pub feed_of : Scan → ℕ → List Alarm → Totals → Feed
feed_of s held batch totals = record { scan = s; held = held; batch = batch; totals = totals }

-- an alarm put to those held; where there is no room, their totals are taken first
unfoldable pub put : Feed → Scan → Alarm → Feed
put f s a =
    cond (ltb f.held 1000)
    (feed_of s (f.held + 1) (set f.batch f.held a) f.totals)
    (feed_of s 1 (set no_batch 0 a) (sum_of f.totals f.batch))

unfoldable pub fed_one : Feed → Scan → Feed
fed_one f s = cond (eqb s.at done) (put f s (alarm_of s.word)) (feed_of s f.held f.batch f.totals)

unfoldable pub fed_all : Feed → List ℕ → Feed
fed_all f [] = f
fed_all f (b ∷ bs) = fed_all (fed_one f (scanned f.scan b)) bs

abbrev pub start : Feed
start = feed_of record { at = 0; word = 0; lines = 0; refusal = 0 } 0 no_batch no_totals

-- a last line without a newline
unfoldable pub is_open : Scan → Bool
is_open s = not (eqb (begun s.at) 0)

unfoldable pub closed : Feed → Feed
closed f = cond (is_open f.scan) (fed_all f (newline ∷ [])) f

-- what is told of all that was read
unfoldable pub last_of : Feed → List ℕ
last_of f =
    cond (eqb f.scan.refusal 0)
    (table_of (sum_of f.totals f.batch))
    (refused f.scan.refusal f.scan.lines)

unfoldable pub told_of : Feed → List ℕ
told_of f = last_of (closed f)

-- a text put down from the front, as far as there is room, and where it ends
pub record Tells (text out : List ℕ) (r : ℕ) (left : List ℕ) : Type 0 where
  pub drawn : Draws text out 0 r left
  pub inside : r ≤ length left
