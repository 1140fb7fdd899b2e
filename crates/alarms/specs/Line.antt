-- A line of text: box name (1 to 32 bytes), tab, sixteen upper-case hex digits of a good alarm.
use Rattle.std.specs.Prelude.{ℕ, ◌+◌, ◌*◌, Bool, true, cond, ◌&&◌, List, [], ◌∷◌, eqb, leb, ltb, length}
use Rattle.files.specs.Words.{every}
use Rattle.digits.specs.Digits.{tab, newline, value}
use Rattle.sums.specs.declared.Alarm.{Alarm}
use Rattle.sums.specs.Alarm.{good, alarm_of}

-- what stands before the first tab, and behind it
unfoldable pub name_of : List ℕ → List ℕ
name_of [] = []
name_of (b ∷ bs) = cond (eqb b tab) [] (b ∷ name_of bs)

unfoldable pub digits_of : List ℕ → List ℕ
digits_of [] = []
digits_of (b ∷ bs) = cond (eqb b tab) bs (digits_of bs)

unfoldable pub all_hex : List ℕ → Bool
all_hex [] = true
all_hex (b ∷ bs) = ltb (value b) 16 && all_hex bs

-- digits as a number, read on behind n
unfoldable pub hex_from : ℕ → List ℕ → ℕ
hex_from n [] = n
hex_from n (d ∷ ds) = hex_from (n * 16 + value d) ds

unfoldable pub alarm_in : List ℕ → Alarm
alarm_in line = alarm_of (hex_from 0 (digits_of line))

unfoldable pub good_line : List ℕ → Bool
good_line line =
    every
    (leb 1 (length (name_of line))
    ∷ leb (length (name_of line)) 32
    ∷ eqb (length (digits_of line)) 16
    ∷ all_hex (digits_of line)
    ∷ good (alarm_in line)
    ∷ [])

-- the lines of a text: each ends in a newline, the last needs none
unfoldable pub on_first : ℕ → List (List ℕ) → List (List ℕ)
on_first b [] = (b ∷ []) ∷ []
on_first b (line ∷ lines) = (b ∷ line) ∷ lines

unfoldable pub lines_of : List ℕ → List (List ℕ)
lines_of [] = []
lines_of (b ∷ bs) = cond (eqb b newline) ([] ∷ lines_of bs) (on_first b (lines_of bs))
