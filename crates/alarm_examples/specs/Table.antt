-- The table's rows and when one holds. What a row expects is put in words of its own, and not in those of the definitions that it tests.
use Rattle.std.specs.Prelude.{ℕ, zero, suc, ◌/◌, ◌%◌, Bool, true, false, ◌&&◌, ◌||◌, not, List, [], ◌∷◌, ◌++◌, eqb, get_or, replicate}
use Prim.Native.String.{String}
use Rattle.digits.specs.Digits.{chars}
use Rattle.sums.specs.declared.Alarm.{Alarm}
use Rattle.sums.specs.declared.Summed.{Summed}
use Rattle.sums.specs.declared.Totals.{Totals}
use Rattle.sums.specs.Kept.{summed}
use Rattle.alarms.specs.Line.{good_line, alarm_in}
use Rattle.alarms.specs.Report.{told, report}

-- equal in length and numbers
abbrev pub equal : List ℕ → List ℕ → Bool
equal [] [] = true
equal [] (b ∷ bs) = false
equal (a ∷ xs) [] = false
equal (a ∷ xs) (b ∷ bs) = eqb a b && equal xs bs

abbrev pub agree : Bool → Bool → Bool
agree true b = b
agree false b = not b

-- a number is in a list
abbrev pub among : List ℕ → ℕ → Bool
among [] n = false
among (x ∷ xs) n = eqb x n || among xs n

-- a byte in hex
abbrev pub hex_digits : List ℕ
hex_digits = chars "0123456789ABCDEF"

abbrev pub hex : ℕ → List ℕ
hex b = get_or hex_digits (b / 16) 0 ∷ get_or hex_digits (b % 16) 0 ∷ []

-- a box name, tab, digits
abbrev pub line : String → String → List ℕ
line name digits = chars name ++ (9 ∷ chars digits)

-- fields parted by tabs, and lines that each end in a newline
abbrev pub parted : List String → List ℕ
parted [] = []
parted (f ∷ []) = chars f
parted (f ∷ g ∷ more) = chars f ++ (9 ∷ parted (g ∷ more))

abbrev pub text : List (List ℕ) → List ℕ
text [] = []
text (l ∷ ls) = l ++ (10 ∷ text ls)

abbrev pub printed : List (List String) → List ℕ
printed [] = []
printed (l ∷ ls) = parted l ++ (10 ∷ printed ls)

-- rows under the four words
abbrev pub rows_of : List (List String) → List ℕ
rows_of rows = printed (("line" ∷ "kind" ∷ "count" ∷ "minutes" ∷ []) ∷ rows)

-- an alarm's numbers, in the record's order
abbrev pub numbers : Alarm → List ℕ
numbers a = a.number ∷ a.line ∷ a.kind ∷ a.minutes ∷ []

-- so many alarms of line 3, kind 2 in one list, onto totals of 9 alarms and 8 minutes everywhere
abbrev pub list_of : ℕ → List Alarm
list_of n = replicate n record { number = 7; line = 3; kind = 2; minutes = 5 }

abbrev pub earlier : Totals
earlier = record { counts = replicate 192 9; minutes = replicate 192 8 }

-- the count of that line and kind, and the minutes; and those of the place before it
abbrev pub sums_of : Summed → List ℕ
sums_of s = get_or s.totals.counts 13 0 ∷ get_or s.totals.minutes 13 0 ∷ get_or s.totals.counts 12 0 ∷ get_or s.totals.minutes 12 0 ∷ []

pub data Row : Type 0 where
  -- a good line, with the four numbers of its alarm
  alarm : List ℕ → List ℕ → Row
  -- a bad line
  bad : List ℕ → Row
  -- an input, and all that is printed
  reports : List ℕ → List ℕ → Row
  -- lines from line n on, behind good lines whose alarms are left out, and all that is printed
  from : ℕ → List (List ℕ) → List ℕ → Row
  -- a list of so many alarms, whether it is refused, and the sums then
  listed : ℕ → Bool → List ℕ → Row
  -- a whole range: what holds of each number below an end
  swept : ℕ → (ℕ → Bool) → Row

abbrev pub sweep : ℕ → (ℕ → Bool) → Bool
sweep zero p = true
sweep (suc n) p = p n && sweep n p

abbrev pub holds : Row → Bool
holds (alarm l ns) = good_line l && equal (numbers (alarm_in l)) ns
holds (bad l) = not (good_line l)
holds (reports input out) = equal (report input) out
holds (from n lines out) = equal (told n [] lines) out
holds (listed n refused sums) = agree (summed earlier (list_of n)).refused refused && equal (sums_of (summed earlier (list_of n))) sums
holds (swept n p) = sweep n p

abbrev pub all_hold : List Row → Bool
all_hold [] = true
all_hold (r ∷ rs) = holds r && all_hold rs
