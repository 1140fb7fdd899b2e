-- An alarm record: running number (4 bytes), line 1 to 32, kind 1 to 6, minutes stopped (2 bytes), high bytes first.
use Rattle.std.specs.Prelude.{ℕ, ◌+◌, ◌-◌, ◌*◌, ◌/◌, ◌%◌, Bool, ◌&&◌, leb}
use Rattle.sums.specs.declared.Alarm.{Alarm}

unfoldable pub good : Alarm → Bool
good a = (leb 1 a.line && leb a.line 32) && (leb 1 a.kind && leb a.kind 6)

-- the place of its line and kind, ordered by line, then kind; there are 192
abbrev pub cell_of : Alarm → ℕ
cell_of a = (a.line - 1) * 6 + (a.kind - 1)

-- the last eight bytes of a number
unfoldable pub alarm_of : ℕ → Alarm
alarm_of w =
    record { number = w / 4294967296 % 4294967296; line = w / 16777216 % 256; kind = w / 65536 % 256; minutes = w % 65536 }
