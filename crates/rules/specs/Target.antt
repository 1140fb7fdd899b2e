-- What the commands on a file share: which file a command addresses, the right that its rights byte asks, and the code (R-9).
use Rattle.std.specs.Prelude.{ℕ, Bool, cond, ◌||◌, not, List}
use Rattle.files.specs.declared.File.{File}
use Rattle.files.specs.Words.{is_zero}
use Rattle.files.specs.Rights.{asks_code, allowed}
use Rattle.files.specs.Directory.{file, find_sfi}
use Rattle.rules.specs.declared.Card.{Card}
use Rattle.rules.specs.Words.{unless}
use Rattle.rules.specs.State.{device, admin, user, held_in}
use Rattle.rules.specs.Frame.{Command, coded}

-- the file of an SFI in the current directory, the current file for 0: its place plus one, 0 for none
unfoldable pub target : Card → ℕ → ℕ
target c sfi = cond (is_zero sfi) c.session.current (find_sfi c.directory c.session.folder sfi)

abbrev pub file_of : Card → ℕ → File
file_of c place = file c.directory place

-- a file (6A82)
abbrev pub file_sw : ℕ → ℕ
file_sw place = unless (not (is_zero place)) 0x6A82

-- what a rights byte asks is among these rights, or among those held on the card
abbrev pub opens_by : List ℕ → ℕ → Bool
opens_by rights byte = allowed (held_in rights device) (held_in rights admin) (held_in rights user) byte

abbrev pub opens : Card → ℕ → Bool
opens c byte = opens_by c.session.rights byte

-- its right (6982)
abbrev pub right_sw : List ℕ → ℕ → ℕ
right_sw rights byte = unless (opens_by rights byte) 0x6982

-- and a code where it asks for one (6982, R-9): the code was right, or the command would not have come so far
abbrev pub code_asked_sw : ℕ → Command → ℕ
code_asked_sw byte k = unless (not (asks_code byte) || coded k) 0x6982
