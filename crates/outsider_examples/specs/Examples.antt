-- The cards and lines of edges' Outsiders, as calls: the theorems apply to them.
use Rattle.std.specs.Prelude.{ℕ, Bool, false, List, [], ◌∷◌, ◌++◌}
use Rattle.rules.specs.State.{Which, user, transport, with_value}
use Rattle.edges.specs.Table.{Line, sent, again, unserved, unreset, lent, holding, hex, filler, random}
use Rattle.edges.specs.Outsiders.{chest, area, Drawer, place, bytes, others, lines, guesses, other-pin}
use Rattle.demands.specs.Ledger.{Event, sent as calls, resets}
use Rattle.demands.specs.Run.{World, world}
use Rattle.demands.specs.Outsider.{Same, AllButBytes, with_contents, AllButValue}

abbrev pub box : Bool → World
box later = world (chest later) (area bytes)

-- the calls of lines
abbrev pub one-call : List ℕ → Event
one-call cmd = calls cmd random (filler 258)

abbrev pub events : List Line → List Event
events [] = []
events (sent cmd found sw ∷ ls) = one-call cmd ∷ events ls
events (again ∷ ls) = resets ∷ events ls
events (unserved reply size fresh outcome ∷ ls) = events ls
events (unreset ∷ ls) = events ls
events (lent other outcome ∷ ls) = events ls
events (holding see expected ∷ ls) = events ls

-- the lines, and then a read with a code that is compared: a right one, as openssl makes it (edges' Coded says how)
abbrev pub told : Bool → List Event
told later = events (lines later) ++ one-call (hex 0x1_0084_0000_04) ∷ one-call (hex 0x1_04B0_8500_04_2F004889_02) ∷ []

-- with other bytes in any one of the closed files they tell the same
abbrev pub Unread : Type 0
Unread = (later : Bool) (x : Drawer) → Same (AllButBytes (place x)) (box later) (with_contents (place x) (others x) (box later)) (told later)

-- with another value for a credential these calls tell the same
abbrev pub box_with_value : Which → List ℕ → World
box_with_value which value = world (with_value which (chest false) value) (area bytes)

abbrev pub Unlearned : Which → List ℕ → List Event → Type 0
Unlearned which value es = Same (AllButValue which) (box false) (box_with_value which value) es

-- another user PIN, of another length, and guesses
abbrev pub PinUnlearned : Type 0
PinUnlearned = Unlearned user other-pin (events guesses)

-- another transport key, and a wrong code. The cipher is computed twice for it, so there is no such list for the device key
abbrev pub other_key : List ℕ
other_key = hex 0x1_0F0E0D0C0B0A09080706050403020100

abbrev pub wrong-code : List Event
wrong-code = one-call (hex 0x1_0084_0000_04) ∷ one-call (hex 0x1_04B0_8500_04_00000000_02) ∷ []

abbrev pub CodeUnlearned : Type 0
CodeUnlearned = Unlearned transport other_key wrong-code
