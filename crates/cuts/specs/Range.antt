-- Every store goes to a byte of the card that lasts, or of the area; so 16 bits hold its address.
use Rattle.std.specs.Prelude.{ℕ, ◌+◌, ◌≤◌, ◌<◌, true, List, ◌≡◌, ◌⊎◌}
use Rattle.files.specs.Create.{area_size}
use Rattle.rules.specs.declared.Card.{Card}
use Rattle.rules.specs.Sound.{sound}
use Rattle.power.specs.Plan.{stores_of}
use Rattle.power.specs.Address.{number_at, journal_at, card_size, store_at}

-- credentials, files and directories, or the journal and the area: the session, the mode and what waits lie between them, and none of these is stored
abbrev pub Lasting : ℕ → Type 0
Lasting at = (at ≤ number_at) ⊎ ((journal_at ≤ at) × (at < card_size + area_size))

abbrev pub StoresLast : Type 0
StoresLast = (c : Card) (area cmd : List ℕ) → sound c area ≡ true → (n : ℕ) → Lasting (store_at (stores_of c area cmd) n).at

-- so a C caller has the whole address
abbrev pub AddressesFit : Type 0
AddressesFit = (c : Card) (area cmd : List ℕ) → sound c area ≡ true → (n : ℕ) → (store_at (stores_of c area cmd) n).at < 65536
