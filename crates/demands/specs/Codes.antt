-- Codes on the bus (R-9), of any sound card and any command: what a code does to the tries of the transport key, and that a command with a code that is not
-- right does nothing else.
use Rattle.std.specs.Prelude.{ℕ, ◌+◌, true, List, [], ◌≡◌}
use Rattle.rules.specs.declared.Card.{Card}
use Rattle.rules.specs.Words.{byte}
use Rattle.rules.specs.State.{Which, transport, logins, challenge, mode}
use Rattle.rules.specs.Sound.{sound}
use Rattle.rules.specs.Frame.{framed}
use Rattle.rules.specs.List.{listed}
use Rattle.demands.specs.Role.{role}
use Rattle.rules.specs.Step.{step}
use Rattle.rules.specs.Effect.{Stepped}
use Rattle.demands.specs.Ledger.{Kind, other, right, wrong, changed, reloaded, ended, kind}
use Rattle.demands.specs.Held.{credential_no, value_no, left_no, limit_no}

-- what a command is to a credential of a card, in the ledger's words
abbrev pub kind_on : Card → List ℕ → Which → Kind
kind_on c cmd w = kind (role (listed (framed cmd))) (logins c) (challenge c) cmd w

-- a right code restores all tries, whatever the command ends with; a wrong one is 6988 and takes exactly one; and nothing else touches them
abbrev pub Counted : Kind → Card → Stepped → Type 0
Counted right c s = left_no s.card 3 ≡ limit_no c 3
Counted wrong c s = (left_no s.card 3 + 1 ≡ left_no c 3) × (s.sw ≡ 0x6988)
Counted other c s = left_no s.card 3 ≡ left_no c 3
Counted (changed d) c s = ⊥
Counted (reloaded d) c s = ⊥
Counted ended c s = ⊥

abbrev pub CodeCounted : Type 0
CodeCounted =
    (c : Card) (area cmd random : List ℕ) → sound c area ≡ true → Counted (kind_on c cmd transport) c (step c area cmd random)

-- the card as it was but for the tries left of the transport key, the challenge and what waits
pub record OnlyTries (c d : Card) : Type 0 where
  pub directory-is : d.directory ≡ c.directory
  pub rights-are : d.session.rights ≡ c.session.rights
  pub current-is : d.session.current ≡ c.session.current
  pub folder-is : d.session.folder ≡ c.session.folder
  pub mode-is : mode d ≡ mode c
  pub others-are : (n : ℕ) → (n ≡ 3 → ⊥) → credential_no d n ≡ credential_no c n
  pub value-is : value_no d 3 ≡ value_no c 3
  pub limit_is : limit_no d 3 ≡ limit_no c 3

-- and no byte of the area, and none shown
pub record Untouched (c : Card) (area : List ℕ) (s : Stepped) : Type 0 where
  pub card-is : OnlyTries c s.card
  pub area-is : s.area ≡ area
  pub none-shown : s.bytes ≡ []

-- CLA 04 and no right code, also where the command does not come to its code: whatever else is so of it
abbrev pub RefusedAtCode : Type 0
RefusedAtCode =
    (c : Card) (area cmd random : List ℕ) → sound c area ≡ true → byte cmd 0 ≡ 0x04 → (kind_on c cmd transport ≡ right → ⊥)
    → Untouched c area (step c area cmd random)
