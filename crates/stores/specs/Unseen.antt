-- Store 0 of a presentation is the same whatever is presented, so that it tells nothing of the comparison.
use Rattle.std.specs.Prelude.{ℕ, ◌+◌, true, List, ◌≡◌, length, take}
use Rattle.rules.specs.declared.Card.{Card}
use Rattle.rules.specs.declared.Ins.TheVariants.{Verify, Authenticate}
use Rattle.rules.specs.Words.{all_of}
use Rattle.rules.specs.Sound.{digit}
use Rattle.rules.specs.Frame.{lc_before, framed, coded}
use Rattle.rules.specs.List.{listed, rule}
use Rattle.card.specs.Coded.{takes_code}
use Rattle.power.specs.Plan.{stores_of}
use Rattle.power.specs.Address.{store_at}

-- as long, and the same in the first n bytes
abbrev pub Alike : ℕ → List ℕ → List ℕ → Type 0
Alike n cmd other = (length cmd ≡ length other) × (take n cmd ≡ take n other)

abbrev pub SameFirst : Card → List ℕ → List ℕ → List ℕ → Type 0
SameFirst c area cmd other = store_at (stores_of c area cmd) 0 ≡ store_at (stores_of c area other) 0

-- VERIFY: one header and Lc; digits in both, or in neither
abbrev pub PinUnseen : Type 0
PinUnseen =
    (c : Card) (area cmd other : List ℕ) → listed (framed cmd) ≡ Verify → Alike 5 cmd other
    → all_of digit (framed cmd).given ≡ all_of digit (framed other).given → SameFirst c area cmd other

-- EXTERNAL AUTHENTICATE: one header and Lc
abbrev pub CryptogramUnseen : Type 0
CryptogramUnseen = (c : Card) (area cmd other : List ℕ) → listed (framed cmd) ≡ Authenticate → Alike 5 cmd other → SameFirst c area cmd other

-- a code (R-9): all before it
abbrev pub CodeUnseen : Type 0
CodeUnseen =
    (c : Card) (area cmd other : List ℕ) → takes_code (rule (listed (framed cmd))) ≡ true → coded (framed cmd) ≡ true
    → Alike (5 + lc_before cmd) cmd other → SameFirst c area cmd other
