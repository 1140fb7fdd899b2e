-- The table's rows and when one holds. What a row expects is put in words of its own, and not in those of the definitions that it tests.
use Rattle.std.specs.Prelude.{ℕ, suc, Bool, true, false, ◌&&◌, List, [], ◌∷◌, eqb, take}
use Rattle.rules.specs.declared.Card.{Card}
use Rattle.power.specs.Store.{Store, memory, puts}
use Rattle.power.specs.Plan.{stores_of}
use Rattle.power.specs.Address.{address, byte_of}
use Rattle.power.specs.Recovery.{recover}

-- equal in length and numbers
abbrev pub equal : List ℕ → List ℕ → Bool
equal [] [] = true
equal [] (b ∷ bs) = false
equal (a ∷ xs) [] = false
equal (a ∷ xs) (b ∷ bs) = eqb a b && equal xs bs

-- address and byte of each store, one after another
abbrev pub written : List Store → List ℕ
written [] = []
written (s ∷ more) = address s ∷ byte_of s ∷ written more

pub data Row : Type 0 where
  -- a sound card, its area and a command: address and byte of each of its stores
  stored : Card → List ℕ → List ℕ → List ℕ → Row
  -- the same, cut after each number of stores from 0 on and recovered: the outcome, and what is then seen of card and area
  cut : Card → List ℕ → List ℕ → (Card → List ℕ → List ℕ) → List (List ℕ) → Row
  -- a card and an area given to recovery: its outcome, and what is then seen of the card
  recovered : Card → List ℕ → ℕ → (Card → List ℕ) → List ℕ → Row

abbrev pub cuts_hold : Card → List ℕ → List Store → (Card → List ℕ → List ℕ) → ℕ → List (List ℕ) → Bool
cuts_hold c area stores see n [] = true
cuts_hold c area stores see n (expected ∷ more) =
    let m = puts (take n stores) (memory c area) in
    let r = recover m.card m.area in
    equal (r.outcome ∷ see r.card m.area) (0 ∷ expected) && cuts_hold c area stores see (suc n) more

abbrev pub holds : Row → Bool
holds (stored c area cmd expected) = equal (written (stores_of c area cmd)) expected
holds (cut c area cmd see expected) = cuts_hold c area (stores_of c area cmd) see 0 expected
holds (recovered c area outcome see expected) =
    let r = recover c area in eqb r.outcome outcome && equal (see r.card) expected

abbrev pub all_hold : List Row → Bool
all_hold [] = true
all_hold (r ∷ rs) = holds r && all_hold rs
