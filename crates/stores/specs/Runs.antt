-- The call that hands over a run of stores at once: each is three bytes in a buffer.
use Rattle.std.specs.Prelude.{ℕ, zero, suc, ◌+◌, ◌-◌, ◌*◌, ◌/◌, ◌%◌, min, cond, List, [], ◌∷◌, ◌≡◌, eqb, length}
use Rattle.files.specs.Part.{splice}
use Rattle.rules.specs.declared.Card.{Card}
use Rattle.power.specs.declared.Numbered.{Numbered}
use Rattle.power.specs.Store.{Store}
use Rattle.power.specs.Plan.{stores_of}
use Rattle.power.specs.Address.{store_at}
use Rattle.stores.specs.declared.Counted.{Counted}
use Rattle.stores.specs.Handing.{refusal}

-- where a store goes, high byte first, and the byte
abbrev pub three_bytes : Numbered → List ℕ
three_bytes s = (s.at / 256) % 256 ∷ s.at % 256 ∷ s.byte ∷ []

-- k stores of a list, from a first number on, over the front of a buffer
unfoldable pub laid : List Store → ℕ → ℕ → List ℕ → List ℕ
laid xs first zero out = out
laid xs first (suc k) out = splice (laid xs first k out) (3 * k) (three_bytes (store_at xs (first + k)))

-- store 0 is handed over alone: that of a presentation must be stored before anything is compared. From any other number on, as many as a buffer of so many bytes
-- has room for
abbrev pub most : ℕ → ℕ → ℕ
most first room = cond (eqb first 0) (min 1 (room / 3)) (room / 3)

-- and no more than there are
abbrev pub few : List Store → ℕ → ℕ → ℕ
few xs first n = min n (length xs - first)

pub record Laid (xs : List Store) (first n : ℕ) (out : List ℕ) (count : ℕ) (out' : List ℕ) : Type 0 where
  pub count-is : count ≡ few xs first n
  pub out-is : out' ≡ laid xs first count out

-- the outcome with how many stores were handed over, and the buffer afterwards
pub record Run : Type 0 where
  pub counted : Counted
  pub out : List ℕ

abbrev pub ran : ℕ → ℕ → List ℕ → Run
ran outcome n out = record { counted = record { outcome = outcome; n = n }; out = out }

-- none where the call is refused
unfoldable pub stores : Card → List ℕ → List ℕ → List ℕ → ℕ → List ℕ → Run
stores c area cmd random first out =
    let xs = stores_of c area cmd in
    let n = few xs first (most first (length out)) in
    cond (eqb (refusal c area random) 0) (ran 0 n (laid xs first n out)) (ran (refusal c area random) 0 out)

pub record Hands (w : Run) (r : Counted) (out' : List ℕ) : Type 0 where
  pub counted_is : r ≡ w.counted
  pub out-is : out' ≡ w.out
