-- The statements of `Answers` leave no second answer: of any sound card and any command, two outcomes that meet one of them say the same.
use Rattle.std.specs.Prelude.{ℕ, true, List, ◌≡◌}
use Rattle.rules.specs.declared.Card.{Card}
use Rattle.rules.specs.Sound.{sound}
use Rattle.rules.specs.Effect.{Stepped}
use Rattle.served.specs.Left.{waiting}
use Rattle.served.specs.Answers.{Select, ReadBinary, UpdateBinary, ReadRecord, UpdateRecord, AppendRecord, Verify, Authenticate, ChangePin, ReloadPin, CreateFile, GetChallenge, GetResponse}

-- the same status word and data, at once or waiting
pub record SameAnswer (s t : Stepped) : Type 0 where
  pub sw-is : s.sw ≡ t.sw
  pub bytes-are : s.bytes ≡ t.bytes
  pub waiting-are : waiting s.card ≡ waiting t.card

abbrev pub NoSecond : (Card → List ℕ → List ℕ → List ℕ → Stepped → Type 0) → Type 0
NoSecond Paper =
    (c : Card) (area random cmd : List ℕ) (s t : Stepped) → sound c area ≡ true → Paper c area random cmd s → Paper c area random cmd t → SameAnswer s t

pub record OneAnswer : Type 0 where
  pub select : NoSecond Select
  pub read-binary : NoSecond ReadBinary
  pub update-binary : NoSecond UpdateBinary
  pub read-record : NoSecond ReadRecord
  pub update-record : NoSecond UpdateRecord
  pub append-record : NoSecond AppendRecord
  pub verify : NoSecond Verify
  pub authenticate : NoSecond Authenticate
  pub change-pin : NoSecond ChangePin
  pub reload-pin : NoSecond ReloadPin
  pub create-file : NoSecond CreateFile
  pub get-challenge : NoSecond GetChallenge
  pub get-response : NoSecond GetResponse
