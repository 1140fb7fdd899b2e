-- Demand 3 of replies, for any other area with which the card is sound: an answer depends on the bytes of a file only where the command reads that very file
-- by right, or updates a record of it by right, which tells by 6A83 and 6700 how many records there are and how long they are.
use Rattle.std.specs.Prelude.{ℕ, ◌≤◌, true, List, ◌⊎◌, ◌≡◌, length}
use Rattle.rules.specs.declared.Card.{Card}
use Rattle.rules.specs.Sound.{sound}
use Rattle.rules.specs.Frame.{framed}
use Rattle.rules.specs.Step.{step}
use Rattle.rules.specs.Calls.{reset}
use Rattle.demands.specs.Soundness.{Bytes}
use Rattle.demands.specs.Held.{file_no, bytes_no, Opens, AsksCode, HeldOn, record_sfi}
use Rattle.demands.specs.Files.{Addresses, ReadsFrom}
use Rattle.served.specs.Answers.{WithCode, CodeAgrees}
use Rattle.served.specs.One.{SameAnswer}

-- what a file's right asks of a command: the rights held, and a code where it asks for one; and a code that is there is right (R-9)
pub record Entitled (c : Card) (right : ℕ) (cmd : List ℕ) : Type 0 where
  pub opens : Opens (HeldOn c) right
  pub code-asked : AsksCode right → WithCode cmd
  pub code-right : WithCode cmd → CodeAgrees c cmd

-- two areas with the same bytes in every file but one, of whose bytes nothing is asked but that the card is sound with them
abbrev pub BytesHidden : Type 0
BytesHidden =
    (c : Card) (area other cmd random : List ℕ) (n : ℕ) → sound c area ≡ true → sound c other ≡ true → length area ≡ 4096 → length other ≡ 4096
    → length random ≡ 16 → Bytes cmd → ((m : ℕ) → 1 ≤ m → (m ≡ n → ⊥) → bytes_no c area m ≡ bytes_no c other m)
    → SameAnswer (step c area cmd random) (step c other cmd random)
    ⊎ ((ReadsFrom c (framed cmd) n × Entitled c (file_no c n).read cmd)
    ⊎ (Addresses c (framed cmd) 0xDC (record_sfi (framed cmd)) n × Entitled c (file_no c n).write cmd))

-- and a reset answers the same on any two areas with which the card is sound
abbrev pub ResetHidden : Type 0
ResetHidden = (c : Card) (area other : List ℕ) → sound c area ≡ true → sound c other ≡ true → length area ≡ 4096 → length other ≡ 4096 → reset c area ≡ reset c other
