-- The first of what the user asks: a cyclic file never refuses because it is full. The newest record pushes out the oldest, and nothing else changes.
use Rattle.std.specs.Prelude.{ℕ, ◌+◌, ◌-◌, ◌*◌, ◌≤◌, ◌<◌, true, List, [], ◌∷◌, ◌++◌, ◌≡◌, length, take}
use Rattle.rules.specs.declared.Card.{Card}
use Rattle.rules.specs.Sound.{sound}
use Rattle.rules.specs.Step.{step}
use Rattle.rules.specs.Effect.{Stepped}
use Rattle.demands.specs.Soundness.{Bytes}
use Rattle.demands.specs.Held.{file_no, Named, bytes_used, records_no, left_no, limit_no, Opens, AsksCode, label_no, HeldOn}
use Rattle.demands.specs.Ledger.{size_of}
use Rattle.served.specs.Left.{with_key_tries, Refused, Written}
use Rattle.served.specs.Answers.{CodeAgrees}

-- APPEND RECORD of a record, byte by byte: to the file that has an SFI, for 0 to the current one
abbrev pub appending : ℕ → List ℕ → List ℕ
appending sfi r = 0x00 ∷ 0xE2 ∷ 0x00 ∷ sfi * 8 ∷ length r ∷ r

-- and with a code (R-9)
abbrev pub appending_coded : ℕ → List ℕ → List ℕ → List ℕ
appending_coded sfi r code = 0x04 ∷ 0xE2 ∷ 0x00 ∷ sfi * 8 ∷ (length r + 4) ∷ (r ++ code)

-- it ends 9000, and no other file, no PIN and no count of tries is touched (Written). The list of records is the new one and then the old list, without its oldest
-- where the file was full
pub record PushedOut (c : Card) (area : List ℕ) (n : ℕ) (r : List ℕ) (s : Stepped) : Type 0 where
  pub written : Written c area n s
  pub not_full : (file_no c n).held < (file_no c n).size1 → records_no s.card s.area n ≡ r ∷ records_no c area n
  pub full : (file_no c n).held ≡ (file_no c n).size1 → records_no s.card s.area n ≡ r ∷ take ((file_no c n).size1 - 1) (records_no c area n)

-- on any sound card, to any file of type 2E that is named, where what its write right asks is held and it asks for no code, a record of the file's length
abbrev pub NewestPushesOut : Type 0
NewestPushesOut =
    (c : Card) (area random : List ℕ) → sound c area ≡ true → length area ≡ 4096 → length random ≡ 16 → (sfi n : ℕ) → Named c sfi n → (file_no c n).kind ≡ 0x2E
    → Opens (HeldOn c) (file_no c n).write → (AsksCode (file_no c n).write → ⊥) → (r : List ℕ) → Bytes r → length r ≡ (file_no c n).size2
    → PushedOut c area n r (step c area (appending sfi r) random)

-- with a right code, whether it asks for one or not: a try of the transport key is left, and there is a challenge. All tries are restored
pub record CodeGiven (c : Card) (sfi : ℕ) (r code : List ℕ) : Type 0 where
  pub bytes : Bytes code
  pub four : length code ≡ 4
  pub try-left : 1 ≤ left_no c 3
  pub with-challenge : 1 ≤ c.session.len
  pub right : CodeAgrees c (appending_coded sfi r code)

abbrev pub CodedPushesOut : Type 0
CodedPushesOut =
    (c : Card) (area random : List ℕ) → sound c area ≡ true → length area ≡ 4096 → length random ≡ 16 → (sfi n : ℕ) → Named c sfi n → (file_no c n).kind ≡ 0x2E
    → Opens (HeldOn c) (file_no c n).write → (r code : List ℕ) → Bytes r → length r ≡ (file_no c n).size2 → CodeGiven c sfi r code
    → PushedOut (with_key_tries c (limit_no c 3)) area n r (step c area (appending_coded sfi r code) random)

-- its twin of type 2C (R-1): a record of 1 to 178 bytes comes after the last, and all else stays; or 6A84, exactly where it and its length byte do not fit
pub record Added (c : Card) (area : List ℕ) (n : ℕ) (r : List ℕ) (s : Stepped) : Type 0 where
  pub written : Written c area n s
  pub after-the-last : records_no s.card s.area n ≡ records_no c area n ++ (r ∷ [])

abbrev pub NotesAddUp : Type 0
NotesAddUp =
    (c : Card) (area random : List ℕ) → sound c area ≡ true → length area ≡ 4096 → length random ≡ 16 → (sfi n : ℕ) → Named c sfi n → (file_no c n).kind ≡ 0x2C
    → Opens (HeldOn c) (file_no c n).write → (AsksCode (file_no c n).write → ⊥) → (r : List ℕ) → Bytes r → 1 ≤ length r → length r ≤ 178
    → (bytes_used (file_no c n) + 1 + length r ≤ size_of (label_no c n) → Added c area n r (step c area (appending sfi r) random))
    × (size_of (label_no c n) < bytes_used (file_no c n) + 1 + length r → Refused c area 0x6A84 (step c area (appending sfi r) random))

abbrev pub CodedNotesAddUp : Type 0
CodedNotesAddUp =
    (c : Card) (area random : List ℕ) → sound c area ≡ true → length area ≡ 4096 → length random ≡ 16 → (sfi n : ℕ) → Named c sfi n → (file_no c n).kind ≡ 0x2C
    → Opens (HeldOn c) (file_no c n).write → (r code : List ℕ) → Bytes r → 1 ≤ length r → length r ≤ 178 → CodeGiven c sfi r code
    → let x = with_key_tries c (limit_no c 3) in
    let s = step c area (appending_coded sfi r code) random in
    (bytes_used (file_no c n) + 1 + length r ≤ size_of (label_no c n) → Added x area n r s)
    × (size_of (label_no c n) < bytes_used (file_no c n) + 1 + length r → Refused x area 0x6A84 s)
