-- R-11, what an outsider can learn: two cards that differ only in what he is not to learn, driven by the same calls, answer the same, call after call, and
-- differ in nothing else afterwards. Of any two sound cards, not only after an issue. A list of calls has no cut (R-10), and cards as text are no calls.
use Rattle.std.specs.Prelude.{ℕ, ◌+◌, Bool, true, List, [], ◌∷◌, ◌++◌, ◌⊎◌, ◌≡◌, length, take, drop}
use Rattle.files.specs.Listed.{SameLengths}
use Rattle.rules.specs.declared.Answer.{Answer}
use Rattle.rules.specs.declared.Card.{Card}
use Rattle.rules.specs.State.{Which, number_of, mode, with_value}
use Rattle.rules.specs.Sound.{good_value}
use Rattle.rules.specs.Frame.{Command, framed}
use Rattle.rules.specs.Calls.{command, reset}
use Rattle.demands.specs.Ledger.{Event, sent, resets, right, size_of, binary_p, record_p, servable}
use Rattle.demands.specs.Held.{file_no, IsFile, label_no, start_no, bytes_no, binary_sfi, record_sfi, credential_no, value_no, Opens, HeldOn}
use Rattle.demands.specs.Run.{World, world, SoundWorld, called, run}
use Rattle.demands.specs.Files.{Addresses, AlikeBut}
use Rattle.demands.specs.Codes.{kind_on}

-- ---- two cards and one list of calls
-- what a call tells its caller: the outcome, how many bytes are the answer, and the reply buffer, of which a reset has none
pub record Heard : Type 0 where
  pub outcome : ℕ
  pub count : ℕ
  pub reply : List ℕ

abbrev pub hear : Answer → List ℕ → Heard
hear a reply = record { outcome = a.outcome; count = a.n; reply = reply }

abbrev pub heard : World → Event → Heard
heard w (sent cmd random reply) = let d = command w.card w.area cmd random reply in hear d.answer d.reply
heard w resets = hear (reset w.card w.area) []

-- call after call, each given state and area as the last one left them
unfoldable pub hears : World → List Event → List Heard
hears w [] = []
hears w (e ∷ es) = heard w e ∷ hears (called w e) es

-- before each call of the list this holds, of the two cards as the calls so far left them and of the call
unfoldable pub Before : (World → World → Event → Type 0) → World → World → List Event → Type 0
Before P w v [] = Unit
Before P w v (e ∷ es) = P w v e × Before P (called w e) (called v e) es

-- each call tells the same of both, and after each of them, the first m for any m, the two are alike again
pub record Same (Alike : World → World → Type 0) (w v : World) (es : List Event) : Type 0 where
  pub heard-are : hears w es ≡ hears v es
  pub alike : (m : ℕ) → Alike (run w (take m es)) (run v (take m es))

-- ---- the bytes of one file
-- alike in all but the bytes of file n, its length bytes alike too. What waits for GET RESPONSE stands in the card, so it is alike: that nothing waits at the
-- start is one case
pub record AllButBytes (n : ℕ) (w v : World) : Type 0 where
  pub there : IsFile w.card n
  pub card-is : w.card ≡ v.card
  pub areas : AlikeBut w.card n w.area v.area

-- a command of this instruction, with a code or without, in a good frame and with good P, that names file n
pub record NamesIt (c : Card) (k : Command) (ins sfi n : ℕ) (good : Bool) : Type 0 where
  pub good-frame : k.case ≡ 0 → ⊥
  pub good-p : good ≡ true
  pub addresses : Addresses c k ins sfi n

-- one of the file's reads, READ BINARY or READ RECORD, by the command's own bytes. Whether it shows anything, or is refused for its case, a code, the file's
-- type, a right, an offset, a number or a length, is not asked
abbrev pub IsReadOf : Card → Command → ℕ → Type 0
IsReadOf c k n = NamesIt c k 0xB0 (binary_sfi k) n (binary_p k) ⊎ NamesIt c k 0xB2 (record_sfi k) n (record_p k)

-- where the call is served and one of the file's reads, its read right, codes apart, is unsatisfied on the card, which is one card in both
abbrev pub Unsatisfied : ℕ → World → World → Event → Type 0
Unsatisfied n w v (sent cmd random reply) =
    servable random reply ≡ true → IsReadOf w.card (framed cmd) n → Opens (HeldOn w.card) (file_no w.card n).read → ⊥
Unsatisfied n w v resets = Unit

-- two sound cards alike in all but the bytes of one file, driven by the same commands, resets and random input, with that file's read right unsatisfied before
-- each of its reads, give the same replies and stay alike in all but that file's bytes
abbrev pub Outsider : Type 0
Outsider =
    (n : ℕ) (w v : World) (es : List Event) → SoundWorld w → SoundWorld v → AllButBytes n w v → Before (Unsatisfied n) w v es
    → Same (AllButBytes n) w v es

-- whoever comes after a reset: of rights, current file and directory, challenge and waiting bytes nothing is left, so that cards which differ in these too are
-- then alike in all but the file's bytes
pub record AllButSession (n : ℕ) (w v : World) : Type 0 where
  pub there : IsFile w.card n
  pub credentials-are : w.card.credentials ≡ v.card.credentials
  pub directory-is : w.card.directory ≡ v.card.directory
  pub mode-is : mode w.card ≡ mode v.card
  pub areas : AlikeBut w.card n w.area v.area

abbrev pub ResetForgets : Type 0
ResetForgets =
    (n : ℕ) (w v : World) → SoundWorld w → SoundWorld v → AllButSession n w v
    → (heard w resets ≡ heard v resets) × AllButBytes n (called w resets) (called v resets)

-- there are such pairs: with any other bytes in a file, of its size and with its length bytes, a sound card is sound and alike, and has these bytes
abbrev pub with_contents : ℕ → List ℕ → World → World
with_contents n bytes w =
    let at = start_no w.card n in world w.card (take at w.area ++ (bytes ++ drop (at + length bytes) w.area))

abbrev pub OtherBytes : Type 0
OtherBytes =
    (n : ℕ) (bytes : List ℕ) (w : World) → SoundWorld w → IsFile w.card n → length bytes ≡ size_of (label_no w.card n)
    → SameLengths (file_no w.card n) (bytes_no w.card w.area n) bytes
    → let v = with_contents n bytes w in SoundWorld v × (AllButBytes n w v × (bytes_no v.card v.area n ≡ bytes))

-- ---- the value of one credential: device key, admin PIN, user PIN or transport key
-- alike in all but the value of a credential, whose length may differ too; its tries and its limit are alike. The journal of a sound card is 00
pub record AllButValue (which : Which) (w v : World) : Type 0 where
  pub tries-are : (credential_no w.card (number_of which)).tries ≡ (credential_no v.card (number_of which)).tries
  pub others-are : (n : ℕ) → (n ≡ number_of which → ⊥) → credential_no w.card n ≡ credential_no v.card n
  pub directory-is : w.card.directory ≡ v.card.directory
  pub session-is : w.card.session ≡ v.card.session
  pub response-is : w.card.response ≡ v.card.response
  pub area-is : w.area ≡ v.area

-- a served presentation of the credential, by VERIFY, EXTERNAL AUTHENTICATE or a code, that is right on one of the cards is right on the other
abbrev pub SameVerdict : Which → World → World → Event → Type 0
SameVerdict which w v (sent cmd random reply) =
    servable random reply ≡ true
    → (kind_on w.card cmd which ≡ right → kind_on v.card cmd which ≡ right)
    × (kind_on v.card cmd which ≡ right → kind_on w.card cmd which ≡ right)
SameVerdict which w v resets = Unit

-- two sound cards alike in all but the value of one credential, driven by the same calls, none of which is a presentation of it that is right on one of them
-- alone, give the same replies and stay alike in all but that value
abbrev pub Guesser : Type 0
Guesser =
    (which : Which) (w v : World) (es : List Event) → SoundWorld w → SoundWorld v → AllButValue which w v → Before (SameVerdict which) w v es
    → Same (AllButValue which) w v es

-- no served presentation of the credential is right on either card
abbrev pub NoneRight : Which → World → World → Event → Type 0
NoneRight which w v (sent cmd random reply) =
    servable random reply ≡ true → (kind_on w.card cmd which ≡ right → ⊥) × (kind_on v.card cmd which ≡ right → ⊥)
NoneRight which w v resets = Unit

-- so whoever has not presented it rightly learns of it only what it is not
abbrev pub Unguessed : Type 0
Unguessed =
    (which : Which) (w v : World) (es : List Event) → SoundWorld w → SoundWorld v → AllButValue which w v → Before (NoneRight which) w v es
    → Same (AllButValue which) w v es

-- there are such pairs: with any other good value for a credential a sound card is sound and alike, and has this value
abbrev pub OtherValue : Type 0
OtherValue =
    (which : Which) (value : List ℕ) (w : World) → SoundWorld w → good_value (number_of which) value ≡ true
    → let v = world (with_value which w.card value) w.area in
    SoundWorld v × (AllButValue which w v × (value_no v.card (number_of which) ≡ value))
