-- A call that can be served is served: a command, an issue and a reset, with their refusals in order; and when the current file changes.
use Rattle.std.specs.Prelude.{ℕ, ◌+◌, ◌/◌, ◌%◌, ◌≤◌, true, List, [], ◌∷◌, ◌++◌, ◌⊎◌, ◌≡◌, length, drop, replicate}
use Rattle.files.specs.State.{blank_file, blank_folder}
use Rattle.rules.specs.declared.Card.{Card}
use Rattle.rules.specs.declared.Credential.{Credential}
use Rattle.rules.specs.declared.Answer.{Answer}
use Rattle.rules.specs.State.{Which, device, admin, user, transport, number_of, blank_card}
use Rattle.rules.specs.Sound.{sound}
use Rattle.rules.specs.Frame.{Command, framed}
use Rattle.rules.specs.Target.{right_sw}
use Rattle.rules.specs.Step.{step}
use Rattle.rules.specs.Effect.{Stepped}
use Rattle.rules.specs.Calls.{Done, Order, Issued, command, issue, reset}
use Rattle.demands.specs.Ledger.{Event, ledger, HeldIn}
use Rattle.demands.specs.Framing.{EitherClass}
use Rattle.demands.specs.Run.{Served, after}
use Rattle.demands.specs.Held.{value_no, left_no, limit_no, right_no, Opens, HeldOn}
use Rattle.served.specs.Left.{mode, waiting, Ask, Challenge}
use Rattle.served.specs.Answers.{Digits, OneOf}

-- ---- a command: refused by 1 to 4, with the given state and nothing written
pub record TurnedAway (c : Card) (area reply : List ℕ) (d : Done) (number : ℕ) : Type 0 where
  pub outcome-is : d.answer.outcome ≡ number
  pub card-is : d.answer.card ≡ c
  pub count-is : d.answer.n ≡ 0
  pub area-is : d.area ≡ area
  pub reply-is : d.reply ≡ reply

-- served: the step's card and area; the reply has its data, then its status word, and stays behind them
pub record Carried (s : Stepped) (reply : List ℕ) (d : Done) : Type 0 where
  pub outcome-is : d.answer.outcome ≡ 0
  pub card-is : d.answer.card ≡ s.card
  pub count-is : d.answer.n ≡ length s.bytes + 2
  pub area-is : d.area ≡ s.area
  pub reply-is : d.reply ≡ s.bytes ++ ((s.sw / 256) ∷ (s.sw % 256) ∷ drop (length s.bytes + 2) reply)

abbrev pub CommandAnswers : Type 0
CommandAnswers =
    (c : Card) (area cmd random reply : List ℕ)
    → let d = command c area cmd random reply in
    Ask (TurnedAway c area reply d) (258 ≤ length reply) 1
    (Ask (TurnedAway c area reply d) (length area ≡ 4096) 2
    (Ask (TurnedAway c area reply d) (length random ≡ 16) 3
    (Ask (TurnedAway c area reply d) (sound c area ≡ true) 4
    (Carried (step c area cmd random) reply d))))

-- ---- an issue: refused by 2 and 5, with a blank state and the area as it was
pub record NotIssued (area : List ℕ) (x : Issued) (number : ℕ) : Type 0 where
  pub outcome-is : x.answer.outcome ≡ number
  pub card-is : x.answer.card ≡ blank_card
  pub count-is : x.answer.n ≡ 0
  pub area-is : x.area ≡ area

-- a blank state is all zero, over the state's fields
abbrev pub zero_credential : Credential
zero_credential = record { value = replicate 16 0; len = 0; tries = record { left = 0; limit = 0 } }

pub record AllZero (c : Card) : Type 0 where
  pub credentials-are : c.credentials ≡ replicate 4 zero_credential
  pub files-are : (c.directory.count ≡ 0) × (c.directory.files ≡ replicate 16 blank_file)
  pub folders-are : (c.directory.number ≡ 0) × (c.directory.folders ≡ replicate 4 blank_folder)
  pub rights-are : c.session.rights ≡ replicate 3 0
  pub currents-are : (c.session.current ≡ 0) × (c.session.folder ≡ 0)
  pub challenge-is : Challenge c []
  pub mode-is : c.response.mode ≡ 0
  pub counts-are : (c.response.count1 ≡ 0) × (c.response.count2 ≡ 0)
  pub waiting-are : c.response.bytes ≡ replicate 256 0
  pub journal-is : (c.journal.what ≡ 0) × (c.journal.bytes ≡ replicate 17 0)

abbrev pub BlankZero : Type 0
BlankZero = AllZero blank_card

-- keys of 16 bytes, PINs of 6 to 16 digits, limits of 1 to 128, mode 0 or 1
abbrev pub GoodPin : List ℕ → Type 0
GoodPin d = (6 ≤ length d) × (length d ≤ 16) × Digits d

pub record GoodOrder (o : Order) : Type 0 where
  pub device-key : length (o.given device).value ≡ 16
  pub admin-pin : GoodPin (o.given admin).value
  pub user-pin : GoodPin (o.given user).value
  pub transport-key : length (o.given transport).value ≡ 16
  pub limits : (w : Which) → (1 ≤ (o.given w).limit) × ((o.given w).limit ≤ 128)
  pub mode : o.mode ≤ 1

-- served, in either mode: values and limits as given, full tries, no right; no file and no directory, none current, in the root, no challenge, nothing waits; an area of 00
pub record Fresh (o : Order) (x : Issued) : Type 0 where
  pub outcome-is : x.answer.outcome ≡ 0
  pub count-is : x.answer.n ≡ 0
  pub values-are : (w : Which) → value_no x.answer.card (number_of w) ≡ (o.given w).value
  pub left-are : (w : Which) → left_no x.answer.card (number_of w) ≡ (o.given w).limit
  pub limits-are : (w : Which) → limit_no x.answer.card (number_of w) ≡ (o.given w).limit
  pub no-rights : (n : ℕ) → right_no x.answer.card n ≡ 0
  pub no-files : x.answer.card.directory.count ≡ 0
  pub no-directories : x.answer.card.directory.number ≡ 0
  pub none-current : x.answer.card.session.current ≡ 0
  pub in-root : x.answer.card.session.folder ≡ 0
  pub no-challenge : Challenge x.answer.card []
  pub mode-is : mode x.answer.card ≡ o.mode
  pub none-wait : waiting x.answer.card ≡ []
  pub area-is : x.area ≡ replicate 4096 0

abbrev pub IssueAnswers : Type 0
IssueAnswers = (o : Order) (area : List ℕ) → Ask (NotIssued area (issue o area)) (length area ≡ 4096) 2 (Ask (NotIssued area (issue o area)) (GoodOrder o) 5 (Fresh o (issue o area)))

-- ---- a reset: refused by 2 and 4, with the given state
pub record NotReset (c : Card) (x : Answer) (number : ℕ) : Type 0 where
  pub outcome-is : x.outcome ≡ number
  pub count-is : x.n ≡ 0
  pub card-is : x.card ≡ c

-- served: no right, none current, back in the root, no challenge, nothing waits; all else stays
pub record Ended (c : Card) (x : Answer) : Type 0 where
  pub outcome-is : x.outcome ≡ 0
  pub count-is : x.n ≡ 0
  pub no-rights : (n : ℕ) → right_no x.card n ≡ 0
  pub none-current : x.card.session.current ≡ 0
  pub in-root : x.card.session.folder ≡ 0
  pub no-challenge : Challenge x.card []
  pub none-wait : waiting x.card ≡ []
  pub credentials-are : x.card.credentials ≡ c.credentials
  pub directory-is : x.card.directory ≡ c.directory
  pub mode-is : mode x.card ≡ mode c

abbrev pub ResetAnswers : Type 0
ResetAnswers = (c : Card) (area : List ℕ) → Ask (NotReset c (reset c area)) (length area ≡ 4096) 2 (Ask (NotReset c (reset c area)) (sound c area ≡ true) 4 (Ended c (reset c area)))

-- 9000, or 61 and a number, which counts as 9000
abbrev pub EndsWell : Stepped → Type 0
EndsWell s = (s.sw ≡ 0x9000) ⊎ ((0x6100 ≤ s.sw) × (s.sw ≤ 0x61FF))

-- ---- the current file: only SELECT, CREATE FILE, and a read, update or append changes it, one that ends 9000 or 61xx
pub record Turns (k : Command) (s : Stepped) : Type 0 where
  pub by_bytes :
      ((k.cla ≡ 0x00) × (k.ins ≡ 0xA4))
      ⊎ ((EitherClass k.cla × OneOf k.ins (0xB0 ∷ 0xD6 ∷ 0xB2 ∷ 0xDC ∷ 0xE2 ∷ [])) ⊎ ((k.cla ≡ 0x80) × (k.ins ≡ 0xE0)))
  pub served : EndsWell s

abbrev pub CurrentStays : Type 0
CurrentStays =
    (c : Card) (area cmd random : List ℕ)
    → ((step c area cmd random).card.session.current ≡ c.session.current) ⊎ Turns (framed cmd) (step c area cmd random)

-- and the current directory: only SELECT
pub record Enters (k : Command) (s : Stepped) : Type 0 where
  pub by_bytes : (k.cla ≡ 0x00) × (k.ins ≡ 0xA4)
  pub served : EndsWell s

abbrev pub FolderStays : Type 0
FolderStays =
    (c : Card) (area cmd random : List ℕ)
    → ((step c area cmd random).card.session.folder ≡ c.session.folder) ⊎ Enters (framed cmd) (step c area cmd random)

-- ---- the rights byte, both ways: the check of a right passes exactly where what the byte asks is held
abbrev pub RightsBothWays : Type 0
RightsBothWays = (c : Card) (byte : ℕ) → (Opens (HeldOn c) byte → right_sw c.session.rights byte ≡ 0x9000) × ((Opens (HeldOn c) byte → ⊥) → right_sw c.session.rights byte ≡ 0x6982)

-- and over any list of calls after a served issue it is held on the card exactly where it is held in the ledger
abbrev pub OpensFollows : Type 0
OpensFollows =
    (o : Order) (area : List ℕ) (es : List Event) → Served o area → (byte : ℕ)
    → (Opens (HeldIn (ledger o es)) byte → Opens (HeldOn (after o area es).card) byte) × (Opens (HeldOn (after o area es).card) byte → Opens (HeldIn (ledger o es)) byte)
