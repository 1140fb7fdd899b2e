-- What a line is, said by writing it, and what the program does with it: document 01's section "The script program", with R-6 and R-9. The words are the
-- statements' own: SpelledRead and ReadSpelled alone name definitions of Grammar.
use Rattle.std.specs.Prelude.{ℕ, ◌≤◌, ◌<◌, true, false, ◌||◌, List, [], ◌∷◌, ◌++◌, ◌≡◌, length, get_or}
use Rattle.files.specs.Part.{over, zeros}
use Rattle.rules.specs.declared.Card.{Card}
use Rattle.rules.specs.Words.{sw_bytes}
use Rattle.rules.specs.Step.{step}
use Rattle.rules.specs.Calls.{Order, issue, command, reset}
use Rattle.card.specs.Ordered.{order_of}
use Rattle.digits.specs.Digits.{tab, newline, chars, decimal, hex_of, or_dash}
use Rattle.lines.specs.declared.Bench.{Bench}
use Rattle.lines.specs.Grammar.{is_issue, order_in, is_command, command_in, random_in, is_reset}
use Rattle.lines.specs.Script.{bench, no_card, Written, written, answer}

-- fields parted by tabs
unfoldable pub joined : List (List ℕ) → List ℕ
joined [] = []
joined (f ∷ []) = f
joined (f ∷ g ∷ more) = f ++ (tab ∷ joined (g ∷ more))

-- what an ISSUE says
pub record Issue : Type 0 where
  pub key : List ℕ
  pub key_limit : ℕ
  pub admin_pin : List ℕ
  pub admin_limit : ℕ
  pub user_pin : List ℕ
  pub user_limit : ℕ
  pub mode : ℕ
  pub transport_key : List ℕ
  pub transport_limit : ℕ

-- an ISSUE; CMD, command, random; RESET
pub data Line : Type 0 where
  issues : Issue → Line
  commands : List ℕ → List ℕ → Line
  resets : Line

-- keys, commands and random are upper-case hex, limits and the mode decimal without leading zeros, and a PIN stands as it is
unfoldable pub spelled : Line → List ℕ
spelled (issues i) =
    joined
    (chars "ISSUE"
    ∷ hex_of i.key
    ∷ decimal i.key_limit
    ∷ i.admin_pin
    ∷ decimal i.admin_limit
    ∷ i.user_pin
    ∷ decimal i.user_limit
    ∷ decimal i.mode
    ∷ hex_of i.transport_key
    ∷ decimal i.transport_limit
    ∷ [])
spelled (commands cmd random) = joined (chars "CMD" ∷ hex_of cmd ∷ hex_of random ∷ [])
spelled resets = chars "RESET"

-- up to 300 bytes, possibly none
pub record Few (bytes : List ℕ) : Type 0 where
  pub few : length bytes ≤ 300
  pub each-byte : (i : ℕ) → get_or bytes i 0 < 256

-- a PIN is any bytes but tab, also none; a line ends at its newline, so no newline is in it
abbrev pub TabFree : List ℕ → Type 0
TabFree pin = (i : ℕ) → i < length pin → get_or pin i 0 ≡ tab → ⊥

pub record GoodIssue (i : Issue) : Type 0 where
  pub key : Few i.key
  pub key-limit : i.key_limit ≤ 65535
  pub admin-pin : TabFree i.admin_pin
  pub admin-limit : i.admin_limit ≤ 65535
  pub user-pin : TabFree i.user_pin
  pub user-limit : i.user_limit ≤ 65535
  pub mode : i.mode ≤ 65535
  pub transport-key : Few i.transport_key
  pub transport-limit : i.transport_limit ≤ 65535

abbrev pub Good : Line → Type 0
Good (issues i) = GoodIssue i
Good (commands cmd random) = Few cmd × Few random
Good resets = Unit

-- a line of the script
pub record IsLine (s : List ℕ) : Type 0 where
  pub line : Line
  pub good : Good line
  pub is : s ≡ spelled line

-- ---- the grammar's tests, and what is read from a line
abbrev pub order_for : Issue → Order
order_for i =
    order_of i.key i.key_limit i.admin_pin i.admin_limit i.user_pin i.user_limit i.mode i.transport_key i.transport_limit

abbrev pub ReadAs : Line → List ℕ → Type 0
ReadAs (issues i) s = (is_issue s ≡ true) × (is_command s ≡ false) × (is_reset s ≡ false) × (order_in s ≡ order_for i)
ReadAs (commands cmd random) s = (is_issue s ≡ false) × (is_command s ≡ true) × (is_reset s ≡ false) × (command_in s ≡ cmd) × (random_in s ≡ random)
ReadAs resets s = (is_issue s ≡ false) × (is_command s ≡ false) × (is_reset s ≡ true)

-- a line that is written is read as what it says, and is not two of the three
abbrev pub SpelledRead : Type 0
SpelledRead = (l : Line) → Good l → ReadAs l (spelled l)

-- what is read as one of the three was written so
abbrev pub ReadSpelled : Type 0
ReadSpelled = (s : List ℕ) → (is_issue s || (is_command s || is_reset s)) ≡ true → IsLine s

-- no line says two things
abbrev pub OneMeaning : Type 0
OneMeaning = (l m : Line) → Good l → Good m → spelled l ≡ spelled m → l ≡ m

-- ---- what is done with a line, and printed for it
-- line number, outcome, data in upper-case hex or -, SW or -
unfoldable pub reported : ℕ → ℕ → List ℕ → List ℕ → List ℕ
reported number outcome bytes sw = joined (decimal number ∷ decimal outcome ∷ or_dash bytes ∷ or_dash sw ∷ []) ++ (newline ∷ [])

-- the bench and the area as they are then, and the line over the front of the output
abbrev pub leaves : Bench → List ℕ → List ℕ → List ℕ → Written
leaves b area text out = written b (length text) area (over text out)

module _ (b : Bench) (area : List ℕ) (number : ℕ) (out : List ℕ) (w : Written) where
  -- nothing is changed, and an outcome alone is printed
  abbrev pub Unchanged : ℕ → Type 0
  Unchanged outcome = w ≡ leaves b area (reported number outcome [] []) out

  -- the issue's card from now on, with the area that it leaves; a refused ISSUE keeps the earlier card, and the area as it was
  pub record Issues (o : Order) : Type 0 where
    pub good : (issue o area).answer.outcome ≡ 0 → w ≡ leaves (bench true (issue o area).answer.card) (issue o area).area (reported number 0 [] []) out
    pub refused : ((issue o area).answer.outcome ≡ 0 → ⊥) → Unchanged (issue o area).answer.outcome

  -- the card's answer, with the reply buffer that a card asks for; a call that is not served changes nothing
  pub record Commands (c : Card) (cmd random : List ℕ) : Type 0 where
    pub served : (command c area cmd random (zeros 258)).answer.outcome ≡ 0
        → w ≡ leaves (bench true (step c area cmd random).card) (step c area cmd random).area (reported number 0 (step c area cmd random).bytes (sw_bytes (step c area cmd random).sw)) out
    pub not-served : ((command c area cmd random (zeros 258)).answer.outcome ≡ 0 → ⊥) → Unchanged (command c area cmd random (zeros 258)).answer.outcome

  pub record Resets (c : Card) : Type 0 where
    pub served : (reset c area).outcome ≡ 0 → w ≡ leaves (bench true (reset c area).card) area (reported number 0 [] []) out
    pub not-served : ((reset c area).outcome ≡ 0 → ⊥) → Unchanged (reset c area).outcome

  -- what each of the three does; before a good ISSUE the other two are outcome 9
  abbrev pub Does : Line → Type 0
  Does (issues i) = Issues (order_for i)
  Does (commands cmd random) = (b.issued ≡ true → Commands b.card cmd random) × (b.issued ≡ false → Unchanged 9)
  Does resets = (b.issued ≡ true → Resets b.card) × (b.issued ≡ false → Unchanged 9)

  pub record Obeys (s : List ℕ) : Type 0 where
    -- up to 1,024 bytes
    pub line : (l : Line) → Good l → s ≡ spelled l → length s ≤ 1024 → Does l
    -- other lines, and lines over 1,024 bytes
    pub other : (IsLine s → ⊥) → Unchanged 9
    pub long : 1024 < length s → Unchanged 9

-- any call with an area of 4,096 bytes and room for the longest line printed
abbrev pub LinesAnswered : Type 0
LinesAnswered =
    (b : Bench) (area s : List ℕ) (number : ℕ) (out : List ℕ) → length area ≡ 4096 → 532 ≤ length out → Obeys b area number out (answer b area s number out) s

-- any other call changes nothing and prints nothing
abbrev pub NotAnswered : Type 0
NotAnswered =
    (b : Bench) (area s : List ℕ) (number : ℕ) (out : List ℕ) → ((length area ≡ 4096) × (532 ≤ length out) → ⊥) → answer b area s number out ≡ written b 0 area out

-- there is no card at first
abbrev pub NoCardFirst : Type 0
NoCardFirst = no_card.issued ≡ false
