-- The table's rows and when one holds. What a row expects is put in words of its own, and not in those of the definitions that it tests.
use Rattle.std.specs.Prelude.{ℕ, zero, suc, ◌+◌, ◌-◌, Bool, true, false, cond, ◌&&◌, ◌||◌, not, List, [], ◌∷◌, ◌++◌, eqb, length, replicate}
use Prim.Native.String.{String}
use Rattle.rules.specs.declared.Credential.{Credential}
use Rattle.rules.specs.State.{device, admin, user, transport}
use Rattle.rules.specs.Calls.{Given, Order}
use Rattle.lines.specs.declared.Bench.{Bench}
use Rattle.lines.specs.Grammar.{is_issue, order_in, is_command, command_in, random_in, is_reset}
use Rattle.lines.specs.Script.{no_card, Written, answer}
use Rattle.digits.specs.Digits.{chars}

-- fields parted by tabs
abbrev pub parted : List (List ℕ) → List ℕ
parted [] = []
parted (f ∷ []) = f
parted (f ∷ g ∷ more) = f ++ (9 ∷ parted (g ∷ more))

abbrev pub each_chars : List String → List (List ℕ)
each_chars [] = []
each_chars (s ∷ ss) = chars s ∷ each_chars ss

abbrev pub text : List String → List ℕ
text fields = parted (each_chars fields)

-- equal in length and numbers
abbrev pub equal : List ℕ → List ℕ → Bool
equal [] [] = true
equal [] (b ∷ bs) = false
equal (a ∷ xs) [] = false
equal (a ∷ xs) (b ∷ bs) = eqb a b && equal xs bs

-- a number is in a list
abbrev pub among : List ℕ → ℕ → Bool
among [] n = false
among (x ∷ xs) n = eqb x n || among xs n

abbrev pub agree : Bool → Bool → Bool
agree true b = b
agree false b = not b

abbrev pub flag : Bool → ℕ
flag b = cond b 1 0

-- each number of an issue's arguments, in the order of the line
abbrev pub given_numbers : Given → List ℕ
given_numbers g = length g.value ∷ (g.value ++ (g.limit ∷ []))

abbrev pub order_numbers : Order → List ℕ
order_numbers o =
    given_numbers (o.given device) ++ given_numbers (o.given admin) ++ given_numbers (o.given user) ++ (o.mode ∷ given_numbers (o.given transport))

-- which of the three a text is: 1 an ISSUE, 2 a CMD, 4 a RESET, or none
abbrev pub kind : List ℕ → ℕ
kind s = flag (is_issue s) + (flag (is_command s) + flag (is_command s)) + (flag (is_reset s) + flag (is_reset s) + flag (is_reset s) + flag (is_reset s))

-- what a bench holds that a line could change: whether there is a card, its mode, the tries left, the current file and the challenge
abbrev pub tries_left : List Credential → List ℕ
tries_left [] = []
tries_left (x ∷ xs) = x.tries.left ∷ tries_left xs

abbrev pub marks : Bench → List ℕ
marks b = flag b.issued ∷ b.card.response.mode ∷ b.card.session.current ∷ b.card.session.len ∷ tries_left b.card.credentials

-- a line in, and what is then: the line printed, the bench's marks, and the byte that all of the area is
pub record Turn : Type 0 where
  pub given : List ℕ
  pub printed : List ℕ
  pub bench : List ℕ
  pub area : ℕ

-- the buffer for the line printed was in use
abbrev pub filler : ℕ → List ℕ
filler n = replicate n 0x5A

abbrev pub follows : Turn → Written → Bool
follows t w =
    equal (marks w.answer.bench) t.bench
    && (equal w.area (replicate 4096 t.area)
    && (eqb w.answer.n (length t.printed)
    && equal w.out (t.printed ++ filler (532 - length t.printed))))

abbrev pub turns_hold : ℕ → Bench → List ℕ → List Turn → Bool
turns_hold number b area [] = true
turns_hold number b area (t ∷ ts) =
    let w = answer b area t.given number (filler 532) in
    follows t w && turns_hold (suc number) w.answer.bench w.area ts

pub data Row : Type 0 where
  -- a text that is an ISSUE, with each number that it says
  issued : List ℕ → List ℕ → Row
  -- a CMD, with command and random
  sent : List ℕ → List ℕ → List ℕ → Row
  -- a RESET
  reset : List ℕ → Row
  -- none of the three
  other : List ℕ → Row
  -- lines in a row from a number on, before which there is no card and the area was in use
  turns : ℕ → List Turn → Row
  -- a line, with an area and a buffer of so many bytes: nothing is changed or printed
  unanswered : List ℕ → ℕ → ℕ → Row
  -- a whole range: what holds of each number below an end
  swept : ℕ → (ℕ → Bool) → Row

abbrev pub sweep : ℕ → (ℕ → Bool) → Bool
sweep zero p = true
sweep (suc n) p = p n && sweep n p

abbrev pub holds : Row → Bool
holds (issued s numbers) = eqb (kind s) 1 && equal (order_numbers (order_in s)) numbers
holds (sent s cmd random) = eqb (kind s) 2 && (equal (command_in s) cmd && equal (random_in s) random)
holds (reset s) = eqb (kind s) 4
holds (other s) = eqb (kind s) 0
holds (turns number ts) = turns_hold number no_card (filler 4096) ts
holds (unanswered s size room) =
    let w = answer no_card (filler size) s 1 (filler room) in
    equal (marks w.answer.bench) (replicate 8 0) && (eqb w.answer.n 0 && (equal w.area (filler size) && equal w.out (filler room)))
holds (swept n p) = sweep n p

abbrev pub all_hold : List Row → Bool
all_hold [] = true
all_hold (r ∷ rs) = holds r && all_hold rs
