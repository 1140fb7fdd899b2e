-- The transport key (R-9), of any sound card and any command: only a code touches its tries, nothing touches its value and its limit, and it opens no right.
use Rattle.std.specs.Prelude.{ℕ, ◌-◌, ◌≤◌, true, List, ◌≡◌, length}
use Rattle.rules.specs.declared.Card.{Card}
use Rattle.rules.specs.Sound.{sound}
use Rattle.rules.specs.Frame.{framed}
use Rattle.rules.specs.Step.{step}
use Rattle.rules.specs.Effect.{Stepped}
use Rattle.demands.specs.Soundness.{Bytes}
use Rattle.demands.specs.Held.{value_no, left_no, limit_no, right_no}
use Rattle.served.specs.Left.{with_key_tries, Refused}
use Rattle.served.specs.Answers.{WithCode, ReadCase, WriteCase, BinaryP, RecordP, CodeAgrees}
use Rattle.served.specs.Calls.{EndsWell}

-- one of the five that read, update and append, with its P, its case and its Lc
pub data InForm (cmd : List ℕ) : Type 0 where
  read-binary : (framed cmd).ins ≡ 0xB0 → BinaryP cmd → ReadCase cmd → InForm cmd
  update-binary : (framed cmd).ins ≡ 0xD6 → BinaryP cmd → WriteCase cmd → InForm cmd
  read-record : (framed cmd).ins ≡ 0xB2 → 1 ≤ (framed cmd).p1 → RecordP 4 cmd → ReadCase cmd → InForm cmd
  update-record : (framed cmd).ins ≡ 0xDC → 1 ≤ (framed cmd).p1 → RecordP 4 cmd → WriteCase cmd → InForm cmd
  append-record : (framed cmd).ins ≡ 0xE2 → (framed cmd).p1 ≡ 0 → RecordP 0 cmd → WriteCase cmd → InForm cmd

-- a code is presented: with a try left, and a challenge
pub record Presents (c : Card) (cmd : List ℕ) : Type 0 where
  pub with_code : WithCode cmd
  pub form : InForm cmd
  pub try-left : 1 ≤ left_no c 3
  pub with-challenge : 1 ≤ c.session.len

-- a right code restores all tries, whatever the command ends with, and where it is refused that is all; a wrong one is 6988 and takes one try, and that is all;
-- no other command touches the tries. Value and limit stay, and there is no right to come or go
pub record KeyAfter (c : Card) (area cmd : List ℕ) (s : Stepped) : Type 0 where
  pub right : Presents c cmd → CodeAgrees c cmd → left_no s.card 3 ≡ limit_no c 3
  pub right-refused : Presents c cmd → CodeAgrees c cmd → (EndsWell s → ⊥) → Refused (with_key_tries c (limit_no c 3)) area s.sw s
  pub wrong : Presents c cmd → (CodeAgrees c cmd → ⊥) → Refused (with_key_tries c (left_no c 3 - 1)) area 0x6988 s
  pub other : (Presents c cmd → ⊥) → left_no s.card 3 ≡ left_no c 3
  pub value-is : value_no s.card 3 ≡ value_no c 3
  pub limit_is : limit_no s.card 3 ≡ limit_no c 3
  pub no-right : right_no s.card 3 ≡ 0
  pub rights-are : WithCode cmd → s.card.session.rights ≡ c.session.rights

abbrev pub KeyByCodes : Type 0
KeyByCodes =
    (c : Card) (area cmd random : List ℕ) → sound c area ≡ true → length area ≡ 4096 → length random ≡ 16 → Bytes cmd
    → KeyAfter c area cmd (step c area cmd random)
