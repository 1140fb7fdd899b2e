-- Calls on a card that stays where it lies: what they return, and what they leave there.
use Rattle.std.specs.Prelude.{ℕ, ◌%◌, cond, List, ◌≡◌}
use Rattle.std.specs.Mem.{type_size}
use Rattle.rules.specs.declared.Card.{Card}
use Rattle.rules.specs.declared.Answer.{Answer}
use Rattle.rules.specs.Calls.{Done, Issued}
use Rattle.rules.specs.contracts.Card.{the_row}
use Rattle.stores.specs.declared.Handed.{Handed}
use Rattle.stores.specs.Handing.{store}
use Rattle.stores.specs.Runs.{Run}
use Rattle.texts.specs.Calls.{Wrote, Got}
use Rattle.limpetnook.specs.declared.Slip.{Slip}

-- the answer's outcome is returned, and its card stands where the card was lent
pub record Placed (a : Answer) (r : ℕ) (card' : Card) : Type 0 where
  pub outcome-is : r ≡ a.outcome
  pub card-is : card' ≡ a.card

-- the same of an issue, with the area that it leaves
pub record PlacesIssue (i : Issued) (r : ℕ) (card' : Card) (area' : List ℕ) : Type 0 where
  pub placed : Placed i.answer r card'
  pub area-is : area' ≡ i.area

-- the same of a command, with the area and the reply that it leaves, and how many bytes of the reply are the answer
pub record PlacesCommand (d : Done) (r : ℕ) (card' : Card) (area' reply' : List ℕ) (count' : ℕ) : Type 0 where
  pub placed : Placed d.answer r card'
  pub area-is : area' ≡ d.area
  pub reply-is : reply' ≡ d.reply
  pub count-is : count' ≡ d.answer.n

-- the writer returns its outcome and leaves the card as it was; the text buffer, and how many bytes of it are the text
pub record PlacesText (card : Card) (w : Wrote) (r : ℕ) (card' : Card) (text' : List ℕ) (count' : ℕ) : Type 0 where
  pub outcome-is : r ≡ w.answer.outcome
  pub card-is : card' ≡ card
  pub text-is : text' ≡ w.out
  pub count-is : count' ≡ w.answer.n

-- a converter's outcome, the text buffer that it leaves, and how many bytes of it are the text
pub record PlacesConverted (w : Wrote) (r : ℕ) (text' : List ℕ) (count' : ℕ) : Type 0 where
  pub outcome-is : r ≡ w.answer.outcome
  pub text-is : text' ≡ w.out
  pub count-is : count' ≡ w.answer.n

-- the reader's outcome and card, with the area that it leaves
pub record PlacesCard (g : Got) (r : ℕ) (card' : Card) (area' : List ℕ) : Type 0 where
  pub placed : Placed g.answer r card'
  pub area-is : area' ≡ g.area

-- a store as C is given it; 16 bits hold every address (`AddressesFit` of `cuts`)
abbrev pub slip_from : Handed → Slip
slip_from h = record { outcome = h.outcome; address = h.store.at % 65536; value = h.store.byte; given = cond h.store.there 1 0 }

unfoldable pub slip_of : Card → List ℕ → List ℕ → List ℕ → ℕ → Slip
slip_of c area cmd random n = slip_from (store c area cmd random n)

-- the store that is handed over, and the card as it was
pub record PlacesStore (card : Card) (s : Slip) (r : ℕ) (card' : Card) (address' value' given' : ℕ) : Type 0 where
  pub outcome-is : r ≡ s.outcome
  pub card-is : card' ≡ card
  pub address_is : address' ≡ s.address
  pub value-is : value' ≡ s.value
  pub given_is : given' ≡ s.given

-- a run of stores that is handed over, and the card as it was
pub record PlacesRun (card : Card) (w : Run) (r : ℕ) (card' : Card) (out' : List ℕ) (count' : ℕ) : Type 0 where
  pub outcome-is : r ≡ w.counted.outcome
  pub card-is : card' ≡ card
  pub out-is : out' ≡ w.out
  pub count-is : count' ≡ w.counted.n

-- the bytes that a card takes, as C lays a struct out
abbrev pub card_size : ℕ
card_size = type_size the_row

-- the number that tells versions of the card apart: 1 for document 01, and one more for each landing since that changed the card, the cipher or the calls
abbrev pub version : ℕ
version = 12
