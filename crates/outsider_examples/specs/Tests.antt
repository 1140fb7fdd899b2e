-- What the theorems on outsiders and guessers ask along a run, as tests that compute.
use Rattle.std.specs.Prelude.{ℕ, ◌<◌, Bool, true, false, cond, ◌&&◌, ◌||◌, not, List, [], ◌∷◌, ◌≡◌, eqb, leb}
use Rattle.files.specs.declared.File.{File}
use Rattle.files.specs.Words.{all_below}
use Rattle.files.specs.Types.{is_variable}
use Rattle.files.specs.Listed.{SameLengths}
use Rattle.files.specs.Record.{length_byte, records_held}
use Rattle.files.specs.Walk.{length_at}
use Rattle.rules.specs.declared.Card.{Card}
use Rattle.rules.specs.Words.{first, same}
use Rattle.rules.specs.State.{Which, transport, number_of, logins, challenge}
use Rattle.rules.specs.Frame.{Command, framed, coded}
use Rattle.rules.specs.Effect.{Touch, nothing, presents, changes, reloads, challenges}
use Rattle.rules.specs.Binary.{binary_target}
use Rattle.rules.specs.Target.{file_of, opens}
use Rattle.rules.specs.Record.{record_target}
use Rattle.rules.specs.Pins.{tries_sw}
use Rattle.rules.specs.Device.{challenge_sw}
use Rattle.rules.specs.Code.{agrees}
use Rattle.rules.specs.List.{listed, Rule, of_files, of_contents, of_credentials, rule}
use Rattle.demands.specs.Ledger.{Event, sent, resets, passes}
use Rattle.demands.specs.Run.{World, SoundWorld, called}
use Rattle.demands.specs.Outsider.{Before, Unsatisfied, NoneRight}

-- ---- a file
-- the file that a READ names, 0 for none
abbrev pub read_from : Card → Command → ℕ
read_from c k = cond (eqb k.ins 0xB0) (binary_target c k) (cond (eqb k.ins 0xB2) (record_target c k) 0)

-- it is none past file m, or its read right is not satisfied
abbrev pub closed : ℕ → World → Event → Bool
closed m w (sent cmd random reply) =
    let n = read_from w.card (framed cmd) in leb n m || not (opens w.card (file_of w.card n).read)
closed m w resets = true

unfoldable pub closed_all : ℕ → World → List Event → Bool
closed_all m w [] = true
closed_all m w (e ∷ es) = closed m w e && closed_all m (called w e) es

-- where that holds along a run no file past m is read by right
abbrev pub ClosedBefore : Type 0
ClosedBefore = (m n : ℕ) (w v : World) (es : List Event) → SoundWorld w → m < n → closed_all m w es ≡ true → Before (Unsatisfied n) w v es

-- two extents of a file have the same length bytes
abbrev pub lengths_same : File → List ℕ → List ℕ → Bool
lengths_same f x y = not (is_variable f) || all_below (λ k. eqb (length_at y (length_byte f x k)) (length_at x (length_byte f x k))) (records_held f x)

abbrev pub LengthsTold : Type 0
LengthsTold = (f : File) (x y : List ℕ) → lengths_same f x y ≡ true → SameLengths f x y

-- ---- a credential
-- a right presentation of it, by the rules' own comparison
abbrev pub right_by : Touch → Which → Bool
right_by nothing w = false
right_by (presents v value given) w = eqb (number_of v) (number_of w) && same value given
right_by (changes v d) w = false
right_by (reloads v d) w = false
right_by (challenges n) w = false

abbrev pub right_under : Rule → Card → Command → Which → Bool
right_under (of_files t d) c k w = false
right_under (of_contents f t d) c k w =
    eqb (number_of transport) (number_of w)
    && ((coded k && passes (first (f k) ∷ tries_sw (logins c transport) ∷ challenge_sw (challenge c) ∷ []) k) && agrees (logins c) (challenge c) k)
right_under (of_credentials t d) c k w = passes (t (logins c) (challenge c) k) k && right_by (d (logins c) (challenge c) k) w

abbrev pub right_on : Card → List ℕ → Which → Bool
right_on c cmd w = right_under (rule (listed (framed cmd))) c (framed cmd) w

abbrev pub wrong_on : Which → World → World → Event → Bool
wrong_on which w v (sent cmd random reply) = not (right_on w.card cmd which) && not (right_on v.card cmd which)
wrong_on which w v resets = true

unfoldable pub wrong_all : Which → World → World → List Event → Bool
wrong_all which w v [] = true
wrong_all which w v (e ∷ es) = wrong_on which w v e && wrong_all which (called w e) (called v e) es

-- where that holds along a run no presentation of the credential is right
abbrev pub WrongBefore : Type 0
WrongBefore = (which : Which) (w v : World) (es : List Event) → wrong_all which w v es ≡ true → Before (NoneRight which) w v es
