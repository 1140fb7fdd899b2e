-- The main board's side of a code (R-9): the call that works one out.
use Rattle.std.specs.Prelude.{ℕ, Bool, true, cond, List, [], ◌∷◌, ◌≡◌, eqb, length}
use Rattle.codes.specs.Code.{mac, code}
use Rattle.files.specs.Words.{every}
use Rattle.rules.specs.Words.{filled}
use Rattle.rules.specs.State.{Logins, transport}
use Rattle.rules.specs.Sound.{good_challenge}
use Rattle.rules.specs.Frame.{Command}
use Rattle.rules.specs.Code.{agrees}

-- a key of 16 bytes, a challenge of 4, 8 or 16, a code of 4; a message may have any length
abbrev pub good_lengths : ℕ → ℕ → ℕ → Bool
good_lengths key challenge code = every (eqb key 16 ∷ good_challenge challenge ∷ eqb code 4 ∷ [])

abbrev pub served : List ℕ → List ℕ → List ℕ → Bool
served key challenge out = good_lengths (length key) (length challenge) (length out)

unfoldable pub outcome : List ℕ → List ℕ → List ℕ → ℕ
outcome key challenge out = cond (served key challenge out) 0 6

-- the code of the message under the key, from the challenge filled with 00; else as it was
unfoldable pub output : List ℕ → List ℕ → List ℕ → List ℕ → List ℕ
output key challenge message out = cond (served key challenge out) (code (mac key (filled challenge) message)) out

-- the whole call: its answer r, and what it leaves in the buffer of the code
pub record Coded (key challenge message out : List ℕ) (r : ℕ) (left : List ℕ) : Type 0 where
  pub answered : r ≡ outcome key challenge out
  pub written : left ≡ output key challenge message out

-- and the card's check takes it: a command whose code is the call's, under the card's transport key, from its challenge, over what the code covers
abbrev pub CardTakes : Type 0
CardTakes =
    (l : Logins) (challenge : List ℕ) (k : Command) (out : List ℕ) → served (l transport).value challenge out ≡ true
    → k.code ≡ output (l transport).value challenge k.covered out → agrees l challenge k ≡ true
