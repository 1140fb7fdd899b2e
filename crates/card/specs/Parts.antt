-- What contracts of functions that take parts of a card say of these parts: of a card that has them it is what the rules say, by computation.
use Rattle.std.specs.Prelude.{ℕ, Bool, List, []}
use Rattle.codes.specs.Code.{mac, code}
use Rattle.files.specs.declared.Directory.{Directory}
use Rattle.rules.specs.declared.Card.{Card}
use Rattle.rules.specs.declared.Session.{Session}
use Rattle.rules.specs.Words.{same, filled}
use Rattle.rules.specs.State.{challenge_in, no_journal, response_of}

-- what is given is the code of what it covers, under a key's sixteen bytes
abbrev pub code_under : List ℕ → Session → List ℕ → List ℕ → Bool
code_under key s covered given = same (code (mac key (filled (challenge_in s)) covered)) given

-- a card of which only the session and the directory are looked at
abbrev pub seen : Session → Directory → Card
seen s d = record { credentials = []; directory = d; session = s; response = response_of 0 []; journal = no_journal }
