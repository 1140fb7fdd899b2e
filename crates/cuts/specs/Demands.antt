-- Demand 3 of a card that is cut: the statements of `demands`, over any list of calls and cuts.
use Rattle.std.specs.Prelude.{ℕ, ◌+◌, ◌*◌, ◌≤◌, ◌<◌, true, cond, List, [], ◌++◌, ◌⊎◌, ◌≡◌}
use Rattle.rules.specs.State.{Which, admin, user, number_of, login, challenge, mode, waiting}
use Rattle.rules.specs.Calls.{Order, command}
use Rattle.rules.specs.declared.Card.{Card}
use Rattle.demands.specs.Ledger.{sent, resets, Kind, other, right, reloaded, ended, value_set, is_held, total, is_right, is_wrong, is_reload, Ledger, page, kind_in, servable, label_in}
use Rattle.demands.specs.Run.{World, Served}
use Rattle.demands.specs.Credentials.{Agrees, limit_of}
use Rattle.demands.specs.Held.{IsFile, IsFolder, left_no}
use Rattle.demands.specs.Files.{Labelled, Remains, WrittenByRight, Writes, ReadByRight, Stays, AlikeBut, SameBut, Made, MadeFolder, NoneMade, Makes}
use Rattle.demands.specs.Directories.{Placed, FolderRemains, Addressed}
use Rattle.demands.specs.Response.{PutBy}
use Rattle.cuts.specs.Ledger.{Happening, call, cut, cut_kind, ledger}
use Rattle.cuts.specs.Run.{happened, after}

-- ---- credentials
-- tries left and wrong presentations since make up the limit; value and right are the ledger's
abbrev pub CredentialsFollow : Type 0
CredentialsFollow =
    (o : Order) (area : List ℕ) (xs : List Happening) → Served o area → (w : Which)
    → Agrees w (login w (after o area xs).card) (page w (ledger o xs))

abbrev pub ChallengeFollows : Type 0
ChallengeFollows =
    (o : Order) (area : List ℕ) (xs : List Happening) → Served o area → challenge (after o area xs).card ≡ (ledger o xs).challenge

abbrev pub ModeStays : Type 0
ModeStays = (o : Order) (area : List ℕ) (xs : List Happening) → Served o area → mode (after o area xs).card ≡ o.mode

abbrev pub NothingWaits : Type 0
NothingWaits = (o : Order) (area : List ℕ) (xs : List Happening) → Served o area → o.mode ≡ 0 → waiting (after o area xs).card ≡ []

-- wrong presentations are at most limit times one more than right presentations and reloads together
abbrev pub FewGuesses : Type 0
FewGuesses =
    (o : Order) (xs : List Happening) (w : Which)
    → total is_wrong (page w (ledger o xs)).history
    ≤ limit_of w o * (total is_right (page w (ledger o xs)).history + total is_reload (page w (ledger o xs)).history + 1)

abbrev pub OnlyUserReloads : Type 0
OnlyUserReloads = (o : Order) (xs : List Happening) (w : Which) → (w ≡ user → ⊥) → total is_reload (page w (ledger o xs)).history ≡ 0

-- no cut changes a key
abbrev pub KeysStay : Type 0
KeysStay =
    (o : Order) (xs : List Happening) (w : Which) → (w ≡ admin → ⊥) → (w ≡ user → ⊥)
    → value_set (page w (ledger o xs)).issued (page w (ledger o xs)).history ≡ (o.given w).value

-- ---- whoever cuts the supply gains no guess
-- what a call or a cut is to a credential
abbrev pub kind_at : Ledger → Happening → Which → Kind
kind_at l (call (sent cmd random reply)) w = cond (servable random reply) (kind_in l cmd w) other
kind_at l (call resets) w = ended
kind_at l (cut cmd random reply n s r) w = cond (servable random reply) (cut_kind n (kind_in l cmd w)) other

-- a reload's tries are stored, and the admin right was held
pub record ReloadedByAdmin (l : Ledger) (x : Happening) (w : Which) : Type 0 where
  pub value : List ℕ
  pub is-reload : kind_at l x w ≡ reloaded value
  pub admin-held : is_held (page admin l).history ≡ true

-- the tries left of a credential never rise but by a presentation that agrees, with its restoring stored, or by such a reload
abbrev pub NoGuessGained : Type 0
NoGuessGained =
    (o : Order) (area : List ℕ) (xs : List Happening) → Served o area → (x : Happening) (w : Which)
    → left_no (after o area xs).card (number_of w) < left_no (happened (after o area xs) x).card (number_of w)
    → (kind_at (ledger o xs) x w ≡ right) ⊎ ReloadedByAdmin (ledger o xs) x w

-- ---- files and directories
-- the card has as many files as the ledger, and each is what the CREATE FILE gave that made it; directories likewise, and the current one is the ledger's
abbrev pub FilesFollow : Type 0
FilesFollow = (o : Order) (area : List ℕ) (xs : List Happening) → Served o area → Labelled (after o area xs).card (ledger o xs)

abbrev pub DirectoriesFollow : Type 0
DirectoriesFollow = (o : Order) (area : List ℕ) (xs : List Happening) → Served o area → Placed (after o area xs).card (ledger o xs).tree

-- whatever follows, a file stays in its place and keeps its label, and so does a directory
abbrev pub FilesRemain : Type 0
FilesRemain =
    (o : Order) (area : List ℕ) (xs more : List Happening) → Served o area → (n : ℕ) → IsFile (after o area xs).card n
    → Remains (after o area xs).card (after o area (xs ++ more)).card n

abbrev pub DirectoriesRemain : Type 0
DirectoriesRemain =
    (o : Order) (area : List ℕ) (xs more : List Happening) → Served o area → (n : ℕ) → IsFolder (after o area xs).card n
    → FolderRemains (after o area xs).card (after o area (xs ++ more)).card n

-- what writes a file: a command, whole or cut, that addresses it by right, with a right code where it asks for one
abbrev pub WritesIt : Card → Ledger → Happening → ℕ → Type 0
WritesIt c l (call e) n = Writes c l e n
WritesIt c l (cut cmd random reply m s r) n = WrittenByRight c l cmd n

abbrev pub Altered : Type 0
Altered =
    (o : Order) (area : List ℕ) (xs : List Happening) → Served o area → (x : Happening) (n : ℕ) → IsFile (after o area xs).card n
    → Stays (after o area xs) (happened (after o area xs) x) n ⊎ WritesIt (after o area xs).card (ledger o xs) x n

-- there are as many files and directories as before, or one more, whole
abbrev pub MakesIt : Ledger → World → World → Happening → Type 0
MakesIt l w v (call e) = Makes l w v e
MakesIt l w v (cut cmd random reply n s r) = Made l w v cmd ⊎ MadeFolder l w v cmd

abbrev pub FilesCreated : Type 0
FilesCreated =
    (o : Order) (area : List ℕ) (xs : List Happening) → Served o area → (x : Happening)
    → NoneMade (after o area xs) (happened (after o area xs) x) ⊎ MakesIt (ledger o xs) (after o area xs) (happened (after o area xs) x) x

-- a command has the same reply and effect whatever the bytes of a file are, or it reads that file by right; a cut replies nothing
abbrev pub Shown : Type 0
Shown =
    (o : Order) (area : List ℕ) (xs : List Happening) → Served o area → (cmd random reply other : List ℕ) (n : ℕ) → IsFile (after o area xs).card n
    → AlikeBut (after o area xs).card n (after o area xs).area other
    → SameBut n (command (after o area xs).card (after o area xs).area cmd random reply)
    (command (after o area xs).card other cmd random reply)
    ⊎ ReadByRight (after o area xs).card (ledger o xs) cmd n

-- the file that a read, update or append addresses lies in the ledger's current directory, so that neither a command nor a cut reaches another firm's files
abbrev pub AddressedWithin : Type 0
AddressedWithin =
    (o : Order) (area : List ℕ) (xs : List Happening) → Served o area → (cmd : List ℕ) (n : ℕ) → Addressed (after o area xs).card cmd n
    → (label_in (ledger o xs).tree.labels n).within ≡ (ledger o xs).tree.current

abbrev pub OthersStay : Type 0
OthersStay =
    (o : Order) (area : List ℕ) (xs : List Happening) → Served o area → (x : Happening) (n : ℕ) → IsFile (after o area xs).card n
    → ((label_in (ledger o xs).tree.labels n).within ≡ (ledger o xs).tree.current → ⊥) → Stays (after o area xs) (happened (after o area xs) x) n

-- no bytes wait that a read by right, or a GET CHALLENGE, did not put there; after a cut none wait
abbrev pub PutByIt : World → World → Ledger → Happening → Type 0
PutByIt w v l (call e) = PutBy w v l e
PutByIt w v l (cut cmd random reply n s r) = waiting v.card ≡ []

abbrev pub WaitingByRight : Type 0
WaitingByRight =
    (o : Order) (area : List ℕ) (xs : List Happening) → Served o area → (x : Happening)
    → PutByIt (after o area xs) (happened (after o area xs) x) (ledger o xs) x
