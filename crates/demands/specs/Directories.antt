-- Demand 3, directories (R-7): each is what its CREATE FILE gave, for good; which one is current follows from the list alone; and a command reaches no file
-- of another one.
use Rattle.std.specs.Prelude.{ℕ, ◌≤◌, true, false, cond, List, [], ◌∷◌, ◌++◌, ◌⊎◌, ◌≡◌, eqb, length}
use Rattle.rules.specs.declared.Card.{Card}
use Rattle.rules.specs.Frame.{framed}
use Rattle.rules.specs.Step.{step}
use Rattle.rules.specs.Calls.{Order, command}
use Rattle.demands.specs.Ledger.{Event, sent, resets, fid_of, label_in, fid_of_tag, tag_in, Tree, has_name, fid_asked, Ledger, select_sw, servable, next, ledger}
use Rattle.demands.specs.Run.{called, Served, after}
use Rattle.demands.specs.Files.{WritesTo, ReadsFrom, Stays, AlikeBut, SameBut}
use Rattle.demands.specs.Framing.{Sent}
use Rattle.demands.specs.Held.{IsFile, IsFolder, tag_no}

-- over any list of calls after a served issue the card has as many directories as the ledger, each is what the CREATE FILE gave that made it, and the
-- current one is the ledger's
pub record Placed (c : Card) (t : Tree) : Type 0 where
  pub number_is : c.directory.number ≡ length t.tags
  pub tag_is : (n : ℕ) → IsFolder c n → tag_no c n ≡ tag_in t.tags n
  pub current-is : c.session.folder ≡ t.current

abbrev pub DirectoriesFollow : Type 0
DirectoriesFollow = (o : Order) (area : List ℕ) (es : List Event) → Served o area → Placed (after o area es).card (ledger o es).tree

-- and a SELECT has the status word that the ledger says
abbrev pub SelectFollows : Type 0
SelectFollows =
    (o : Order) (area : List ℕ) (es : List Event) → Served o area → (cmd random : List ℕ) → Sent 0x00 0xA4 cmd
    → (step (after o area es).card (after o area es).area cmd random).sw ≡ select_sw (ledger o es) (framed cmd)

-- whatever calls follow, a directory stays in its place and keeps its FID and its creation right
pub record FolderRemains (c x : Card) (n : ℕ) : Type 0 where
  pub there : IsFolder x n
  pub tag_is : tag_no x n ≡ tag_no c n

abbrev pub DirectoriesRemain : Type 0
DirectoriesRemain =
    (o : Order) (area : List ℕ) (es more : List Event) → Served o area → (n : ℕ) → IsFolder (after o area es).card n
    → FolderRemains (after o area es).card (after o area (es ++ more)).card n

-- the FID of a directory, 3F00 of the root
abbrev pub directory_fid : Tree → ℕ → ℕ
directory_fid t n = cond (eqb n 0) 0x3F00 (fid_of_tag (tag_in t.tags n))

-- a served SELECT that ends 9000 by the FID of the directory, which no file of the current one has
pub record SelectLeads (l : Ledger) (cmd random reply : List ℕ) (n : ℕ) : Type 0 where
  pub is-served : servable random reply ≡ true
  pub by-select : Sent 0x00 0xA4 cmd
  pub ends : select_sw l (framed cmd) ≡ 0x9000
  pub named : fid_asked (framed cmd) ≡ directory_fid l.tree n
  pub no-file : has_name fid_of l.tree.current (fid_asked (framed cmd)) l.tree.labels ≡ false

-- a reset returns to the root
abbrev pub Leads : Ledger → Event → ℕ → Type 0
Leads l (sent cmd random reply) n = SelectLeads l cmd random reply n
Leads l resets n = n ≡ 0

-- each call leaves the ledger's current directory, or leads to the one that is current afterwards
abbrev pub CurrentMoves : Type 0
CurrentMoves = (l : Ledger) (e : Event) → ((next l e).tree.current ≡ l.tree.current) ⊎ Leads l e (next l e).tree.current

-- and over any list of calls after a served issue, what leads to a directory that is there does make it current
abbrev pub LeadsThere : Type 0
LeadsThere =
    (o : Order) (area : List ℕ) (es : List Event) → Served o area → (e : Event) (n : ℕ) → n ≤ length (ledger o es).tree.tags
    → Leads (ledger o es) e n → (next (ledger o es) e).tree.current ≡ n

-- over any list of calls after a served issue, the file that a read, update or append addresses lies in the ledger's current directory
abbrev pub Addressed : Card → List ℕ → ℕ → Type 0
Addressed c cmd n = ReadsFrom c (framed cmd) n ⊎ WritesTo c (framed cmd) n

abbrev pub AddressedWithin : Type 0
AddressedWithin =
    (o : Order) (area : List ℕ) (es : List Event) → Served o area → (cmd : List ℕ) (n : ℕ) → Addressed (after o area es).card cmd n
    → (label_in (ledger o es).tree.labels n).within ≡ (ledger o es).tree.current

-- so a file of another directory: the next call leaves all of it as it was, and a command gives the same answer and reply whatever its bytes are
pub record OutOfReach (o : Order) (area : List ℕ) (es : List Event) (n : ℕ) : Type 0 where
  pub stays : (e : Event) → Stays (after o area es) (called (after o area es) e) n
  pub hidden : (cmd random reply other : List ℕ) → AlikeBut (after o area es).card n (after o area es).area other
      → SameBut n (command (after o area es).card (after o area es).area cmd random reply)
      (command (after o area es).card other cmd random reply)

abbrev pub OthersOutOfReach : Type 0
OthersOutOfReach =
    (o : Order) (area : List ℕ) (es : List Event) → Served o area → (n : ℕ) → IsFile (after o area es).card n
    → ((label_in (ledger o es).tree.labels n).within ≡ (ledger o es).tree.current → ⊥)
    → OutOfReach o area es n

-- no call of a list leads to a directory
abbrev pub NoneLeads : Ledger → List Event → ℕ → Type 0
NoneLeads l [] n = Unit
NoneLeads l (e ∷ more) n = (Leads l e n → ⊥) × NoneLeads (next l e) more n

-- one firm's commands reach the other firm's files only behind a SELECT that leads there: after calls of which none leads to a file's directory, from
-- outside of it, all of the file is as it was, and it is still out of reach
pub record StillOutOfReach (o : Order) (area : List ℕ) (es more : List Event) (n : ℕ) : Type 0 where
  pub stays : Stays (after o area es) (after o area (es ++ more)) n
  pub out-of-reach : OutOfReach o area (es ++ more) n

abbrev pub OnlyBehindSelect : Type 0
OnlyBehindSelect =
    (o : Order) (area : List ℕ) (es more : List Event) → Served o area → (n : ℕ) → IsFile (after o area es).card n
    → ((label_in (ledger o es).tree.labels n).within ≡ (ledger o es).tree.current → ⊥)
    → NoneLeads (ledger o es) more (label_in (ledger o es).tree.labels n).within
    → StillOutOfReach o area es more n
