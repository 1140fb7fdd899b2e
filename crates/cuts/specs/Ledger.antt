-- Demand 3 over any list that includes cuts: the ledger, told by the issue's arguments and the list alone.
use Rattle.std.specs.Prelude.{ℕ, ◌+◌, cond, List, [], ◌∷◌, leb}
use Rattle.files.specs.Words.{is_zero}
use Rattle.rules.specs.declared.Session.{Session}
use Rattle.rules.specs.declared.Response.{Response}
use Rattle.rules.specs.Frame.{Command, framed}
use Rattle.rules.specs.List.{listed}
use Rattle.demands.specs.Role.{role}
use Rattle.rules.specs.Calls.{Order}
use Rattle.demands.specs.Ledger.{Event, resets, Kind, other, right, wrong, changed, reloaded, ended, Tree, label_given, size_of, asks_folder, turned_to, grown, Ledger, tells, booked, kind_in, servable, next, opened}

-- a call, or a command that is cut after so many of its stores. A cut ends with a recovery and a reset; session and waiting bytes are lost, and are any until
-- then
pub data Happening : Type 0 where
  call : Event → Happening
  cut : List ℕ → List ℕ → List ℕ → ℕ → Session → Response → Happening

-- which store makes a new PIN whole: the one after the 17 bytes of the journal; and how many stores a change has
abbrev pub journal_bytes : ℕ
journal_bytes = 17

abbrev pub change_stores : ℕ
change_stores = 53

-- what a command that is cut is to a credential, by what it is whole. A presentation whose lowering was not stored is none; one whose lowering was stored
-- counts as wrong unless its comparison agrees and its restoring was stored too, and then as right; a reload counts once its tries are stored, and a new PIN's
-- value is set once it is whole
unfoldable pub cut_kind : ℕ → Kind → Kind
cut_kind n other = other
cut_kind n right = cond (is_zero n) other (cond (leb 2 n) right wrong)
cut_kind n wrong = cond (is_zero n) other wrong
cut_kind n (changed d) = cond (leb n journal_bytes) other (changed d)
cut_kind n (reloaded d) = cond (leb n journal_bytes) other (cond (leb n change_stores) (changed d) (reloaded d))
cut_kind n ended = ended

-- a file is there once its last store is: its bytes, twelve of its entry, and the number of files; a directory after three bytes and the number of directories
abbrev pub make_stores : ℕ → Command → ℕ
make_stores current k = let x = label_given current k in cond (asks_folder x) 4 (size_of x + 13)

-- and a cut returns to the root
unfoldable pub cut_tree : ℕ → Command → Tree → Tree → Tree
cut_tree n k new old = turned_to (cond (leb (make_stores old.current k) n) new old) 0

-- every cut ends the session
abbrev pub cut_entered : Ledger → List ℕ → ℕ → Ledger
cut_entered l cmd n = let k = framed cmd in record {
  pages = λ w. booked ended (booked (cut_kind n (kind_in l cmd w)) (l.pages w));
  challenge = [];
  tree = cut_tree n k (grown (role (listed k)) (tells l) l.tree k) l.tree;
  mode = l.mode;
}

-- a call that would not be served stores nothing
abbrev pub entered : Ledger → Happening → Ledger
entered l (call e) = next l e
entered l (cut cmd random reply n s r) = cond (servable random reply) (cut_entered l cmd n) (next l resets)

unfoldable pub tell : Ledger → List Happening → Ledger
tell l [] = l
tell l (x ∷ xs) = tell (entered l x) xs

unfoldable pub ledger : Order → List Happening → Ledger
ledger o xs =
    tell (record { pages = λ w. opened (o.given w); challenge = []; tree = record { labels = []; tags = []; current = 0 }; mode = o.mode }) xs
