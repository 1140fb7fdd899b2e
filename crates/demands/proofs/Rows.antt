-- What each command's rule is against its role, a clause for each command. All other proofs go by the rule: what a command does to the files, or to the
-- credentials.
use Prim.Native.Nat.{ℕ, ◌+◌, ◌≤◌}
use mathlib.Core.Bool.{Bool, true, false, cond, not, ◌&&◌, ◌||◌}
use mathlib.Core.List.{List, [], ◌∷◌}
use mathlib.Core.Path.{◌≡◌, refl, sym, ap, ap₂, ◌∙◌}
use native.Mathlib.Omega.{arith}
use lib.ListN.{length, take}
use lib.Dec.{eqb, leb}
use borrow.Author.Tests.{eqb-true, eq-eqb, not-true}
use Rattle.files.specs.declared.File.{File}
use Rattle.files.specs.declared.Folder.{Folder}
use Rattle.files.specs.declared.Located.{Located}
use Rattle.files.specs.Words.{is_zero}
use Rattle.files.specs.Types.{binary, is_variable, size}
use Rattle.files.specs.Rights.{asks_code}
use Rattle.files.specs.Directory.{extent}
use Rattle.files.specs.Record.{next_start, entry, appended, appends_record}
use Rattle.files.specs.Create.{area_size, creates}
use Rattle.files.specs.Create as directory
use Rattle.files.proofs.Checks.{clash, both, split}
use Rattle.files.proofs.Parting.{Stored, stored-plain}
use Rattle.files.proofs.Served.{binary-fits}
use Rattle.files.proofs.Kept.{filed}
use Rattle.rules.specs.declared.Credential.{Credential}
use Rattle.rules.specs.declared.Card.{Card}
use Rattle.rules.specs.declared.Ins.{Ins}
use Rattle.rules.specs.declared.Ins.TheVariants.{Select, ReadBinary, UpdateBinary, ReadRecord, UpdateRecord, AppendRecord, Verify, Authenticate, ChangePin, ReloadPin, CreateFile, GetChallenge, GetResponse, Unlisted}
use Rattle.rules.specs.Words.{unless, first, all_of}
use Rattle.rules.specs.State.{Which, admin, user, device, transport, number_of, Login, Logins, logins, challenge, with_credentials}
use Rattle.rules.specs.Sound.{digit, is_key, good_pin, good_challenge, sound}
use Rattle.rules.specs.Frame.{Command, lc, coded, framed, frame_sw, class_sw}
use Rattle.rules.specs.Effect.{Deed, turns, enters, shows, stores, appends, makes, founds, Touch, nothing, presents, changes, reloads, challenges, Effect, answers}
use Rattle.rules.specs.Select.{selected, select_checks, select_deed}
use Rattle.rules.specs.Binary.{offset, binary_target, read_count, read_binary_checks, update_binary_checks}
use Rattle.rules.specs.Target.{target, file_of, file_sw, opens, right_sw, code_asked_sw}
use Rattle.rules.specs.Record.{record_target, record_found, read_record_checks, update_record_checks, append_checks}
use Rattle.rules.specs.Pins.{pin_named, pin_given, tries_sw, digits_sw, verify_checks, change_checks, reload_checks}
use Rattle.rules.specs.Device.{challenge_sw, authenticate_checks, get_challenge_checks}
use Rattle.rules.specs.Code.{expected, code_sw, credentials_after}
use Rattle.rules.specs.Create.{is_folder, creation_right, create_checks, create_deed}
use Rattle.rules.specs.List.{Rule, of_files, of_contents, of_credentials, rule}
use Rattle.demands.specs.Role.{selects, makes_file, role}
use Rattle.rules.specs.Step.{checks_of, kept_by, did, touched, effect_by, checks, effect_of, kept, ruled, outcome}
use Rattle.rules.proofs.Checks.{Passed, passed, passing, holds, one_of, ruled-by}
use Rattle.rules.proofs.Good.{Lies, Good, sound-good}
use Rattle.rules.proofs.Coded.{coded-good, code-agreed}
use Rattle.rules.proofs.Targets.{not-zero, read-few, target-low, target-lies, selected-low, selected-lies, entered-low}
use Rattle.rules.proofs.Asked.{some-file, binary-asked, create-asked, found-asked, found-in-root, pin-asked, challenge-asked}
use Rattle.rules.proofs.Found.{read_fits, read-long, update-fits, update-any, update-stored, append-fits, append-stored}
use Rattle.rules.proofs.Found as found
use Rattle.rules.proofs.Equal.{same-equal, cryptogram-is}
use Rattle.demands.specs.Ledger.{Kind, other, right as rightly, changed, reloaded, Tree, pin_sent, in_digits, present_asks, key_asks, change_asks, reload_asks, challenge_asks, cryptogram_of, passes, presented, about, kind, challenged, label_given, tag_given, grown, pin_of, binary_p, record_p, append_p}
use Rattle.demands.specs.Held.{label_of, tag_of}
use Rattle.demands.proofs.Trees.{all-passed}
use Rattle.demands.proofs.Presented.{right-is-equal}
use Rattle.demands.proofs.Coding.{code_by, read_same, write_same}
use Rattle.demands.proofs.Labels.{Matches, tree_by, given-label, given-tag, create-same, create-leaves, select-same, select-leads}
use Rattle.demands.proofs.Addressed.{writes_to, reads_from}

-- what comes of a command by its rule
abbrev pub ruled_by : Rule → Card → Located → Command → List ℕ → Effect
ruled_by r c l k random = ruled (first (frame_sw k ∷ class_sw k ∷ first (checks_of r c l k) ∷ [])) (kept_by r c k) (effect_by r c l k random)

-- what a touch is to a credential, and the challenge that it leaves
abbrev pub kind_of : Touch → Which → Kind
kind_of nothing w = other
kind_of (presents v value given) w = about v w (presented value given)
kind_of (changes v d) w = about v w (changed d)
kind_of (reloads v d) w = about v w (reloaded d)
kind_of (challenges n) w = other

abbrev pub left_by : Touch → List ℕ → List ℕ
left_by nothing random = []
left_by (presents v value given) random = []
left_by (changes v d) random = []
left_by (reloads v d) random = []
left_by (challenges n) random = take n random

-- what a command is to a credential by its rule
abbrev pub kind_by : Rule → Logins → List ℕ → Command → Which → Kind
kind_by (of_files t d) l ch k w = other
kind_by (of_contents f t d) l ch k w = about transport w (code_by (f k) l ch k)
kind_by (of_credentials t d) l ch k w = cond (passes (t l ch k) k) (kind_of (d l ch k) w) other

-- what a touch has by the checks: a try left; a PIN, its right held, and a good one given; the user PIN, the admin right held, and a good one given; a
-- challenge of 4, 8 or 16 bytes
abbrev pub FairTouch : Logins → Touch → Type 0
FairTouch l nothing = Unit
FairTouch l (presents w value given) = 1 ≤ (l w).tries.left
FairTouch l (changes w d) = (is_key (number_of w) ≡ false) × ((l w).held ≡ true) × (good_pin d ≡ true)
FairTouch l (reloads w d) = (w ≡ user) × ((l admin).held ≡ true) × (good_pin d ≡ true)
FairTouch l (challenges n) = good_challenge n ≡ true

-- a file that is there, is the one that the command addresses, lies in the current directory, and whose right is held; where it asks for a code, x, what the
-- command is to the transport key, is a right presentation
pub record Entitled (x : Kind) (c : Card) (named place right : ℕ) : Type 0 where
  pub named-is : named ≡ place
  pub some : 1 ≤ place
  pub low : place ≤ c.directory.count
  pub lies : Lies c.directory place c.session.folder
  pub held : opens c right ≡ true
  pub by_code : asks_code right ≡ true → x ≡ rightly

pub record FairShow (x : Kind) (c : Card) (k : Command) (named place at n : ℕ) : Type 0 where
  pub entitled : Entitled x c named place (file_of c place).read
  pub fits : at + n ≤ size (file_of c place)
  pub few : k.le ≤ 256 → n ≤ 256

-- bytes that leave the file parted, which is then f
pub record FairStore (x : Kind) (c : Card) (area : List ℕ) (named place at : ℕ) (f : File) (bytes : List ℕ) : Type 0 where
  pub entitled : Entitled x c named place (file_of c place).write
  pub fits : at + length bytes ≤ size (file_of c place)
  pub stored : Stored (file_of c place) f (extent c.directory place area) at bytes

-- an update leaves it parted whatever bytes it stores, as many
pub record FairUpdate (x : Kind) (c : Card) (area : List ℕ) (named place at : ℕ) (bytes : List ℕ) : Type 0 where
  pub fair : FairStore x c area named place at (file_of c place) bytes
  pub any : (other : List ℕ) → length other ≡ length bytes
      → Stored (file_of c place) (file_of c place) (extent c.directory place area) at other

pub record FairAppend (x : Kind) (c : Card) (area : List ℕ) (named place : ℕ) (d : List ℕ) : Type 0 where
  pub fair :
      FairStore x c area named place (next_start (file_of c place)) (appended (file_of c place) (length d)) (entry (file_of c place) d)
  pub served : appends_record (file_of c place) (length d) ≡ true

-- a file that becomes current: it is there, and in the current directory
pub record FairTurn (c : Card) (place : ℕ) : Type 0 where
  pub low : place ≤ c.directory.count
  pub lies : Lies c.directory place c.session.folder

pub record FairMake (i : Ins) (c : Card) (k : Command) (f : File) : Type 0 where
  pub by-create : i ≡ CreateFile
  pub no-folder : is_folder k ≡ false
  pub held : opens c (creation_right c) ≡ true
  pub given : label_of f ≡ label_given c.session.folder k
  pub served : creates c.directory f area_size ≡ true

pub record FairFound (i : Ins) (c : Card) (k : Command) (x : Folder) : Type 0 where
  pub by-create : i ≡ CreateFile
  pub is-folder : is_folder k ≡ true
  pub in-root : c.session.folder ≡ 0
  pub held : opens c (creation_right c) ≡ true
  pub given : tag_of x ≡ tag_given k
  pub served : directory.founds c.directory x ≡ true

-- what a command is to the transport key
abbrev pub code_in : Ins → Card → Command → Kind
code_in i c k = kind_by (rule i) (logins c) (challenge c) k transport

-- what a deed has by the checks, on a sound card
abbrev pub Fair : Ins → Card → List ℕ → Command → Deed → Type 0
Fair i c area k (turns place) = FairTurn c place
Fair i c area k (enters n) = n ≤ c.directory.number
Fair i c area k (shows place at n) = FairShow (code_in i c k) c k (reads_from (role i) c k) place at n
Fair i c area k (stores place at d) = FairUpdate (code_in i c k) c area (writes_to (role i) c k) place at d
Fair i c area k (appends place d) = FairAppend (code_in i c k) c area (writes_to (role i) c k) place d
Fair i c area k (makes f) = FairMake i c k f
Fair i c area k (founds x) = FairFound i c k x

-- a rule of files makes what its deed makes, where the checks pass, and its deed is fair
pub record FileRow (i : Ins) (t : Card → Command → List ℕ) (d : Card → Command → Deed) : Type 0 where
  pub left_is : (k : Command) (random : List ℕ) → challenged (role i) k random ≡ []
  pub tree_is : (c : Card) (area : List ℕ) → sound c area ≡ true → (w : Tree) → Matches c.directory c.session.folder w → (k : Command)
      → grown (role i) (logins c) w k ≡ cond (passes (t c k) k) (tree_by (d c k) w) w
  pub fair : (c : Card) (area : List ℕ) → sound c area ≡ true → (k : Command) → Passed (t c k) → Fair i c area k (d c k)

-- a rule of a file's contents is to the transport key what its code is, it makes nothing, and its deed is fair
pub record ContentsRow (i : Ins) (f : Command → List ℕ) (t : Card → Located → Command → List ℕ) (d : Card → Located → Command → Deed) : Type 0 where
  pub code_is : (c : Card) (k : Command) → code_in i c k ≡ code_by (f k) (logins c) (challenge c) k
  pub left_is : (k : Command) (random : List ℕ) → challenged (role i) k random ≡ []
  pub tree_is : (l : Logins) (w : Tree) (k : Command) → grown (role i) l w k ≡ w
  pub makes_none : (c : Card) (l : Located) (k : Command) (w : Tree) → tree_by (d c l k) w ≡ w
  pub fair : (c : Card) (area : List ℕ) → sound c area ≡ true → (k : Command) (x : Kind)
      → ((right : ℕ) → code_asked_sw right k ≡ 0x9000 → asks_code right ≡ true → x ≡ rightly) → code_in i c k ≡ x
      → Passed (t c (record_found c area k) k) → Fair i c area k (d c (record_found c area k) k)

-- a rule of credentials makes no file, and its touch is fair
pub record TouchRow (i : Ins) (t : Logins → List ℕ → Command → List ℕ) (d : Logins → List ℕ → Command → Touch) : Type 0 where
  pub left_is : (l : Logins) (ch : List ℕ) (k : Command) (random : List ℕ)
      → challenged (role i) k random ≡ cond (passes (t l ch k) k) (left_by (d l ch k) random) []
  pub tree_is : (l : Logins) (w : Tree) (k : Command) → grown (role i) l w k ≡ w
  pub fair : (l : Logins) (ch : List ℕ) (k : Command) → Passed (t l ch k) → FairTouch l (d l ch k)

abbrev pub Row : Ins → Rule → Type 0
Row i (of_files t d) = FileRow i t d
Row i (of_contents f t d) = ContentsRow i f t d
Row i (of_credentials t d) = TouchRow i t d

-- a binary file has no length bytes
binary-plain : (f : File) → unless (eqb f.kind binary) 0x6981 ≡ 0x9000 → is_variable f ≡ false
binary-plain f h = let e : f.kind ≡ binary = eqb-true _ _ (holds (eqb f.kind binary) 0x6981 refl h) in rw e

-- what the passed checks tell of the file that a command addresses
module _ (x : Kind) (c : Card) (area : List ℕ) (h : sound c area ≡ true) (k : Command)
    (by_code : (right : ℕ) → code_asked_sw right k ≡ 0x9000 → asks_code right ≡ true → x ≡ rightly) where
  entitled : (sfi byte : ℕ) → file_sw (target c sfi) ≡ 0x9000 → right_sw c.session.rights byte ≡ 0x9000 → code_asked_sw byte k ≡ 0x9000
      → Entitled x c (target c sfi) (target c sfi) byte
  entitled sfi byte f r a = record {
    named-is = refl;
    some = some-file (target c sfi) f;
    low = target-low c (sound-good c area h) sfi;
    lies = target-lies c (sound-good c area h) sfi;
    held = holds (opens c byte) 0x6982 refl r;
    by_code = by_code byte a;
  }

  -- the file that a binary command addresses, and that of a record command
  abbrev b : ℕ
  b = binary_target c k

  abbrev t : ℕ
  t = record_target c k

  abbrev l : Located
  l = record_found c area k

  binary-read : Passed (read_binary_checks c k) → FairShow x c k b b (offset k) (read_count (file_of c b) k)
  unfolding read_binary_checks
  binary-read p =
      let n = read_count (file_of c b) k in
      record {
        entitled = entitled _ _ p.0 p.1.1.0 p.1.1.1.0;
        fits = binary-fits _ (offset k) n (binary-asked c k b _ (offset k) n p);
        few = read-few (file_of c b) k;
      }

  binary-update : Passed (update_binary_checks c k) → FairUpdate x c area b b (offset k) k.given
  unfolding update_binary_checks
  binary-update p = record {
    fair = record {
      entitled = entitled _ _ p.0 p.1.1.0 p.1.1.1.0;
      fits = binary-fits _ (offset k) (lc k) (binary-asked c k b _ (offset k) (lc k) p);
      stored = stored-plain _ _ _ _ _ (binary-plain (file_of c b) p.1.0);
    };
    any = λ other e. stored-plain _ _ _ _ _ (binary-plain (file_of c b) p.1.0);
  }

  record-read : Passed (read_record_checks c l k) → FairShow x c k t t l.start l.length
  unfolding read_record_checks
  record-read p =
      let some = some-file t p.0 in
      let long = read-long c area h k some p in
      record {
        entitled = entitled _ _ p.0 p.1.1.0 p.1.1.1.0;
        fits = read_fits c area h k some p;
        few = λ m. omega (arith, long);
      }

  record-update : Passed (update_record_checks c l k) → FairUpdate x c area t t l.start k.given
  unfolding update_record_checks
  record-update p =
      let some = some-file t p.0 in
      record {
        fair = record {
          entitled = entitled _ _ p.0 p.1.1.0 p.1.1.1.0;
          fits = update-fits c area h k some p;
          stored = update-stored c area h k some p;
        };
        any = update-any c area h k some p;
      }

  record-append : Passed (append_checks c k) → FairAppend x c area t t k.given
  unfolding append_checks
  record-append p =
      let some = some-file t p.0 in
      record {
        fair = record {
          entitled = entitled _ _ p.0 p.1.1.0 p.1.1.1.0;
          fits = append-fits c area h k some p;
          stored = append-stored c area h k some p;
        };
        served = found.appends c area h k some p;
      }

module _ (c : Card) (area : List ℕ) (h : sound c area ≡ true) (k : Command) where
  -- what a CREATE FILE makes
  created : Passed (create_checks c k) → Fair CreateFile c area k (create_deed c k)
  unfolding create_checks
  created p =
      let held = holds (opens c (creation_right c)) 0x6982 refl p.1.1.0 in
      split (Fair CreateFile c area k) (is_folder k)
      (λ e. record { by-create = refl; is-folder = e; in-root = found-in-root c k e p; held = held; given = given-tag k; served = found-asked c k e p })
      (λ e. record { by-create = refl; no-folder = e; held = held; given = given-label c.session.folder k; served = create-asked c k (sound-good c area h).folder e p })

  -- where a SELECT leads
  turned : Fair Select c area k (select_deed c k)
  turned =
      let g = sound-good c area h in
      split (Fair Select c area k) (is_zero (selected c k)) (λ e. entered-low c g k) (λ e. record { low = selected-low c g k; lies = selected-lies c g k })

-- where a command with a code passes P, case and code, it is a right presentation
module _ (front : List ℕ) (l : Logins) (ch : List ℕ) (k : Command) (a : frame_sw k ≡ 0x9000) (b : class_sw k ≡ 0x9000)
    (f : first front ≡ 0x9000) (s : code_sw l ch k ≡ 0x9000) where
  pub code-right : coded k ≡ true → code_by front l ch k ≡ rightly
  code-right e =
      let q = code-agreed l ch k s e in
      let t = passing (frame_sw k ∷ class_sw k ∷ first front ∷ tries_sw (l transport) ∷ challenge_sw ch ∷ []) (a, (b, (f, (q.tries, (q.challenge, tt))))) in
      taken (coded k) (passes (first front ∷ tries_sw (l transport) ∷ challenge_sw ch ∷ []) k) _ _ e (eq-eqb _ _ t)
      ∙ (right-is-equal (expected l ch k) k.code).1 (same-equal (expected l ch k) k.code q.agreed)
    where
      taken : (x y : Bool) (a b : Kind) → x ≡ true → y ≡ true → cond (x && y) a b ≡ a
      taken x y a b p q = rw (p, q)

  code-asked : (right : ℕ) → code_asked_sw right k ≡ 0x9000 → asks_code right ≡ true → code_by front l ch k ≡ rightly
  code-asked right h e =
      one_of (not (asks_code right)) (coded k) (holds (not (asks_code right) || coded k) 0x6982 refl h)
      (λ z. clash (asks_code right) e (not-true (asks_code right) z)) code-right

-- a try is left
pub try-left : (l : Login) → tries_sw l ≡ 0x9000 → 1 ≤ l.tries.left
try-left l h = not-zero l.tries.left (not-true (is_zero l.tries.left) (holds (not (is_zero l.tries.left)) 0x6983 refl h))

-- P2 names a PIN
never-key : (b : Bool) → is_key (number_of (cond b admin user)) ≡ false
never-key true = refl
never-key false = refl

-- a VERIFY without data is nothing
module _ (b : Bool) (v : Which) (value given : List ℕ) where
  query-kind : (w : Which) → cond b other (about v w (presented value given)) ≡ kind_of (cond b nothing (presents v value given)) w
  query-kind w = split (λ t. cond b other (about v w (presented value given)) ≡ kind_of t w) b (λ e. rw e) (λ e. rw e)

  query-left : (p : Bool) (random : List ℕ) → [] ≡ cond p (left_by (cond b nothing (presents v value given)) random) []
  query-left p random = split (λ x. [] ≡ x) p (λ e. split (λ t. [] ≡ left_by t random) b (λ q. refl) (λ q. refl)) (λ e. refl)

-- the same whether the checks pass or not
either_way : {A : Type 0} (p : Bool) (x : A) → x ≡ cond p x x
either_way true x = refl
either_way false x = refl

-- where the checks of CREATE FILE pass, and those of SELECT
module _ (c : Card) (area : List ℕ) (h : sound c area ≡ true) (w : Tree) (m : Matches c.directory c.session.folder w) (k : Command) where
  abbrev g : Good c
  g = sound-good c area h

  made-tree : grown makes_file (logins c) w k ≡ cond (passes (create_checks c k) k) (tree_by (create_deed c k) w) w
  unfolding grown
  made-tree =
      let e = filed c.directory g.directory in
      sym (ap₂ (λ (t : List ℕ) (x : Tree). cond (passes t k) x w) (create-same c e.few e.folders.few g.folder w m k)
      (create-leaves c e.few e.folders.few g.folder w m k))

  turned-tree : grown selects (logins c) w k ≡ cond (passes (select_checks c k) k) (tree_by (select_deed c k) w) w
  unfolding grown
  turned-tree =
      let e = filed c.directory g.directory in
      sym (ap₂ (λ (t : List ℕ) (x : Tree). cond (passes t k) x w) (select-same c e.few e.folders.few g.folder w m k)
      (select-leads c e.few e.folders.few g.folder w m k))

module _ (l : Logins) (k : Command) where
  pin-presented : Passed (verify_checks l k) → FairTouch l (cond (eqb k.case 1) nothing (presents (pin_named k) (l (pin_named k)).value k.given))
  unfolding verify_checks
  pin-presented p =
      split (FairTouch l) (eqb k.case 1) (λ e. tt)
      (λ e. let t : first (tries_sw (l (pin_named k)) ∷ digits_sw k ∷ []) ≡ 0x9000 = rw e at p.1.1.0 in
      try-left (l (pin_named k)) (passed (tries_sw (l (pin_named k)) ∷ digits_sw k ∷ []) t).0)

  key-presented : (ch : List ℕ) → Passed (authenticate_checks l ch k) → 1 ≤ (l device).tries.left
  unfolding authenticate_checks
  key-presented ch p = try-left (l device) p.1.1.0

  pin-changed : Passed (change_checks l k) → FairTouch l (changes (pin_named k) k.given)
  unfolding change_checks
  pin-changed p = (
    never-key (is_zero k.p2),
    holds (l (pin_named k)).held 0x6982 refl p.1.1.0,
    pin-asked k (holds (pin_given k) 0x6700 refl p.1.0) p.1.1.1.0,
  )

  pin-reloaded : Passed (reload_checks l k) → FairTouch l (reloads user k.given)
  unfolding reload_checks
  pin-reloaded p = (refl, holds (l admin).held 0x6982 refl p.1.1.0, pin-asked k (holds (pin_given k) 0x6700 refl p.1.0) p.1.1.1.0)

-- the ledger's own words for the credential commands are the rules'
digits_same : (d : List ℕ) → in_digits d ≡ all_of digit d
unfolding in_digits all_of
digits_same [] = refl
digits_same (b ∷ d) = ap (λ (t : Bool). digit b && t) (digits_same d)

-- the PIN that is named
pin-same : (k : Command) → pin_of k ≡ pin_named k
pin-same k = refl

key-same : (l : Logins) (ch : List ℕ) (k : Command) → key_asks (l device) ch k ≡ authenticate_checks l ch k
unfolding key_asks authenticate_checks
key-same l ch k = refl

change-same : (l : Logins) (k : Command) → change_asks (l (pin_named k)) k ≡ change_checks l k
unfolding change_asks change_checks
change-same l k = rw (digits_same k.given)

reload-same : (l : Logins) (k : Command) → reload_asks (l admin) k ≡ reload_checks l k
unfolding reload_asks reload_checks
reload-same l k = rw (digits_same k.given)

challenge-same : (k : Command) → challenge_asks k ≡ get_challenge_checks k
unfolding challenge_asks get_challenge_checks
challenge-same k = refl

-- a VERIFY without data is no presentation
module _ (l : Logins) (k : Command) where
  no-data : eqb k.case 1 ≡ true → passes (present_asks (l (pin_named k)) k) k ≡ false
  unfolding present_asks
  no-data e = go (passes (present_asks (l (pin_named k)) k) k) refl
    where
      go : (b : Bool) → passes (present_asks (l (pin_named k)) k) k ≡ b → b ≡ false
      go false q = refl
      go true q =
          let three = (both (eqb k.case 3) (leb 6 (lc k) && leb (lc k) 16) (holds (pin_sent k) 0x6700 refl (all-passed (present_asks (l (pin_named k)) k) k q).1.0)).0 in
          absurd (omega (arith, eqb-true k.case 1 e, eqb-true k.case 3 three))

  with-data : eqb k.case 1 ≡ false → first (present_asks (l (pin_named k)) k) ≡ first (verify_checks l k)
  unfolding present_asks verify_checks
  with-data e = rw (e, digits_same k.given)

  verify-same : (x : Kind) → cond (passes (present_asks (l (pin_named k)) k) k) x other ≡ cond (passes (verify_checks l k) k) (cond (eqb k.case 1) other x) other
  verify-same x = go (eqb k.case 1) refl
    where
      go : (b : Bool) → eqb k.case 1 ≡ b → cond (passes (present_asks (l (pin_named k)) k) k) x other ≡ cond (passes (verify_checks l k) k) (cond b other x) other
      go true e = rw (no-data e) (either_way (passes (verify_checks l k) k) other)
      go false e = ap (λ sw. cond (eqb (first (frame_sw k ∷ class_sw k ∷ sw ∷ [])) 0x9000) x other) (with-data e)

-- the ledger's own words for each command say what its rule says
pub kind-same : (i : Ins) (l : Logins) (ch cmd : List ℕ) (w : Which) → kind (role i) l ch cmd w ≡ kind_by (rule i) l ch (framed cmd) w
unfolding rule kind
kind-same Select l ch cmd w = refl
kind-same ReadBinary l ch cmd w = ap (about transport w) (read_same (binary_p (framed cmd)) l ch cmd)
kind-same UpdateBinary l ch cmd w = ap (about transport w) (write_same (binary_p (framed cmd)) l ch cmd)
kind-same ReadRecord l ch cmd w = ap (about transport w) (read_same (record_p (framed cmd)) l ch cmd)
kind-same UpdateRecord l ch cmd w = ap (about transport w) (write_same (record_p (framed cmd)) l ch cmd)
kind-same AppendRecord l ch cmd w = ap (about transport w) (write_same (append_p (framed cmd)) l ch cmd)
kind-same Verify l ch cmd w =
    let k = framed cmd in
    ap (λ (x : Which). cond (passes (present_asks (l x) k) k) (about x w (presented (l x).value k.given)) other) (pin-same k)
    ∙ verify-same l k (about (pin_named k) w (presented (l (pin_named k)).value k.given))
    ∙ ap (λ x. cond (passes (verify_checks l k) k) x other) (query-kind (eqb k.case 1) (pin_named k) (l (pin_named k)).value k.given w)
kind-same Authenticate l ch cmd w =
    let k = framed cmd in
    ap (λ (t : List ℕ). cond (passes t k) (about device w (presented (cryptogram_of (l device).value ch) k.given)) other) (key-same l ch k)
    ∙ ap (λ (x : List ℕ). cond (passes (authenticate_checks l ch k) k) (about device w (presented x k.given)) other) (sym (cryptogram-is (l device).value ch))
kind-same ChangePin l ch cmd w =
    let k = framed cmd in
    ap (λ (x : Which). cond (passes (change_asks (l x) k) k) (about x w (changed k.given)) other) (pin-same k)
    ∙ ap (λ (t : List ℕ). cond (passes t k) (about (pin_named k) w (changed k.given)) other) (change-same l k)
kind-same ReloadPin l ch cmd w =
    let k = framed cmd in ap (λ (t : List ℕ). cond (passes t k) (about user w (reloaded k.given)) other) (reload-same l k)
kind-same CreateFile l ch cmd w = refl
kind-same GetChallenge l ch cmd w = either_way (passes (get_challenge_checks (framed cmd)) (framed cmd)) other
kind-same GetResponse l ch cmd w = either_way (passes (0x6D00 ∷ []) (framed cmd)) other
kind-same Unlisted l ch cmd w = either_way (passes (0x6D00 ∷ []) (framed cmd)) other

pub row : (i : Ins) → Row i (rule i)
unfolding rule challenged grown writes_to reads_from
row Select = record {
  left_is = λ k random. refl;
  tree_is = λ c area h w m k. turned-tree c area h w m k;
  fair = λ c area h k p. turned c area h k;
}
row ReadBinary = record {
  code_is = λ c k. refl;
  left_is = λ k random. refl;
  tree_is = λ l w k. refl;
  makes_none = λ c l k w. refl;
  fair = λ c area h k x b e p. rw e (binary-read x c area h k b p);
}
row UpdateBinary = record {
  code_is = λ c k. refl;
  left_is = λ k random. refl;
  tree_is = λ l w k. refl;
  makes_none = λ c l k w. refl;
  fair = λ c area h k x b e p. rw e (binary-update x c area h k b p);
}
row ReadRecord = record {
  code_is = λ c k. refl;
  left_is = λ k random. refl;
  tree_is = λ l w k. refl;
  makes_none = λ c l k w. refl;
  fair = λ c area h k x b e p. rw e (record-read x c area h k b p);
}
row UpdateRecord = record {
  code_is = λ c k. refl;
  left_is = λ k random. refl;
  tree_is = λ l w k. refl;
  makes_none = λ c l k w. refl;
  fair = λ c area h k x b e p. rw e (record-update x c area h k b p);
}
row AppendRecord = record {
  code_is = λ c k. refl;
  left_is = λ k random. refl;
  tree_is = λ l w k. refl;
  makes_none = λ c l k w. refl;
  fair = λ c area h k x b e p. rw e (record-append x c area h k b p);
}
row Verify = record {
  left_is = λ l ch k random. query-left (eqb k.case 1) (pin_named k) (l (pin_named k)).value k.given (passes (verify_checks l k) k) random;
  tree_is = λ l w k. refl;
  fair = λ l ch k p. pin-presented l k p;
}
row Authenticate = record {
  left_is = λ l ch k random. either_way (passes (authenticate_checks l ch k) k) [];
  tree_is = λ l w k. refl;
  fair = λ l ch k p. key-presented l k ch p;
}
row ChangePin = record {
  left_is = λ l ch k random. either_way (passes (change_checks l k) k) [];
  tree_is = λ l w k. refl;
  fair = λ l ch k p. pin-changed l k p;
}
row ReloadPin = record {
  left_is = λ l ch k random. either_way (passes (reload_checks l k) k) [];
  tree_is = λ l w k. refl;
  fair = λ l ch k p. pin-reloaded l k p;
}
row CreateFile = record {
  left_is = λ k random. refl;
  tree_is = λ c area h w m k. made-tree c area h w m k;
  fair = λ c area h k p. created c area h k p;
}
row GetChallenge = record {
  left_is = λ l ch k random. ap (λ (t : List ℕ). cond (passes t k) (take k.le random) []) (challenge-same k);
  tree_is = λ l w k. refl;
  fair = λ l ch k p. challenge-asked k p;
}
row GetResponse = record {
  left_is = λ l ch k random. either_way (passes (0x6D00 ∷ []) k) [];
  tree_is = λ l w k. refl;
  fair = λ l ch k p. tt;
}
row Unlisted = record {
  left_is = λ l ch k random. either_way (passes (0x6D00 ∷ []) k) [];
  tree_is = λ l w k. refl;
  fair = λ l ch k p. tt;
}

-- the deed of a rule of contents, where framing, class and every check passed
pub contents-fair : (i : Ins) (c : Card) (area : List ℕ) → sound c area ≡ true → (k : Command)
    → (s : Command → List ℕ) (t : Card → Located → Command → List ℕ) (d : Card → Located → Command → Deed) → ContentsRow i s t d
    → frame_sw k ≡ 0x9000 → class_sw k ≡ 0x9000 → Passed (checks_of (of_contents s t d) c (record_found c area k) k)
    → Fair i c area k (d c (record_found c area k) k)
contents-fair i c area h k s t d q a b p =
    q.fair c area h k (code_by (s k) (logins c) (challenge c) k) (code-asked (s k) (logins c) (challenge c) k a b p.0 p.1.0) (q.code_is c k) p.1.1

pub contents-passed : (i : Ins) (c : Card) (area : List ℕ) → sound c area ≡ true → (k : Command)
    → (s : Command → List ℕ) (t : Card → Located → Command → List ℕ) (d : Card → Located → Command → Deed) → ContentsRow i s t d
    → passes (checks_of (of_contents s t d) c (record_found c area k) k) k ≡ true → Fair i c area k (d c (record_found c area k) k)
contents-passed i c area h k s t d q e =
    let l = checks_of (of_contents s t d) c (record_found c area k) k in
    let p = passed (frame_sw k ∷ class_sw k ∷ first l ∷ []) (eqb-true _ _ e) in
    contents-fair i c area h k s t d q p.0 p.1.0 (passed l p.1.1.0)

-- what holds of each fair deed, of each fair touch and of a refusal, on the card as a code leaves it, holds of the outcome
pub by-rule : (P : Effect → Type 0) (i : Ins) (c : Card) (area : List ℕ) → sound c area ≡ true → (k : Command) (random : List ℕ)
    → ((xs : List Credential) → Good (with_credentials c xs) → (d : Deed) → Fair i c area k d → P (did (with_credentials c xs) d))
    → ((t : Touch) → FairTouch (logins c) t → P (touched c t random))
    → ((xs : List Credential) → Good (with_credentials c xs) → (sw : ℕ) → P (answers sw (with_credentials c xs)))
    → P (outcome i c (record_found c area k) k random)
unfolding checks effect_of kept
by-rule P i c area h k random f g n = ruled-by P i c (record_found c area k) k random (go (rule i) (row i)) (refused (rule i))
  where
    go : (r : Rule) → Row i r → frame_sw k ≡ 0x9000 → class_sw k ≡ 0x9000 → Passed (checks_of r c (record_found c area k) k)
        → P (effect_by r c (record_found c area k) k random)
    go (of_files t d) q a b p = f c.credentials (sound-good c area h) (d c k) (q.fair c area h k p)
    go (of_contents s t d) q a b p =
        f (credentials_after (s k) c k) (coded-good c (sound-good c area h) (s k) k) (d c (record_found c area k) k)
        (contents-fair i c area h k s t d q a b p)
    go (of_credentials t d) q a b p = g (d (logins c) (challenge c) k) (q.fair (logins c) (challenge c) k p)

    refused : (r : Rule) (sw : ℕ) → P (answers sw (kept_by r c k))
    refused (of_files t d) sw = n c.credentials (sound-good c area h) sw
    refused (of_contents s t d) sw = n (credentials_after (s k) c k) (coded-good c (sound-good c area h) (s k) k) sw
    refused (of_credentials t d) sw = n c.credentials (sound-good c area h) sw

-- what holds of each fair touch, and of nothing at all, holds of what a command is to a credential: a code is a presentation of the transport key
pub kind-by : (P : Kind → Type 0) (i : Ins) (l : Logins) (ch cmd : List ℕ) (w : Which)
    → P other → ((t : Touch) → FairTouch l t → P (kind_of t w)) → P (kind (role i) l ch cmd w)
kind-by P i l ch cmd w n f = rw (kind-same i l ch cmd w) (go (rule i) (row i))
  where
    -- to the others it is nothing either way
    no_code : P (about transport w other)
    no_code = split P (eqb (number_of transport) (number_of w)) (λ e. n) (λ e. n)

    go : (r : Rule) → Row i r → P (kind_by r l ch (framed cmd) w)
    go (of_files t d) q = n
    go (of_contents s t d) q =
        let k = framed cmd in
        let asked : List ℕ = first (s k) ∷ tries_sw (l transport) ∷ challenge_sw ch ∷ [] in
        split (λ (x : Kind). P (about transport w x)) (coded k && passes (first (s k) ∷ tries_sw (l transport) ∷ challenge_sw ch ∷ []) k)
        (λ e. f (presents transport (expected l ch k) k.code) (try-left (l transport) (all-passed asked k (both (coded k) (passes asked k) e).1).1.0))
        (λ e. no_code)
    go (of_credentials t d) q =
        let k = framed cmd in split P (passes (t l ch k) k) (λ e. f (d l ch k) (q.fair l ch k (all-passed (t l ch k) k e))) (λ e. n)
