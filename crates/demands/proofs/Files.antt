-- What a command does to the file of a place.
use Prim.Native.Nat.{ℕ, ◌+◌, ◌-◌, ◌≤◌, ◌<◌}
use mathlib.Core.Bool.{Bool, true}
use mathlib.Core.List.{List, []}
use mathlib.Core.Logic.{◌⊎◌, inl, inr, ⊎_elim, by_cases}
use mathlib.Core.Path.{◌≡◌, refl, sym, ap, ◌∙◌}
use native.Mathlib.Decide.{ℕ_discrete}
use native.Mathlib.Omega.{arith}
use lib.ListN.{length, take}
use Rattle.files.specs.declared.File.{File}
use Rattle.files.specs.declared.Directory.{Directory}
use Rattle.files.specs.State.{emptied}
use Rattle.files.specs.Types.{size}
use Rattle.files.specs.Part.{splice}
use Rattle.files.specs.Rights.{asks_code}
use Rattle.files.specs.Directory.{file_at, start_at, start, extent}
use Rattle.files.specs.Record.{next_start, appended, parted_file}
use Rattle.files.specs.Listed.{SameLengths}
use Rattle.files.specs.Create.{created, founded}
use Rattle.files.proofs.Checks.{split}
use Rattle.files.proofs.Parts.{Apart, part_apart, part-splice-in, part_length}
use Rattle.files.proofs.Extents.{within-apart, file-set, file-other, used-is, start-before, start-same, start-next}
use Rattle.files.proofs.Appends.{appended-size}
use Rattle.files.proofs.Parting.{Stored}
use Rattle.files.proofs.Kept.{filed}
use Rattle.rules.specs.declared.Credential.{Credential}
use Rattle.rules.specs.declared.Card.{Card}
use Rattle.rules.specs.declared.Ins.{Ins}
use Rattle.rules.specs.Words.{same}
use Rattle.rules.specs.State.{Which, with_credentials}
use Rattle.rules.specs.Sound.{sound}
use Rattle.rules.specs.Frame.{Command}
use Rattle.rules.specs.Effect.{Deed, turns, enters, shows, stores, appends, makes, founds, Touch, nothing, presents, changes, reloads, challenges, Effect, effect, answers}
use Rattle.rules.specs.Target.{file_of, opens}
use Rattle.rules.specs.Record.{record_found}
use Rattle.rules.specs.Pins.{compared_at, compared}
use Rattle.demands.specs.Role.{Role, role}
use Rattle.rules.specs.Step.{did, touched, outcome}
use Rattle.rules.proofs.Good.{sound-good}
use Rattle.demands.specs.Ledger.{Kind, right as rightly}
use Rattle.demands.proofs.Rows.{Entitled, FairShow, FairStore, code_in, Fair, by-rule}
use Rattle.demands.proofs.Addressed.{writes_to, reads_from}

-- the command addresses the file of this place, the right is held, and where it asks for a code x is a right presentation
abbrev pub By : Kind → Card → ℕ → ℕ → (File → ℕ) → Type 0
By x c place named right =
    (named ≡ place) × (opens c (right (file_of c place)) ≡ true) × (asks_code (right (file_of c place)) ≡ true → x ≡ rightly)

-- the file of a place, all its numbers and bytes, stays where it is
pub record Kept (c : Card) (place : ℕ) (e : Effect) : Type 0 where
  pub file-is : file_of e.card place ≡ file_of c place
  pub apart : Apart (start c.directory place) (size (file_of c place)) e.into (length e.stores)

-- or it is written: some bytes of its own, which leave it parted
pub record Wrote (c : Card) (area : List ℕ) (place : ℕ) (e : Effect) : Type 0 where
  pub at : ℕ
  pub into-is : e.into ≡ start c.directory place + at
  pub fits : at + length e.stores ≤ size (file_of c place)
  pub stored : Stored (file_of c place) (file_of e.card place) (extent c.directory place area) at e.stores

-- what an effect does to the file of a place: it does not move; it is kept or written by right; what is shown is none of it, or it is read by right
pub record Treats (x : Kind) (c : Card) (area : List ℕ) (place : ℕ) (r : Role) (k : Command) (e : Effect) : Type 0 where
  pub there : place ≤ e.card.directory.count
  pub start_is : start e.card.directory place ≡ start c.directory place
  pub size_is : size (file_of e.card place) ≡ size (file_of c place)
  pub kept : Kept c place e ⊎ (By x c place (writes_to r c k) (λ f. f.write) × Wrote c area place e)
  pub hidden : Apart (start c.directory place) (size (file_of c place)) e.from e.shows ⊎ By x c place (reads_from r c k) (λ f. f.read)

-- a comparison leaves the files, the directories and which is current
pub compare-by : (P : Effect → Type 0) (w : Which) (c : Card) (agrees : Bool)
    → ((sw : ℕ) (x : Card) → x.directory ≡ c.directory → x.session.folder ≡ c.session.folder → P (answers sw x)) → P (compared w c agrees)
unfolding compared_at
compare-by P w c agrees f = split P agrees (λ e. f _ _ refl refl) (λ e. f _ _ refl refl)

module _ (y : Kind) (c : Card) (area : List ℕ) (h : sound c area ≡ true) (place : ℕ) (some : 1 ≤ place) (low : place ≤ c.directory.count) (k : Command) where
  abbrev fs : List File
  fs = c.directory.files

  abbrev d : Directory
  d = c.directory

  -- n bytes of the file of another place, from its byte a on
  aside : (t a n : ℕ) → 1 ≤ t → a + n ≤ size (file_of c t) → (t ≡ place → ⊥)
      → Apart (start c.directory place) (size (file_of c place)) (start c.directory t + a) n
  aside t a n l fits o =
      within-apart fs (place - 1) (t - 1) (start d t + a) n (λ e. o (omega arith)) (record { low = omega arith; high = omega (arith, fits) })

  -- what is told of the file that was named, told of this place
  pub here : (named t : ℕ) (right : File → ℕ) → Entitled y c named t (right (file_of c t)) → t ≡ place → By y c place named right
  here named t right q e =
      (q.named-is ∙ e, ap (λ z. opens c (right (file_of c z))) (sym e) ∙ q.held, λ a. q.by_code (ap (λ z. asks_code (right (file_of c z))) e ∙ a))

  -- shown by right, or of another file
  shown_by : (named t a n : ℕ) → FairShow y c k named t a n
      → Apart (start c.directory place) (size (file_of c place)) (start c.directory t + a) n ⊎ By y c place named (λ f. f.read)
  shown_by named t a n q =
      by_cases (ℕ_discrete t place) (λ e. inr (here named t (λ f. f.read) q.entitled e))
      (λ o. inl (aside t a n q.entitled.some q.fits o))

  -- stored by right, or in another file, where the card's own file there changes in no other place
  stored-by : (named t a : ℕ) (e : Effect) → FairStore y c area named t a (file_of e.card t) e.stores
      → e.into ≡ start c.directory t + a → ((t ≡ place → ⊥) → file_of e.card place ≡ file_of c place)
      → Kept c place e ⊎ (By y c place named (λ f. f.write) × Wrote c area place e)
  stored-by named t a e q into others =
      by_cases (ℕ_discrete t place)
      (λ m. inr (here named t (λ f. f.write) q.entitled m, rw (← m) (record { at = a; into-is = into; fits = q.fits; stored = q.stored })))
      (λ o. inl (record { file-is = others o; apart = rw into (aside t a (length e.stores) q.entitled.some q.fits o) }))

  -- nothing stored or shown, no file changed
  none : (r : Role) (sw : ℕ) (x : Card) (said : List ℕ) → x.directory.files ≡ c.directory.files → x.directory.count ≡ c.directory.count
      → Treats y c area place r k (effect sw x said 0 0 0 [])
  none r sw x said q n = record {
    there = rw n low;
    start_is = ap (λ (z : List File). start_at z (place - 1)) q;
    size_is = ap (λ (z : List File). size (file_at z (place - 1))) q;
    kept = inl (record { file-is = ap (λ (z : List File). file_at z (place - 1)) q; apart = inr (omega arith) });
    hidden = inl (inr (omega arith));
  }

-- on the card as a code leaves it
module _ (i : Ins) (c : Card) (area : List ℕ) (h : sound c area ≡ true) (place : ℕ) (some : 1 ≤ place) (low : place ≤ c.directory.count) (k : Command) where
  abbrev x : Kind
  x = code_in i c k

  abbrev ds : List File
  ds = c.directory.files

  module _ (xs : List Credential) where
    abbrev v : Card
    v = with_credentials c xs

    deed-treats : (z : Deed) → Fair i c area k z → Treats (code_in i c k) c area place (role i) k (did (with_credentials c xs) z)
    unfolding created founded
    deed-treats (turns t) q = none x c area h place some low k (role i) _ _ [] refl refl
    deed-treats (enters n) q = none x c area h place some low k (role i) _ _ [] refl refl
    deed-treats (shows t a n) q = record {
      there = low;
      start_is = refl;
      size_is = refl;
      kept = inl (record { file-is = refl; apart = inr (omega arith) });
      hidden = shown_by x c area h place some low k _ t a n q;
    }
    deed-treats (stores t a bytes) q = record {
      there = low;
      start_is = refl;
      size_is = refl;
      kept = stored-by x c area h place some low k _ t a (did v (stores t a bytes)) q.fair refl (λ o. refl);
      hidden = inl (inr (omega arith));
    }
    deed-treats (appends t bytes) q =
        let w = filed c.directory (sound-good c area h).directory in
        let in_list : t - 1 < length ds = omega (arith, w.places, w.few, q.fair.entitled.some, q.fair.entitled.low) in
        let f = appended (file_of c t) (length bytes) in
        let same_size = appended-size (file_of c t) (length bytes) in
        let others : (t ≡ place → ⊥) → file_of (did v (appends t bytes)).card place ≡ file_of c place =
        λ o. file-other ds (t - 1) f (place - 1) (λ e. o (omega (arith, q.fair.entitled.some))) in
        record {
          there = low;
          start_is = start-same ds (t - 1) f in_list same_size (place - 1);
          size_is =
              by_cases (ℕ_discrete t place) (λ e. rw (← e) (ap size (file-set ds (t - 1) f in_list) ∙ same_size)) (λ o. ap size (others o));
          kept = stored-by x c area h place some low k _ t (next_start (file_of c t)) (did v (appends t bytes)) (rw (file-set ds (t - 1) f in_list) q.fair) refl others;
          hidden = inl (inr (omega arith));
        }
    deed-treats (makes made) q =
        let n = c.directory.count in
        let f = emptied made in
        let past : place - 1 < n = omega arith in
        let before = file-other ds n f (place - 1) (λ e. omega arith) in
        let next = start-next ds (place - 1) n past in
        let at-end = used-is c.directory (filed c.directory (sound-good c area h).directory).few in
        record {
          there = omega arith;
          start_is = start-before ds n f (place - 1) (omega arith);
          size_is = ap size before;
          kept = inl (record { file-is = before; apart = rw at-end (inl next) });
          hidden = inl (inr (omega arith));
        }
    deed-treats (founds z) q = none x c area h place some low k (role i) _ _ [] refl refl

  module _ (random : List ℕ) where
    touch-treats : (t : Touch) → Treats (code_in i c k) c area place (role i) k (touched c t random)
    touch-treats nothing = none x c area h place some low k (role i) _ _ [] refl refl
    touch-treats (presents w value given) =
        compare-by (Treats x c area place (role i) k) w c (same value given) (λ sw z e n. none x c area h place some low k (role i) sw z [] (ap (λ (d : Directory). d.files) e) (ap (λ (d : Directory). d.count) e))
    touch-treats (changes w bytes) = none x c area h place some low k (role i) _ _ [] refl refl
    touch-treats (reloads w bytes) = none x c area h place some low k (role i) _ _ [] refl refl
    touch-treats (challenges n) = none x c area h place some low k (role i) 0x9000 c (take n random) refl refl

    pub treats : Treats (code_in i c k) c area place (role i) k (outcome i c (record_found c area k) k random)
    treats =
        by-rule (Treats x c area place (role i) k) i c area h k random (λ xs q. deed-treats xs) (λ t q. touch-treats t)
        (λ xs q sw. none x c area h place some low k (role i) sw (with_credentials c xs) [] refl refl)

-- the file's extent afterwards: parted again, and with the same length bytes on areas that had them
module _ (x : Kind) (c : Card) (area : List ℕ) (place : ℕ) (r : Role) (k : Command) (e : Effect) (w : Treats x c area place r k e)
    (inside : start c.directory place + size (file_of c place) ≤ length area) (fits : e.into + length e.stores ≤ length area) where
  long : (y : List ℕ) → start c.directory place + size (file_of c place) ≤ length y → length (extent c.directory place y) ≡ size (file_of c place)
  unfolding extent
  long y q = part_length (start c.directory place) (size (file_of c place)) y q

  kept-extent : Kept c place e → (y : List ℕ) → length y ≡ length area
      → extent e.card.directory place (splice y e.into e.stores) ≡ extent c.directory place y
  unfolding extent
  kept-extent q y l = rw (w.start_is, w.size_is) (part_apart y e.into e.stores (start c.directory place) (size (file_of c place)) (rw l fits) q.apart)

  wrote-extent : (q : Wrote c area place e) (y : List ℕ) → length y ≡ length area
      → extent e.card.directory place (splice y e.into e.stores) ≡ splice (extent c.directory place y) q.at e.stores
  unfolding extent
  wrote-extent q y l =
      rw (w.start_is, w.size_is, q.into-is)
      (part-splice-in y (start c.directory place) (size (file_of c place)) q.at e.stores (rw l inside) q.fits)

  pub treated-parted : parted_file (file_of c place) (extent c.directory place area) ≡ true
      → parted_file (file_of e.card place) (extent e.card.directory place (splice area e.into e.stores)) ≡ true
  treated-parted p =
      ⊎_elim (λ (q : Kept c place e). rw (q.file-is, kept-extent q area refl) p)
      (λ q. rw (wrote-extent q.1 area refl) q.1.stored.parted) w.kept

  pub treated-lengths : (y : List ℕ) → length y ≡ length area → SameLengths (file_of c place) (extent c.directory place area) (extent c.directory place y)
      → SameLengths (file_of e.card place) (extent e.card.directory place (splice area e.into e.stores))
      (extent e.card.directory place (splice y e.into e.stores))
  treated-lengths y l s =
      ⊎_elim (λ (q : Kept c place e). rw (q.file-is, kept-extent q area refl, kept-extent q y l) s)
      (λ q. rw (wrote-extent q.1 area refl, wrote-extent q.1 y l) (q.1.stored.lengths (extent c.directory place y) (same-long y l) s)) w.kept
    where
      same-long : (y : List ℕ) → length y ≡ length area → length (extent c.directory place y) ≡ length (extent c.directory place area)
      same-long y l = long y (rw l inside) ∙ sym (long area inside)
