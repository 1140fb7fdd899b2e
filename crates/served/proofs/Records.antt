-- READ RECORD and UPDATE RECORD.
use Prim.Native.Nat.{ℕ, ◌+◌, ◌-◌, ◌/◌, ◌≤◌}
use mathlib.Core.Bool.{true, ◌&&◌, ◌||◌, not}
use mathlib.Core.List.{List, [], ◌∷◌}
use mathlib.Core.Logic.{◌⊎◌, inl, inr, ⊎_elim}
use mathlib.Core.Path.{◌≡◌, refl, sym, ap, ◌∙◌, subst}
use native.Mathlib.Omega.{arith}
use lib.Dec.{eqb, leb}
use lib.ListN.{length, get_or, set}
use borrow.Author.Tests.{eqb-true, eq-eqb, ne_eqb, leb-true, le-leb}
use Rattle.files.specs.declared.File.{File}
use Rattle.files.specs.declared.Located.{Located}
use Rattle.files.specs.Part.{part}
use Rattle.files.specs.State.{with_file}
use Rattle.files.specs.Rights.{asks_code}
use Rattle.files.specs.Types.{fixed, cyclic, is_variable, has_records, size}
use Rattle.files.specs.Directory.{start, extent}
use Rattle.files.specs.Record.{records_held, located}
use Rattle.files.specs.Listed.{records}
use Rattle.files.proofs.Checks.{both, join}
use Rattle.files.proofs.Parts.{part_length}
use Rattle.files.proofs.Extents.{lies}
use Rattle.files.proofs.Lists.{Held, held, located-there, record-fits, record-long, record-read, records-length}
use Rattle.files.proofs.Stays.{listed-read, listed-update}
use Rattle.rules.specs.declared.Card.{Card}
use Rattle.rules.specs.declared.Ins.TheVariants.{ReadRecord, UpdateRecord}
use Rattle.rules.specs.Words.{first}
use Rattle.rules.specs.State.{with_current, with_directory, with_credentials}
use Rattle.rules.specs.Sound.{sound}
use Rattle.rules.specs.Frame.{Command, framed, lc, coded}
use Rattle.rules.specs.Effect.{Effect, storing, Stepped}
use Rattle.rules.specs.Target.{target, opens}
use Rattle.rules.specs.Record.{good_p2, record_target, record_found, record_le_sw, record_lc_sw, record_checks, read_record_front, read_record_checks, read_record_deed, update_record_front, update_record_checks, update_record_deed}
use Rattle.rules.specs.List.{find, rows, rule}
use Rattle.rules.specs.Step.{did, step}
use Rattle.rules.proofs.Checks.{one_of, either}
use Rattle.rules.proofs.Good.{sound-good}
use Rattle.rules.proofs.Targets.{place-shaped}
use Rattle.rules.proofs.Found.{found-is}
use Rattle.demands.specs.Held.{file_no, IsFile, bytes_no, records_no}
use Rattle.demands.proofs.Named.{opens-asked, asked-opens}
use Rattle.served.specs.Left.{Ask, Left, Refused, Written, OneRun}
use Rattle.served.specs.Answers.{RecordP, HasRecords, ReadRecordAnswers, UpdateRecordAnswers}
use Rattle.served.specs.Answers as answers
use Rattle.served.proofs.View.{in-area, held-sound, used_sound, parted-sound, listed-are}
use Rattle.served.proofs.Frames.{read-test, read-to, to_read, read-four, write-test, write-to, to_write, write-four}
use Rattle.served.proofs.Steps.{Settled, quiet, Rest, Checked, serves, check, check-file, Sends, by-either}
use Rattle.served.proofs.Codes.{code-to, to-code, contents}
use Rattle.served.proofs.Writes.{stored, writes, now-file, one-run}
use Rattle.served.proofs.Append.{good-p2, p2-good}

-- types with records
pub has-to : (f : File) → has_records f ≡ true → HasRecords f
has-to f h =
    one_of (eqb f.kind fixed) (eqb f.kind cyclic || is_variable f) h (λ e. inl (eqb-true _ _ e))
    (λ q. inr (one_of (eqb f.kind cyclic) (is_variable f) q (λ e. inl (eqb-true _ _ e)) (λ e. inr (eqb-true _ _ e))))

pub to-has : (f : File) → HasRecords f → has_records f ≡ true
to-has f = ⊎_elim (λ e. rw e) (⊎_elim (λ e. rw e) (λ e. rw e))

-- the record that a command addresses is the n-th of the list
module _ (c : Card) (area : List ℕ) (h : sound c area ≡ true) (k : Command) (there : IsFile c (record_target c k)) (has : HasRecords (file_no c (record_target c k))) where
  abbrev n : ℕ
  n = record_target c k

  abbrev f : File
  f = file_no c (record_target c k)

  abbrev x : List ℕ
  x = extent c.directory (record_target c k) area

  abbrev l : Located
  l = record_found c area k

  found : record_found c area k ≡ located (file_no c (record_target c k)) (extent c.directory (record_target c k) area) k.p1
  found = found-is c area h k there.first

  was-listed : records_no c area (record_target c k) ≡ records (file_no c (record_target c k)) (extent c.directory (record_target c k) area)
  was-listed = listed-are c area h n there (to-has f has)

  as_many : length (records_no c area n) ≡ records_held f x
  as_many = ap length was-listed ∙ records-length f x

  numbered : (record_found c area k).there ≡ true → Held (file_no c (record_target c k)) (extent c.directory (record_target c k) area) k.p1
  numbered t = held f x k.p1 (held-sound c area h n there) (used_sound c area h n there) (rw found at t)

  pub there-to : (record_found c area k).there ≡ true → k.p1 ≤ length (records_no c area (record_target c k))
  there-to t = omega (arith, (numbered t).high, as_many)

  pub to-there : 1 ≤ k.p1 → k.p1 ≤ length (records_no c area (record_target c k)) → (record_found c area k).there ≡ true
  to-there low high = rw (found, located-there f x k.p1 (join (le-leb 1 k.p1 low) (le-leb k.p1 (records_held f x) (omega (arith, high, as_many)))))

  module _ (t : (record_found c area k).there ≡ true) where
    -- its bytes
    read_is : part (start c.directory (record_target c k) + (record_found c area k).start) (record_found c area k).length area
        ≡ get_or (records_no c area (record_target c k)) (k.p1 - 1) []
    read_is = rw (was-listed, found) (sym (listed-read c.directory n area (in-area c area h n there) k.p1 (numbered t)))

    fits : (record_found c area k).start + (record_found c area k).length ≤ size (file_no c (record_target c k))
    fits = rw found (record-fits f x k.p1 (numbered t))

    short : (record_found c area k).length ≤ 178
    short = rw found (record-long f x k.p1 (numbered t) (place-shaped c.directory (sound-good c area h).directory n there.first there.last).long)

    -- as many as its length
    length-is : (record_found c area k).length ≡ length (get_or (records_no c area (record_target c k)) (k.p1 - 1) [])
    length-is =
        sym (part_length (start c.directory n + l.start) l.length area (omega (arith, fits, (lies c.directory n (length area) (in-area c area h n there)).fits)))
        ∙ ap length read_is

    -- and where it stands in the file
    own_read : part (record_found c area k).start (length (get_or (records_no c area (record_target c k)) (k.p1 - 1) [])) (extent c.directory (record_target c k) area)
        ≡ get_or (records_no c area (record_target c k)) (k.p1 - 1) []
    own_read =
        ap (λ (m : ℕ). part (record_found c area k).start m (extent c.directory (record_target c k) area)) (sym length-is)
        ∙ rw (was-listed, found) (sym (record-read f k.p1 x (numbered t)))

-- what both ask of their file, up to the length
module _ {c : Card} {area : List ℕ} {w : ℕ} {e : Effect} {s : Stepped} (r : Checked c area w e s) (random cmd : List ℕ) (low : 1 ≤ (framed cmd).p1) (right : File → ℕ) (last : ℕ)
    (Next : ℕ → Type 0) where
  abbrev k : Command
  k = framed cmd

  abbrev g : File
  g = file_no c (record_target c (framed cmd))

  asks-record :
      w ≡ first (record_checks c.session.rights (framed cmd) (record_target c (framed cmd)) (file_no c (record_target c (framed cmd))) (right (file_no c (record_target c (framed cmd)))) (record_found c area (framed cmd)) last)
      → ((there : IsFile c (record_target c (framed cmd))) (has : HasRecords (file_no c (record_target c (framed cmd)))) → (record_found c area (framed cmd)).there ≡ true
      → Rest w (last ∷ []) → Next (record_target c (framed cmd)))
      → answers.AsksRecord c area random cmd s right Next
  asks-record e f =
      check-file r random cmd (k.p2 / 8) _ _ (record { is = e }) (λ named e1.
      check r (has_records g) 0x6981 _ (has-to g) (to-has g) refl e1 (λ has e2.
      check r (opens c (right g)) 0x6982 _ (opens-asked c (right g)) (asked-opens c (right g)) refl e2 (λ o e3.
      check r (not (asks_code (right g)) || coded k) 0x6982 _ (code-to cmd (right g)) (to-code cmd (right g) o.not-never) refl e3 (λ q e4.
      check r (record_found c area k).there 0x6A83 _ (there-to c area r.card-sound k named.there has)
      (to-there c area r.card-sound k named.there has low) refl e4 (λ high e5.
      f named.there has (to-there c area r.card-sound k named.there has low high) e5)))))

-- P of both
pub record-p : (cmd : List ℕ) → (leb 1 (framed cmd).p1 && good_p2 4 (framed cmd)) ≡ true → (1 ≤ (framed cmd).p1) × RecordP 4 cmd
record-p cmd t = let q = both (leb 1 (framed cmd).p1) (good_p2 4 (framed cmd)) t in (leb-true _ _ q.0, good-p2 4 (framed cmd) q.1)

pub p-record : (cmd : List ℕ) → (1 ≤ (framed cmd).p1) × RecordP 4 cmd → (leb 1 (framed cmd).p1 && good_p2 4 (framed cmd)) ≡ true
p-record cmd q = join (le-leb 1 (framed cmd).p1 q.0) (p2-good 4 (framed cmd) q.1)

-- ---- READ RECORD, on the card that a code leaves
module _ (c : Card) (area random cmd : List ℕ) (s : Stepped) (r : Checked c area (first (read_record_checks c (record_found c area (framed cmd)) (framed cmd)))
    (did c (read_record_deed c (record_found c area (framed cmd)) (framed cmd))) s) where
  abbrev rec : Located
  rec = record_found c area (framed cmd)

  read_word : first (read_record_checks c (record_found c area (framed cmd)) (framed cmd))
      ≡ first (record_checks c.session.rights (framed cmd) (record_target c (framed cmd)) (file_no c (record_target c (framed cmd))) (file_no c (record_target c (framed cmd))).read (record_found c area (framed cmd)) (record_le_sw (record_found c area (framed cmd)) (framed cmd)))
  unfolding read_record_checks
  read_word = refl

  reads : 1 ≤ (framed cmd).p1 → answers.ReadsRecord c area random cmd s
  reads low =
      asks-record r random cmd low (λ (f : File). f.read) (record_le_sw rec (framed cmd)) _ read_word (λ there has t e.
      let d = get_or (records_no c area (record_target c (framed cmd))) ((framed cmd).p1 - 1) [] in
      subst (λ m. Ask (λ w. Refused c area w s) (((framed cmd).le ≡ 256) ⊎ ((framed cmd).le ≡ m)) (0x6C00 + m) (Left c area 0x9000 d (record_target c (framed cmd)) [] s))
      (length-is c area r.card-sound (framed cmd) there has t)
      (check r (eqb (framed cmd).le 256 || eqb (framed cmd).le rec.length) (0x6C00 + rec.length) []
      (λ z. one_of (eqb (framed cmd).le 256) (eqb (framed cmd).le rec.length) z (λ q. inl (eqb-true _ _ q)) (λ q. inr (eqb-true _ _ q)))
      (⊎_elim (λ q. rw (eq-eqb _ _ q)) (λ q. either (eqb (framed cmd).le 256) (eq-eqb _ _ q)))
      (ne_eqb (0x6C00 + rec.length) 0x9000 (λ y. omega (arith, y, short c area r.card-sound (framed cmd) there has t))) e (λ le z.
      quiet c area 0x9000 (record_target c (framed cmd)) [] (start c.directory (record_target c (framed cmd)) + rec.start) rec.length d s (serves r z.is)
      (read_is c area r.card-sound (framed cmd) there has t))))

module _ (c : Card) (area cmd random : List ℕ) (v : Sends c area cmd random ReadRecord) where
  read-record : answers.ReadRecord c area random cmd (step c area cmd random)
  unfolding rule read_record_checks record_found target
  read-record =
      contents v read_record_front read_record_checks read_record_deed refl (λ x. answers.ReadsRecord x area random cmd (step c area cmd random))
      (leb 1 (framed cmd).p1 && good_p2 4 (framed cmd)) (read-test cmd) refl (record-p cmd) (p-record cmd) (read-to cmd) (to_read cmd) (read-four cmd)
      (λ xs p q r. reads (with_credentials c xs) area random cmd (step c area cmd random) r p.0)

pub read-record-answers : ReadRecordAnswers
unfolding find rows
read-record-answers = by-either 0xB2 answers.ReadRecord ReadRecord refl refl refl read-record

-- ---- UPDATE RECORD
module _ (c : Card) (area random cmd : List ℕ) (s : Stepped) (r : Checked c area (first (update_record_checks c (record_found c area (framed cmd)) (framed cmd)))
    (did c (update_record_deed c (record_found c area (framed cmd)) (framed cmd))) s) where
  update_word : first (update_record_checks c (record_found c area (framed cmd)) (framed cmd))
      ≡ first (record_checks c.session.rights (framed cmd) (record_target c (framed cmd)) (file_no c (record_target c (framed cmd))) (file_no c (record_target c (framed cmd))).write (record_found c area (framed cmd)) (record_lc_sw (record_found c area (framed cmd)) (framed cmd)))
  unfolding update_record_checks
  update_word = refl

  module _ (there : IsFile c (record_target c (framed cmd))) (has : HasRecords (file_no c (record_target c (framed cmd)))) (t : (record_found c area (framed cmd)).there ≡ true)
      (whole : length (framed cmd).given ≡ (record_found c area (framed cmd)).length) (e : first (update_record_checks c (record_found c area (framed cmd)) (framed cmd)) ≡ 0x9000) where
    abbrev m : ℕ
    m = record_target c (framed cmd)

    abbrev h : sound c area ≡ true
    h = r.card-sound

    settled : Settled c area (storing (with_current c (record_target c (framed cmd))) (start c.directory (record_target c (framed cmd)) + (record_found c area (framed cmd)).start) (framed cmd).given) s
    settled = serves r e

    in-file : (record_found c area (framed cmd)).start + length (framed cmd).given ≤ size (file_no c (record_target c (framed cmd)))
    in-file = omega (arith, whole, fits c area r.card-sound (framed cmd) there has t)

    kept : Settled c area (storing (with_current (with_directory c (with_file c.directory (m - 1) (file_no c m))) m) (start c.directory m + (record_found c area (framed cmd)).start) (framed cmd).given) s
    kept = stored c area m (start c.directory m + (record_found c area (framed cmd)).start) (framed cmd).given s settled

    written : Written c area (record_target c (framed cmd)) s
    written = writes c area h m there (file_no c m) (record_found c area (framed cmd)).start (framed cmd).given s kept refl refl in-file

    same-file : file_no s.card (record_target c (framed cmd)) ≡ file_no c (record_target c (framed cmd))
    same-file = now-file c area h m there (file_no c m) (record_found c area (framed cmd)).start (framed cmd).given s kept refl refl in-file

    stored-run : OneRun (bytes_no c area m) (get_or (records_no c area m) ((framed cmd).p1 - 1) []) (framed cmd).given (bytes_no s.card s.area m)
    stored-run = one-run c area h m there (file_no c m) (record_found c area (framed cmd)).start (framed cmd).given s kept refl refl in-file _ (own_read c area h (framed cmd) there has t)

    replaced : records_no s.card s.area m ≡ set (records_no c area m) ((framed cmd).p1 - 1) (framed cmd).given
    replaced =
        listed-are s.card s.area r.after-sound m (record { first = there.first; last = rw written.as_many there.last })
        (rw same-file (to-has (file_no c m) has))
        ∙ rw (settled.directory-is, settled.area-is, found c area h (framed cmd) there has, was-listed c area h (framed cmd) there has)
        (listed-update c.directory m area (in-area c area h m there) (framed cmd).p1 (numbered c area h (framed cmd) there has t) (parted-sound c area h m there) (framed cmd).given
        (whole ∙ ap (λ (q : Located). q.length) (found c area h (framed cmd) there has)))

  updates : 1 ≤ (framed cmd).p1 → answers.UpdatesRecord c area random cmd s
  updates low =
      asks-record r random cmd low (λ (f : File). f.write) (record_lc_sw (record_found c area (framed cmd)) (framed cmd)) _ update_word (λ there has t e.
      let same = length-is c area r.card-sound (framed cmd) there has t in
      check r (eqb (lc (framed cmd)) (record_found c area (framed cmd)).length) 0x6700 [] (λ z. eqb-true _ _ z ∙ same)
      (λ z. eq-eqb _ _ (z ∙ sym same)) refl e (λ whole z.
      record {
        written = written there has t (whole ∙ sym same) z.is;
        file-is = same-file there has t (whole ∙ sym same) z.is;
        records-are = replaced there has t (whole ∙ sym same) z.is;
        bytes-are = stored-run there has t (whole ∙ sym same) z.is;
      }))

module _ (c : Card) (area cmd random : List ℕ) (v : Sends c area cmd random UpdateRecord) where
  update-record : answers.UpdateRecord c area random cmd (step c area cmd random)
  unfolding rule update_record_checks record_found target
  update-record =
      contents v update_record_front update_record_checks update_record_deed refl (λ x. answers.UpdatesRecord x area random cmd (step c area cmd random))
      (leb 1 (framed cmd).p1 && good_p2 4 (framed cmd)) (write-test cmd) refl (record-p cmd) (p-record cmd) (write-to cmd) (to_write cmd) (write-four cmd)
      (λ xs p q r. updates (with_credentials c xs) area random cmd (step c area cmd random) r p.0)

pub update-record-answers : UpdateRecordAnswers
unfolding find rows
update-record-answers = by-either 0xDC answers.UpdateRecord UpdateRecord refl refl refl update-record
