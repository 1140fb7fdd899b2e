-- APPEND RECORD.
use Prim.Native.Nat.{ℕ, zero, suc, ◌+◌, ◌-◌, ◌*◌, ◌/◌, ◌%◌, ◌≤◌, ◌<◌}
use mathlib.Core.Bool.{true, false, ◌&&◌, ◌||◌, not}
use mathlib.Core.List.{List, [], ◌∷◌, ◌++◌}
use mathlib.Core.Logic.{inl, inr, ⊎_elim, by_cases}
use mathlib.Core.Path.{◌≡◌, refl, sym, ap, ◌∙◌, subst}
use native.Mathlib.Omega.{arith}
use native.Mathlib.Decide.{dec_lt}
use native.Mathlib.Nat.{mod-eq_of_lt, mod_self}
use lib.Dec.{eqb, leb}
use lib.ListN.{length, take}
use lib.Seq.{take_all}
use borrow.Author.Tests.{eqb-true, eqb-false, eq-eqb, ne_eqb, leb-true, le-leb, not-true}
use Rattle.files.specs.declared.File.{File}
use Rattle.files.specs.Words.{is_zero}
use Rattle.files.specs.Rights.{asks_code}
use Rattle.files.specs.Types.{cyclic, is_variable, has_records, record_length, size, count}
use Rattle.files.specs.Part.{splice}
use Rattle.files.specs.State.{with_file}
use Rattle.files.specs.Directory.{file, start, extent}
use Rattle.files.specs.Record.{bytes_used, next_start, lead, entry, appended, grows, is_record, has_room, sound_held, appends_record, next, next_place}
use Rattle.files.specs.Listed.{records}
use Rattle.files.proofs.Checks.{both, join, split, each}
use Rattle.files.proofs.Extents.{length-records}
use Rattle.files.proofs.Lists.{knows, held-cyclic, held-places, count-cyclic, records-length}
use Rattle.files.proofs.Appends.{next-variable, entry-places, entry-variable, cyclic-room, appended-size, next_fits, next-places}
use Rattle.files.proofs.Stays.{listed-cyclic, listed-variable}
use Rattle.files.proofs.Kept.{filed}
use Rattle.files.proofs.Cycle.{next-empty, next-on, next-round}
use Rattle.rules.specs.declared.Card.{Card}
use Rattle.rules.specs.declared.Ins.TheVariants.{AppendRecord}
use Rattle.rules.specs.Words.{first}
use Rattle.rules.specs.State.{with_credentials}
use Rattle.rules.specs.Frame.{Command, framed, coded}
use Rattle.rules.specs.Target.{target, opens}
use Rattle.rules.specs.Record.{good_p2, record_target, append_front, append_checks, append_deed, appending}
use Rattle.rules.specs.List.{find, rows, rule}
use Rattle.rules.specs.Step.{did, step}
use Rattle.rules.specs.Effect.{Stepped}
use Rattle.rules.proofs.Checks.{passed, one_of}
use Rattle.rules.proofs.Good.{sound-good}
use Rattle.rules.proofs.Found as found
use Rattle.demands.specs.Ledger.{Label, size_of}
use Rattle.demands.specs.Held.{file_no, IsFile, bytes_no, records_no, label_of}
use Rattle.demands.specs.Held as held
use Rattle.demands.proofs.Named.{opens-asked, asked-opens}
use Rattle.demands.proofs.View.{size_is}
use Rattle.served.specs.Left.{Written, Stores}
use Rattle.served.specs.Answers.{WriteCase, RecordP, Grows, RecordAppended, AppendRecordAnswers, CyclicAppended, VariableAppended}
use Rattle.served.specs.Answers as answers
use Rattle.served.proofs.Frames.{some-data, write-test, write-to, to_write, write-four}
use Rattle.served.proofs.View.{in-area, held-sound, parted-sound, listed-are}
use Rattle.served.proofs.Steps.{Settled, Checked, serves, check, check-file, Sends, by-either}
use Rattle.served.proofs.Codes.{code-to, to-code, contents}
use Rattle.served.proofs.Writes.{writes, now-file, stores}

-- P2 low bits and SFI
pub good-p2 : (low : ℕ) (k : Command) → good_p2 low k ≡ true → (k.p2 % 8 ≡ low) × (k.p2 / 8 ≡ 31 → ⊥)
good-p2 low k h =
    let e = both (eqb (k.p2 % 8) low) (not (eqb (k.p2 / 8) 31)) h in (eqb-true _ _ e.0, eqb-false _ _ (not-true (eqb (k.p2 / 8) 31) e.1))

pub p2-good : (low : ℕ) (k : Command) → (k.p2 % 8 ≡ low) × (k.p2 / 8 ≡ 31 → ⊥) → good_p2 low k ≡ true
p2-good low k q = join (eq-eqb (k.p2 % 8) low q.0) (rw (ne_eqb (k.p2 / 8) 31 q.1))

-- types that grow
pub grows-to : (f : File) → grows f ≡ true → Grows f
grows-to f h = one_of (eqb f.kind cyclic) (is_variable f) h (λ e. inl (eqb-true _ _ e)) (λ e. inr (eqb-true _ _ e))

pub to-grows : (f : File) → Grows f → grows f ≡ true
to-grows f = ⊎_elim (λ e. rw e) (λ e. rw e)

has-records : (f : File) → Grows f → has_records f ≡ true
has-records f = ⊎_elim (λ e. rw e) (λ e. rw e)

-- the length of a new record
pub lc-to : (f : File) (n : ℕ) → is_record f n ≡ true → (f.kind ≡ 0x2E → n ≡ f.size2) × (f.kind ≡ 0x2C → n ≤ 178)
unfolding is_record
lc-to f n h = (
  λ e. let v : is_variable f ≡ false = rw e in eqb-true n (record_length f) (rw v at h) ∙ length-records f (rw e),
  λ e. let v : is_variable f ≡ true = rw e in leb-true _ _ (each (leb 1 n ∷ leb n 178 ∷ []) (rw v at h)).1,
)

pub to-lc : (f : File) (n : ℕ) → Grows f → 1 ≤ n → (f.kind ≡ 0x2E → n ≡ f.size2) × (f.kind ≡ 0x2C → n ≤ 178) → is_record f n ≡ true
unfolding is_record
to-lc f n g some q =
    ⊎_elim (λ e. let v : is_variable f ≡ false = rw e in rw v (eq-eqb n (record_length f) (q.0 e ∙ sym (length-records f (rw e)))))
    (λ e. let v : is_variable f ≡ true = rw e in rw v (join (le-leb 1 n some) (le-leb n 178 (q.1 e)))) g

-- room for it
pub room-to : (f : File) (n : ℕ) → has_room f n ≡ true → f.kind ≡ 0x2C → held.bytes_used f + 1 + n ≤ size_of (label_of f)
unfolding has_room bytes_used
room-to f n h e =
    let v : is_variable f ≡ true = rw e in
    let z : lead f ≡ 1 = rw v in
    let m : next_start f + lead f + n ≤ size f = leb-true _ _ h in
    omega (arith, m, z, next-variable f v, size_is f)

pub to_room : (f : File) (n : ℕ) → Grows f → sound_held f ≡ true → is_record f n ≡ true → (f.kind ≡ 0x2C → held.bytes_used f + 1 + n ≤ size_of (label_of f)) → has_room f n ≡ true
unfolding has_room bytes_used
to_room f n g s r q =
    ⊎_elim (λ e. cyclic-room f n (eq-eqb _ _ e) s r)
    (λ e. let v : is_variable f ≡ true = rw e in
    let z : lead f ≡ 1 = rw v in
    le-leb (next_start f + lead f + n) (size f) (omega (arith, q e, z, next-variable f v, size_is f))) g

-- an append changes nothing of a file's label
label_same : (f : File) (m : ℕ) → label_of (appended f m) ≡ label_of f
unfolding appended
label_same f m = split (λ x. label_of x ≡ label_of f) (is_variable f) (λ e. refl) (λ e. refl)

-- the newest place and the used bytes afterwards
new-place : (f : File) (m : ℕ) → is_variable f ≡ false → (appended f m).newest ≡ next_place f
unfolding appended
new-place f m v = rw v

place-empty : (f : File) → f.held ≡ 0 → next_place f ≡ 0
unfolding next_place
place-empty f z = next-empty (count f) f.held f.newest z

next-is : (count held newest : ℕ) → 1 ≤ held → newest < count → next count held newest ≡ (newest + 1) % count
next-is count held newest some l =
    by_cases (dec_lt (newest + 1) count) (λ m. next-on count held newest (λ z. omega (arith, z, some)) m ∙ sym (mod-eq_of_lt m))
    (λ m. let e : newest + 1 ≡ count = omega arith in
    next-round count held newest (λ z. omega (arith, z, some)) (omega arith) ∙ sym (ap (λ i. i % count) e ∙ mod_self count))

place-next : (f : File) → count f ≡ f.size1 → 1 ≤ f.held → f.newest < f.size1 → next_place f ≡ (f.newest + 1) % f.size1
unfolding next_place
place-next f m some l = ap (λ i. next i f.held f.newest) m ∙ next-is f.size1 f.held f.newest some l

used-bytes : (f : File) → bytes_used f ≡ held.bytes_used f
unfolding bytes_used
used-bytes f = refl

new-used : (f : File) (m : ℕ) → is_variable f ≡ true → held.bytes_used (appended f m) ≡ held.bytes_used f + 1 + m
unfolding appended bytes_used
new-used f m v = rw v (omega arith)

-- as many as there are places, of the new one and the old ones
take-newest : (m : ℕ) (r : List ℕ) (old : List (List ℕ)) → 1 ≤ m → take m (r ∷ old) ≡ r ∷ take (m - 1) old
take-newest zero r old l = absurd (omega arith)
take-newest (suc m) r old l = let e : suc m - 1 ≡ m = omega arith in rw e

-- on the card that a code leaves
module _ (c : Card) (area random cmd : List ℕ) (s : Stepped) (r : Checked c area (first (append_checks c (framed cmd))) (did c (append_deed c (framed cmd))) s) where
  abbrev k : Command
  k = framed cmd

  abbrev n : ℕ
  n = record_target c (framed cmd)

  abbrev f : File
  f = file_no c (record_target c (framed cmd))

  abbrev d : List ℕ
  d = (framed cmd).given

  module _ (there : IsFile c (record_target c (framed cmd))) (g : Grows (file_no c (record_target c (framed cmd)))) (e : first (append_checks c (framed cmd)) ≡ 0x9000) where
    takes-it : appends_record f (length d) ≡ true
    takes-it = found.appends c area r.card-sound (framed cmd) there.first (passed (append_checks c (framed cmd)) e)

    settled : Settled c area (appending c n d) s
    settled = serves r e

    written : Written c area (record_target c (framed cmd)) s
    written =
        writes c area r.card-sound n there (appended f (length d)) (next_start f) (entry f d) s settled (label_same f (length d)) (appended-size f (length d))
        (next_fits f d takes-it)

    now-is : file_no s.card n ≡ appended f (length d)
    now-is = now-file c area r.card-sound n there (appended f (length d)) (next_start f) (entry f d) s settled (label_same f (length d)) (appended-size f (length d))
        (next_fits f d takes-it)

    there-still : IsFile s.card n
    there-still = record { first = there.first; last = rw written.as_many there.last }

    -- the list of records as the files' layer has it, afterwards and before
    now-listed : records_no s.card s.area n ≡ records (file (with_file c.directory (n - 1) (appended f (length d))) n)
        (extent (with_file c.directory (n - 1) (appended f (length d))) n (splice area (start c.directory n + next_start f) (entry f d)))
    now-listed =
        listed-are s.card s.area r.after-sound n there-still (has-records (file_no s.card n) grown)
        ∙ rw (settled.directory-is, settled.area-is)
      where
        grown : Grows (file_no s.card n)
        grown = rw (ap (λ (x : Label). x.kind) written.label_is) g

    was-listed : records_no c area n ≡ records f (extent c.directory n area)
    was-listed = listed-are c area r.card-sound n there (has-records f g)

    -- 2E
    module _ (kind : f.kind ≡ 0x2E) where
      newest : records_no s.card s.area n ≡ take f.size1 (d ∷ records_no c area n)
      newest =
          now-listed
          ∙ listed-cyclic c.directory n area (in-area c area r.card-sound n there) d (filed c.directory (sound-good c area r.card-sound).directory).places takes-it (rw kind)
          ∙ rw (count-cyclic f (eq-eqb _ _ kind), was-listed)

      as-many-held : length (records_no c area n) ≡ f.held
      as-many-held =
          ap length was-listed ∙ records-length f (extent c.directory n area) ∙ held-places f (extent c.directory n area) (rw kind) ∙ held-cyclic f (eq-eqb _ _ kind)

      not_full : f.held < f.size1 → records_no s.card s.area n ≡ d ∷ records_no c area n
      not_full l = newest ∙ take_all f.size1 (d ∷ records_no c area n) (omega (arith, l, as-many-held))

      full : f.held ≡ f.size1 → records_no s.card s.area n ≡ d ∷ take (f.size1 - 1) (records_no c area n)
      full q =
          let w = knows f (eq-eqb _ _ kind) (held-sound c area r.card-sound n there) in
          newest ∙ take-newest f.size1 d (records_no c area n) (omega (arith, w.newest, count-cyclic f (eq-eqb _ _ kind)))

    -- 2C
    last : f.kind ≡ 0x2C → records_no s.card s.area n ≡ records_no c area n ++ (d ∷ [])
    last kind =
        now-listed
        ∙ listed-variable c.directory n area (in-area c area r.card-sound n there) d (filed c.directory (sound-good c area r.card-sound).directory).places takes-it (rw kind)
        (parted-sound c area r.card-sound n there)
        ∙ rw was-listed

    stored : Stores (bytes_no c area n) (next_start f) (entry f d) (bytes_no s.card s.area n)
    stored =
        stores c area r.card-sound n there (appended f (length d)) (next_start f) (entry f d) s settled (label_same f (length d)) (appended-size f (length d))
        (next_fits f d takes-it)

    cyclic-appended : f.kind ≡ 0x2E → CyclicAppended c area random cmd s (record_target c (framed cmd))
    cyclic-appended kind =
        let v : is_variable f ≡ false = rw kind in
        let w = knows f (eq-eqb _ _ kind) (held-sound c area r.card-sound n there) in
        let m = count-cyclic f (eq-eqb _ _ kind) in
        let newest-is : (file_no s.card n).newest ≡ next_place f = ap (λ (x : File). x.newest) now-is ∙ new-place f (length d) v in
        record {
          not_full = not_full kind;
          full = full kind;
          in-place-0 = λ z. newest-is ∙ place-empty f z;
          in-the-next = λ z. newest-is ∙ place-next f m z (omega (arith, w.newest, m));
          bytes-are =
              subst (λ i. Stores (bytes_no c area n) i d (bytes_no s.card s.area n)) (next-places f v ∙ ap (λ i. next_place f * i) (length-records f (rw kind)) ∙ ap (λ i. i * f.size2) (sym newest-is))
              (subst (λ (ys : List ℕ). Stores (bytes_no c area n) (next_start f) ys (bytes_no s.card s.area n)) (entry-places f v d) stored);
        }

    variable-appended : f.kind ≡ 0x2C → VariableAppended c area random cmd s (record_target c (framed cmd))
    variable-appended kind =
        let v : is_variable f ≡ true = rw kind in
        record {
          after-the-last = last kind;
          used-are = ap held.bytes_used now-is ∙ new-used f (length d) v;
          bytes-are =
              subst (λ i. Stores (bytes_no c area n) i (length d ∷ d) (bytes_no s.card s.area n)) (next-variable f v ∙ used-bytes f)
              (subst (λ (ys : List ℕ). Stores (bytes_no c area n) (next_start f) ys (bytes_no s.card s.area n)) (entry-variable f v d) stored);
        }

    appended-is : RecordAppended c area random cmd s (record_target c (framed cmd))
    appended-is = record { written = written; cyclic = cyclic-appended; variable = variable-appended }

  appends : WriteCase cmd → answers.AppendsRecord c area random cmd s
  unfolding append_checks
  appends case =
      check-file r random cmd (k.p2 / 8) _ _ (record { is = refl }) (λ named e1.
      check r (grows f) 0x6981 _ (grows-to f) (to-grows f) refl e1 (λ g e2.
      check r (opens c f.write) 0x6982 _ (opens-asked c f.write) (asked-opens c f.write) refl e2 (λ o e3.
      check r (not (asks_code f.write) || coded k) 0x6982 _ (code-to cmd f.write) (to-code cmd f.write o.not-never) refl e3 (λ q e4.
      check r (is_record f (length d)) 0x6700 _ (lc-to f (length d)) (to-lc f (length d) g (some-data cmd case)) refl e4 (λ lc e5.
      check r (has_room f (length d)) 0x6A84 [] (room-to f (length d))
      (to_room f (length d) g (held-sound c area r.card-sound n named.there) (to-lc f (length d) g (some-data cmd case) lc)) refl e5 (λ room e6.
      appended-is named.there g e6.is))))))

pub append-p : (cmd : List ℕ) → (is_zero (framed cmd).p1 && good_p2 0 (framed cmd)) ≡ true → ((framed cmd).p1 ≡ 0) × RecordP 0 cmd
append-p cmd t = let q = both (is_zero (framed cmd).p1) (good_p2 0 (framed cmd)) t in (eqb-true _ _ q.0, good-p2 0 (framed cmd) q.1)

pub p-append : (cmd : List ℕ) → ((framed cmd).p1 ≡ 0) × RecordP 0 cmd → (is_zero (framed cmd).p1 && good_p2 0 (framed cmd)) ≡ true
p-append cmd q = join (eq-eqb _ _ q.0) (p2-good 0 (framed cmd) q.1)

module _ (c : Card) (area cmd random : List ℕ) (v : Sends c area cmd random AppendRecord) where
  append-record : answers.AppendRecord c area random cmd (step c area cmd random)
  unfolding rule append_checks target
  append-record =
      contents v append_front (λ c l k. append_checks c k) (λ c l k. append_deed c k) refl (λ x. answers.AppendsRecord x area random cmd (step c area cmd random))
      (is_zero (framed cmd).p1 && good_p2 0 (framed cmd)) (write-test cmd) refl (append-p cmd) (p-append cmd) (write-to cmd) (to_write cmd) (write-four cmd)
      (λ xs p q r. appends (with_credentials c xs) area random cmd (step c area cmd random) r q)

pub append-record-answers : AppendRecordAnswers
unfolding find rows
append-record-answers = by-either 0xE2 answers.AppendRecord AppendRecord refl refl refl append-record
