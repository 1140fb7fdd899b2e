-- READ BINARY and UPDATE BINARY.
use Prim.Native.Nat.{ℕ, ◌+◌, ◌-◌, ◌≤◌, ◌<◌, min}
use mathlib.Core.Bool.{true, ◌||◌, not}
use mathlib.Core.List.{List, [], ◌∷◌}
use mathlib.Core.Logic.{◌⊎◌, inl, inr, ⊎_elim, by_cases}
use mathlib.Core.Path.{◌≡◌, refl, sym, ap, ◌∙◌}
use native.Mathlib.Decide.{dec_le, ℕ_discrete}
use native.Mathlib.Omega.{arith}
use lib.Dec.{eqb, leb, ltb}
use lib.ListN.{length, take, drop, length-drop}
use lib.Seq.{take_all}
use borrow.Author.Tests.{eqb-true, eq-eqb, ne_eqb, leb-true, le-leb, ltb-true, lt-ltb}
use Rattle.files.specs.declared.File.{File}
use Rattle.files.specs.Part.{part}
use Rattle.files.specs.State.{with_file}
use Rattle.files.specs.Rights.{asks_code}
use Rattle.files.specs.Types.{binary, size}
use Rattle.files.specs.Directory.{start, extent}
use Rattle.files.proofs.Checks.{both, join}
use Rattle.files.proofs.Stays.{extent-part}
use Rattle.rules.specs.declared.Card.{Card}
use Rattle.rules.specs.declared.Ins.TheVariants.{ReadBinary, UpdateBinary}
use Rattle.rules.specs.Words.{unless, first}
use Rattle.rules.specs.State.{with_current, with_directory, with_credentials}
use Rattle.rules.specs.Sound.{sound}
use Rattle.rules.specs.Frame.{Command, framed, lc, coded}
use Rattle.rules.specs.Effect.{Effect, storing, Stepped}
use Rattle.rules.specs.Binary.{by_sfi, offset, binary_sfi, binary_target, binary_checks, read_count, read_binary_front, read_binary_checks, read_binary_deed, update_binary_front, update_binary_checks, update_binary_deed}
use Rattle.rules.specs.Target.{target, opens}
use Rattle.rules.specs.List.{find, rows, rule}
use Rattle.rules.specs.Step.{did, step}
use Rattle.rules.proofs.Checks.{one_of, either}
use Rattle.demands.specs.Held.{file_no, IsFile, bytes_no}
use Rattle.demands.proofs.Named.{opens-asked, asked-opens}
use Rattle.demands.proofs.View.{size_is, bytes-are}
use Rattle.served.specs.Answers.{BinaryUpdated, ReadBinaryAnswers, UpdateBinaryAnswers}
use Rattle.served.specs.Answers as answers
use Rattle.served.proofs.View.{in-area, extent-length}
use Rattle.served.proofs.Frames.{read-test, read-to, to_read, read-four, write-test, write-to, to_write, write-four}
use Rattle.served.proofs.Steps.{Settled, quiet, Rest, Checked, serves, check, check-file, Sends, by-either}
use Rattle.served.proofs.Codes.{code-to, to-code, contents}
use Rattle.served.proofs.Writes.{stored, writes, now-file, stores}

-- P1 and P2
module _ (k : Command) where
  pub p-to : (ltb k.p1 0x80 || by_sfi k) ≡ true → (k.p1 < 0x80) ⊎ ((0x81 ≤ k.p1) × (k.p1 ≤ 0x9E))
  p-to t =
      one_of (ltb k.p1 0x80) (by_sfi k) t (λ e. inl (ltb-true _ _ e))
      (λ e. let q = both (leb 0x81 k.p1) (leb k.p1 0x9E) e in inr (leb-true _ _ q.0, leb-true _ _ q.1))

  pub to-p : (k.p1 < 0x80) ⊎ ((0x81 ≤ k.p1) × (k.p1 ≤ 0x9E)) → (ltb k.p1 0x80 || by_sfi k) ≡ true
  to-p = ⊎_elim (λ l. rw (lt-ltb _ _ l)) (λ q. either (ltb k.p1 0x80) (join (le-leb 0x81 k.p1 q.0) (le-leb k.p1 0x9E q.1)))

-- what both ask of their file, up to the length
module _ {c : Card} {area : List ℕ} {w : ℕ} {e : Effect} {s : Stepped} (r : Checked c area w e s) (random cmd : List ℕ) (right : File → ℕ) (count : ℕ) (Next : ℕ → Type 0) where
  abbrev k : Command
  k = framed cmd

  abbrev f : File
  f = file_no c (binary_target c (framed cmd))

  asks-binary :
      w ≡ first (binary_checks c.session.rights (framed cmd) (binary_target c (framed cmd)) (file_no c (binary_target c (framed cmd))) (right (file_no c (binary_target c (framed cmd)))) (offset (framed cmd)) count)
      → ((there : IsFile c (binary_target c (framed cmd))) → offset (framed cmd) < size (file_no c (binary_target c (framed cmd)))
      → Rest w (unless (leb (offset (framed cmd) + count) (size (file_no c (binary_target c (framed cmd))))) 0x6700 ∷ []) → Next (binary_target c (framed cmd)))
      → answers.AsksBinary c area random cmd s right Next
  asks-binary e g =
      check-file r random cmd (binary_sfi k) _ _ (record { is = e }) (λ named e1.
      check r (eqb f.kind binary) 0x6981 _ (eqb-true _ _) (eq-eqb _ _) refl e1 (λ kind e2.
      check r (opens c (right f)) 0x6982 _ (opens-asked c (right f)) (asked-opens c (right f)) refl e2 (λ o e3.
      check r (not (asks_code (right f)) || coded k) 0x6982 _ (code-to cmd (right f)) (to-code cmd (right f) o.not-never) refl e3 (λ q e4.
      check r (ltb (offset k) (size f)) 0x6A84 _ (λ t. rw (size_is f) (ltb-true _ _ t)) (λ l. lt-ltb _ _ (rw (size_is f) at l)) refl e4 (λ l e5.
      g named.there (rw (size_is f) at l) e5)))))

-- as many as there are
take-least : (m : ℕ) (l : List ℕ) → take (min m (length l)) l ≡ take m l
take-least m l =
    by_cases (dec_le m (length l)) (λ z. let e : min m (length l) ≡ m = omega arith in rw e)
    (λ z. let e : min m (length l) ≡ length l = omega arith in rw e (take_all (length l) l (omega arith) ∙ sym (take_all m l (omega arith))))

-- ---- READ BINARY
all-counted : (f : File) (k : Command) → k.le ≡ 256 → read_count f k ≡ min 256 (size f - offset k)
unfolding read_count
all-counted f k e = rw (eq-eqb k.le 256 e)

some-counted : (f : File) (k : Command) → (k.le ≡ 256 → ⊥) → read_count f k ≡ k.le
unfolding read_count
some-counted f k o = rw (ne_eqb k.le 256 o)

module _ (c : Card) (area : List ℕ) (h : sound c area ≡ true) (k : Command) (there : IsFile c (binary_target c k)) (low : offset k < size (file_no c (binary_target c k))) where
  abbrev n : ℕ
  n = binary_target c k

  abbrev x : List ℕ
  x = extent c.directory (binary_target c k) area

  abbrev z : ℕ
  z = size (file_no c (binary_target c k))

  count-to : leb (offset k + read_count (file_no c (binary_target c k)) k) (size (file_no c (binary_target c k))) ≡ true
      → (k.le ≡ 256) ⊎ (offset k + k.le ≤ size (file_no c (binary_target c k)))
  unfolding read_count
  count-to t =
      by_cases (ℕ_discrete k.le 256) (λ e. inl e)
      (λ o. inr (leb-true (offset k + k.le) z (rw (ne_eqb k.le 256 o) at t)))

  to-count : (k.le ≡ 256) ⊎ (offset k + k.le ≤ size (file_no c (binary_target c k)))
      → leb (offset k + read_count (file_no c (binary_target c k)) k) (size (file_no c (binary_target c k))) ≡ true
  unfolding read_count
  to-count q =
      by_cases (ℕ_discrete k.le 256) (λ e. rw (eq-eqb k.le 256 e) (le-leb (offset k + min 256 (z - offset k)) z (omega (arith, low))))
      (λ o. rw (ne_eqb k.le 256 o) (le-leb (offset k + k.le) z (⊎_elim (λ e. absurd (o e)) (λ l. l) q)))

  -- the bytes shown
  shown : (k.le ≡ 256) ⊎ (offset k + k.le ≤ size (file_no c (binary_target c k)))
      → part (start c.directory (binary_target c k) + offset k) (read_count (file_no c (binary_target c k)) k) area ≡ take k.le (drop (offset k) (bytes_no c area (binary_target c k)))
  unfolding part
  shown q =
      let fits = leb-true (offset k + read_count (file_no c n) k) z (to-count q) in
      sym (extent-part c.directory n area (in-area c area h n there) (offset k) (read_count (file_no c n) k) fits)
      ∙ as_many
      ∙ ap (λ (b : List ℕ). take k.le (drop (offset k) b)) (sym (bytes-are c area n))
    where
      left : length (drop (offset k) x) ≡ z - offset k
      left = length-drop (offset k) x ∙ ap (λ m. m - offset k) (extent-length c area h n there)

      as_many : take (read_count (file_no c n) k) (drop (offset k) x) ≡ take k.le (drop (offset k) x)
      as_many =
          by_cases (ℕ_discrete k.le 256)
          (λ e. ap (λ m. take m (drop (offset k) x)) (counted-all e) ∙ take-least 256 (drop (offset k) x) ∙ ap (λ m. take m (drop (offset k) x)) (sym e))
          (λ o. ap (λ m. take m (drop (offset k) x)) (counted-some o))
        where
          counted-all : k.le ≡ 256 → read_count (file_no c n) k ≡ min 256 (length (drop (offset k) x))
          counted-all e = all-counted (file_no c n) k e ∙ ap (min 256) (sym left)

          counted-some : (k.le ≡ 256 → ⊥) → read_count (file_no c n) k ≡ k.le
          counted-some o = some-counted (file_no c n) k o

-- on the card that a code leaves
module _ (c : Card) (area random cmd : List ℕ) (s : Stepped)
    (r : Checked c area (first (read_binary_checks c (framed cmd))) (did c (read_binary_deed c (framed cmd))) s) where
  abbrev t : ℕ
  t = binary_target c (framed cmd)

  abbrev at : ℕ
  at = offset (framed cmd)

  read_word : first (read_binary_checks c (framed cmd))
      ≡ first (binary_checks c.session.rights (framed cmd) (binary_target c (framed cmd)) (file_no c (binary_target c (framed cmd))) (file_no c (binary_target c (framed cmd))).read (offset (framed cmd)) (read_count (file_no c (binary_target c (framed cmd))) (framed cmd)))
  unfolding read_binary_checks
  read_word = refl

  reads : answers.ReadsBinary c area random cmd s
  reads =
      asks-binary r random cmd (λ (f : File). f.read) (read_count (file_no c t) (framed cmd)) _ read_word (λ there low e.
      check r (leb (at + read_count (file_no c t) (framed cmd)) (size (file_no c t))) 0x6700 []
      (λ z. rw (size_is (file_no c t)) (count-to c area r.card-sound (framed cmd) there low z))
      (λ q. to-count c area r.card-sound (framed cmd) there low (rw (size_is (file_no c t)) at q)) refl e (λ q z.
      quiet c area 0x9000 t [] (start c.directory t + at) (read_count (file_no c t) (framed cmd)) _ s (serves r z.is)
      (shown c area r.card-sound (framed cmd) there low (rw (size_is (file_no c t)) at q))))

module _ (c : Card) (area cmd random : List ℕ) (v : Sends c area cmd random ReadBinary) where
  read-binary : answers.ReadBinary c area random cmd (step c area cmd random)
  unfolding rule read_binary_checks target
  read-binary =
      contents v read_binary_front (λ c l k. read_binary_checks c k) (λ c l k. read_binary_deed c k) refl (λ x. answers.ReadsBinary x area random cmd (step c area cmd random))
      (ltb (framed cmd).p1 0x80 || by_sfi (framed cmd)) (read-test cmd) refl (p-to (framed cmd)) (to-p (framed cmd)) (read-to cmd) (to_read cmd) (read-four cmd)
      (λ xs p q r. reads (with_credentials c xs) area random cmd (step c area cmd random) r)

pub read-binary-answers : ReadBinaryAnswers
unfolding find rows
read-binary-answers = by-either 0xB0 answers.ReadBinary ReadBinary refl refl refl read-binary

-- ---- UPDATE BINARY
module _ (c : Card) (area random cmd : List ℕ) (s : Stepped)
    (r : Checked c area (first (update_binary_checks c (framed cmd))) (did c (update_binary_deed c (framed cmd))) s) where
  update_word : first (update_binary_checks c (framed cmd))
      ≡ first (binary_checks c.session.rights (framed cmd) (binary_target c (framed cmd)) (file_no c (binary_target c (framed cmd))) (file_no c (binary_target c (framed cmd))).write (offset (framed cmd)) (lc (framed cmd)))
  unfolding update_binary_checks
  update_word = refl

  module _ (there : IsFile c (binary_target c (framed cmd))) (fits : offset (framed cmd) + length (framed cmd).given ≤ size (file_no c (binary_target c (framed cmd))))
      (e : first (update_binary_checks c (framed cmd)) ≡ 0x9000) where
    abbrev m : ℕ
    m = binary_target c (framed cmd)

    abbrev d : List ℕ
    d = (framed cmd).given

    stores-it : Settled c area (storing (with_current (with_directory c (with_file c.directory (m - 1) (file_no c m))) m) (start c.directory m + offset (framed cmd)) d) s
    stores-it = stored c area m (start c.directory m + offset (framed cmd)) d s (serves r e)

    updated : BinaryUpdated c area random cmd s (binary_target c (framed cmd))
    updated = record {
      written = writes c area r.card-sound m there (file_no c m) (offset (framed cmd)) d s stores-it refl refl fits;
      file-is = now-file c area r.card-sound m there (file_no c m) (offset (framed cmd)) d s stores-it refl refl fits;
      bytes-are = stores c area r.card-sound m there (file_no c m) (offset (framed cmd)) d s stores-it refl refl fits;
    }

  updates : answers.UpdatesBinary c area random cmd s
  updates =
      let file = file_no c (binary_target c (framed cmd)) in
      asks-binary r random cmd (λ (f : File). f.write) (lc (framed cmd)) _ update_word (λ there low e.
      check r (leb (offset (framed cmd) + lc (framed cmd)) (size file)) 0x6700 [] (λ z. rw (size_is file) (leb-true _ _ z))
      (λ q. le-leb _ _ (rw (size_is file) at q)) refl e (λ q z. updated there (rw (size_is file) at q) z.is))

module _ (c : Card) (area cmd random : List ℕ) (v : Sends c area cmd random UpdateBinary) where
  update-binary : answers.UpdateBinary c area random cmd (step c area cmd random)
  unfolding rule update_binary_checks target
  update-binary =
      contents v update_binary_front (λ c l k. update_binary_checks c k) (λ c l k. update_binary_deed c k) refl (λ x. answers.UpdatesBinary x area random cmd (step c area cmd random))
      (ltb (framed cmd).p1 0x80 || by_sfi (framed cmd)) (write-test cmd) refl (p-to (framed cmd)) (to-p (framed cmd)) (write-to cmd) (to_write cmd) (write-four cmd)
      (λ xs p q r. updates (with_credentials c xs) area random cmd (step c area cmd random) r)

pub update-binary-answers : UpdateBinaryAnswers
unfolding find rows
update-binary-answers = by-either 0xD6 answers.UpdateBinary UpdateBinary refl refl refl update-binary
