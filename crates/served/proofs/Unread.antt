-- An answer depends on a file's bytes only where they are read, or a record is updated, by right.
use Prim.Native.Nat.{ℕ, ◌≤◌}
use mathlib.Core.Bool.{Bool, true, false, cond, ◌||◌}
use mathlib.Core.List.{List, []}
use mathlib.Core.Logic.{◌⊎◌, inl, inr, ⊎_elim, by_cases}
use mathlib.Core.Path.{◌≡◌, refl, subst}
use native.Mathlib.Decide.{ℕ_discrete}
use native.Mathlib.Omega.{arith}
use lib.Dec.{eqb, leb}
use lib.ListN.{length}
use borrow.Author.Tests.{eqb-true, eq-eqb, ne_eqb, leb-true, le-leb}
use Rattle.files.specs.declared.File.{File}
use Rattle.rules.specs.declared.Card.{Card}
use Rattle.rules.specs.declared.Ins.{Ins}
use Rattle.rules.specs.declared.Ins.TheVariants.{Select, ReadBinary, UpdateBinary, ReadRecord, UpdateRecord, AppendRecord, Verify, Authenticate, ChangePin, ReloadPin, CreateFile, GetChallenge, GetResponse, Unlisted}
use Rattle.rules.specs.Words.{or_else}
use Rattle.rules.specs.State.{waiting}
use Rattle.rules.specs.Sound.{sound}
use Rattle.rules.specs.Frame.{Command, framed}
use Rattle.rules.specs.Record.{record_found}
use Rattle.rules.specs.List.{listed, rule}
use Rattle.rules.specs.Response.{fetch_count, fetches, gives, unchanged, fetch_sw, fetched}
use Rattle.rules.specs.Step.{checks, kept, sw_of, step}
use Rattle.rules.specs.Effect.{Stepped}
use Rattle.rules.specs.Calls.{reset}
use Rattle.rules.proofs.Checks.{one_of, either as one-or}
use Rattle.demands.specs.Soundness.{Bytes}
use Rattle.demands.specs.Framing.{EitherClass, NamedBy, Sent}
use Rattle.demands.specs.Held.{file_no, bytes_no, Named, Opens, AsksCode, HeldOn, binary_sfi, record_sfi}
use Rattle.demands.specs.Files.{Addresses, ReadsFrom}
use Rattle.demands.proofs.Framing.{listed-by-bytes}
use Rattle.served.specs.One.{SameAnswer}
use Rattle.served.specs.Answers.{WithCode, CodeAgrees, EitherAnswers}
use Rattle.served.specs.Answers as answers
use Rattle.served.specs.Hidden.{Entitled, BytesHidden, ResetHidden}
use Rattle.served.proofs.Select.{select-answers}
use Rattle.served.proofs.Binary.{read-binary-answers, update-binary-answers}
use Rattle.served.proofs.Records.{read-record-answers, update-record-answers}
use Rattle.served.proofs.Append.{append-record-answers}
use Rattle.served.proofs.Credentials.{verify-answers, change-pin-answers, reload-pin-answers, authenticate-answers, get-challenge-answers}
use Rattle.served.proofs.Create.{create-file-answers}
use Rattle.served.proofs.Unknown.{refused-by, good-class, unknown-answers}
use Rattle.served.proofs.One as one
use Rattle.served.proofs.Response.{get-response-answers}

module _ (c : Card) (area other cmd random : List ℕ) (n : ℕ) (h : sound c area ≡ true) (g : sound c other ≡ true) (la : length area ≡ 4096) (lo : length other ≡ 4096)
    (l : length random ≡ 16) (b : Bytes cmd) (alike : (m : ℕ) → 1 ≤ m → (m ≡ n → ⊥) → bytes_no c area m ≡ bytes_no c other m) where
  abbrev k : Command
  k = framed cmd

  abbrev s : Stepped
  s = step c area cmd random

  abbrev t : Stepped
  t = step c other cmd random

  -- what is shown of each command
  abbrev R : Type 0
  R =
      SameAnswer s t
      ⊎ ((ReadsFrom c k n × Entitled c (file_no c n).read cmd) ⊎ (Addresses c k 0xDC (record_sfi k) n × Entitled c (file_no c n).write cmd))

  -- another file has the same bytes; this one is addressed by right
  seen : (ins sfi : ℕ) (right : File → ℕ) → EitherClass k.cla → k.ins ≡ ins → (Addresses c k ins sfi n → Entitled c (right (file_no c n)) cmd → R) → (m : ℕ) → Named c sfi m → Opens (HeldOn c) (right (file_no c m))
      → (AsksCode (right (file_no c m)) → WithCode cmd) → (WithCode cmd → CodeAgrees c cmd) → (bytes_no c area m ≡ bytes_no c other m → R) → R
  seen ins sfi right c0 i0 show m w o asked code f =
      by_cases (ℕ_discrete m n)
      (λ z. show (record { class-is = c0; instruction-is = i0; named = subst (Named c sfi) z w })
      (subst (λ y. Entitled c (right (file_no c y)) cmd) z (record { opens = o; code-asked = asked; code-right = code })))
      (λ d. f (alike m w.there.first d))

  sent : (cla ins : ℕ) → (k.case ≡ 0 → ⊥) → k.cla ≡ cla → k.ins ≡ ins → Sent cla ins cmd
  sent cla ins f c0 i0 = record { good-frame = f; class-is = c0; instruction-is = i0 }

  -- GET RESPONSE gives what waits, whatever the area
  fetched-same : fetches c k ≡ true → SameAnswer s t
  unfolding step fetched
  fetched-same e = rw e (go (eqb (fetch_sw c k) 0x9000))
    where
      go : (y : Bool) → SameAnswer (cond y (gives c area (fetch_count (length (waiting c)) k)) (unchanged c area (fetch_sw c k))) (cond y (gives c other (fetch_count (length (waiting c)) k)) (unchanged c other (fetch_sw c k)))
      go true = record { sw-is = refl; bytes-are = refl; waiting-are = refl }
      go false = record { sw-is = refl; bytes-are = refl; waiting-are = refl }

  -- what is not listed is refused, whatever the area
  unlisted-same : kept (listed k) c k ≡ c → ((x : List ℕ) → sw_of (listed k) c (record_found c x k) k ≡ 0x6D00) → SameAnswer s t
  unlisted-same keeps e = go (fetches c k) refl
    where
      go : (y : Bool) → fetches c k ≡ y → SameAnswer s t
      go true z = fetched-same z
      go false z =
          one.says_same c area other random cmd s t h (SameAnswer s t) (λ x. x) 0x6D00 [] (refused-by c area cmd random h l b z 0x6D00 (λ y. omega (arith, y)) keeps (e area)).says
          (refused-by c other cmd random g l b z 0x6D00 (λ y. omega (arith, y)) keeps (e other)).says

  -- a command that may have a code, by its class
  either : (ins : ℕ) (Paper : Card → List ℕ → List ℕ → List ℕ → Stepped → Type 0) → EitherAnswers ins Paper → (k.case ≡ 0 → ⊥) → EitherClass k.cla → k.ins ≡ ins
      → (Paper c area random cmd s → Paper c other random cmd t → R) → R
  either ins Paper claim f class i0 go =
      ⊎_elim (λ z. let v = sent 0x00 ins f z i0 in go (claim.0 c area cmd random h la l b v) (claim.0 c other cmd random g lo l b v))
      (λ z. let v = sent 0x04 ins f z i0 in go (claim.1 c area cmd random h la l b v) (claim.1 c other cmd random g lo l b v)) class

  by_name : (k.case ≡ 0 → ⊥) → (k.cla ≡ 0x00) ⊎ ((k.cla ≡ 0x80) ⊎ (k.cla ≡ 0x04)) → (i : Ins) → listed k ≡ i → NamedBy i k.cla k.ins → R
  unfolding checks kept rule or_else
  by_name f class Select e w = let v = sent 0x00 0xA4 f w.0 w.1 in inl (one.select-same c area other random cmd s t h (SameAnswer s t) (λ x. x) (select-answers c area cmd random h la l b v) (select-answers c other cmd random g lo l b v))
  by_name f class ReadBinary e w =
      either 0xB0 answers.ReadBinary read-binary-answers f w.0 w.1
      (one.read-binary-same c area other random cmd s t h R inl (seen 0xB0 (binary_sfi k) (λ x. x.read) w.0 w.1 (λ y o. inr (inl (inl y, o)))))
  by_name f class UpdateBinary e w =
      either 0xD6 answers.UpdateBinary update-binary-answers f w.0 w.1 (λ p q. inl (one.update-binary-same c area other random cmd s t h (SameAnswer s t) (λ x. x) p q))
  by_name f class ReadRecord e w =
      either 0xB2 answers.ReadRecord read-record-answers f w.0 w.1
      (one.read-record-same c area other random cmd s t h R inl (seen 0xB2 (record_sfi k) (λ x. x.read) w.0 w.1 (λ y o. inr (inl (inr y, o)))))
  by_name f class UpdateRecord e w =
      either 0xDC answers.UpdateRecord update-record-answers f w.0 w.1
      (one.update-record-same c area other random cmd s t h R inl (seen 0xDC (record_sfi k) (λ x. x.write) w.0 w.1 (λ y o. inr (inr (y, o)))))
  by_name f class AppendRecord e w =
      either 0xE2 answers.AppendRecord append-record-answers f w.0 w.1 (λ p q. inl (one.append-same c area other random cmd s t h (SameAnswer s t) (λ x. x) p q))
  by_name f class Verify e w = let v = sent 0x00 0x20 f w.0 w.1 in inl (one.verify-same c area other random cmd s t h (SameAnswer s t) (λ x. x) (verify-answers c area cmd random h la l b v) (verify-answers c other cmd random g lo l b v))
  by_name f class Authenticate e w = let v = sent 0x00 0x82 f w.0 w.1 in inl (one.authenticate-same c area other random cmd s t h (SameAnswer s t) (λ x. x) (authenticate-answers c area cmd random h la l b v) (authenticate-answers c other cmd random g lo l b v))
  by_name f class ChangePin e w = let v = sent 0x00 0x24 f w.0 w.1 in inl (one.change-same c area other random cmd s t h (SameAnswer s t) (λ x. x) (change-pin-answers c area cmd random h la l b v) (change-pin-answers c other cmd random g lo l b v))
  by_name f class ReloadPin e w = let v = sent 0x00 0x2C f w.0 w.1 in inl (one.reload-same c area other random cmd s t h (SameAnswer s t) (λ x. x) (reload-pin-answers c area cmd random h la l b v) (reload-pin-answers c other cmd random g lo l b v))
  by_name f class CreateFile e w = let v = sent 0x80 0xE0 f w.0 w.1 in inl (one.create-same c area other random cmd s t h (SameAnswer s t) (λ x. x) (create-file-answers c area cmd random h la l b v) (create-file-answers c other cmd random g lo l b v))
  by_name f class GetChallenge e w = let v = sent 0x00 0x84 f w.0 w.1 in inl (one.challenge-same c area other random cmd s t h (SameAnswer s t) (λ x. x) (get-challenge-answers c area cmd random h la l b v) (get-challenge-answers c other cmd random g lo l b v))
  by_name f class GetResponse e w = let v = sent 0x00 0xC0 f w.0 w.1 in inl (one.response-same c area other random cmd s t h (SameAnswer s t) (λ x. x) (get-response-answers c area cmd random h la l b v) (get-response-answers c other cmd random g lo l b v))
  by_name f class Unlisted e w = inl (unlisted-same (rw e) (λ x. rw (ne_eqb k.case 0 f, good-class k class, e)))

  hidden : R
  hidden =
      one.ask-same c area other random cmd s t h R inl (leb 1 k.case) (leb-true _ _) (le-leb _ _) (unknown-answers c area cmd random h la l b) (unknown-answers c other cmd random g lo l b) (λ some p q.
      one.ask-same c area other random cmd s t h R inl (eqb k.cla 0x00 || (eqb k.cla 0x80 || eqb k.cla 0x04))
      (λ y. one_of (eqb k.cla 0x00) (eqb k.cla 0x80 || eqb k.cla 0x04) y (λ z. inl (eqb-true _ _ z))
      (λ z. inr (one_of (eqb k.cla 0x80) (eqb k.cla 0x04) z (λ v. inl (eqb-true _ _ v)) (λ v. inr (eqb-true _ _ v)))))
      (⊎_elim (λ z. rw (eq-eqb k.cla 0x00 z))
      (⊎_elim (λ z. one-or (eqb k.cla 0x00) (rw (eq-eqb k.cla 0x80 z))) (λ z. one-or (eqb k.cla 0x00) (one-or (eqb k.cla 0x80) (eq-eqb k.cla 0x04 z))))) p q (λ class p q.
      by_name (λ z. omega (arith, z, some)) class (listed k) refl (listed-by-bytes k)))

pub bytes-hidden : BytesHidden
bytes-hidden c area other cmd random n h g la lo l b alike = hidden c area other cmd random n h g la lo l b alike

pub reset-hidden : ResetHidden
unfolding reset
reset-hidden c area other h g la lo = rw (eq-eqb (length area) 4096 la, eq-eqb (length other) 4096 lo, h, g)
