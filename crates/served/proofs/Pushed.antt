-- The headline and its twin, from what APPEND RECORD answers.
use Prim.Native.Nat.{ℕ, zero, suc, ◌+◌, ◌-◌, ◌/◌, ◌≤◌, ◌<◌}
use mathlib.Core.Bool.{true}
use mathlib.Core.List.{List, [], ◌∷◌, ◌++◌}
use mathlib.Core.Logic.{inl, inr, by_cases}
use mathlib.Core.Path.{◌≡◌, refl, ap, ◌∙◌}
use native.Mathlib.Decide.{ℕ_discrete}
use native.Mathlib.Omega.{arith}
use lib.ListN.{length, take, length-append}
use lib.Seq.{take-length, take_at}
use Rattle.files.proofs.Extents.{length-records}
use Rattle.rules.specs.declared.Card.{Card}
use Rattle.rules.specs.Sound.{sound}
use Rattle.rules.specs.Frame.{framed}
use Rattle.rules.specs.Step.{step}
use Rattle.rules.specs.Effect.{Stepped}
use Rattle.rules.proofs.Good.{sound-good}
use Rattle.rules.proofs.Targets.{place-shaped}
use Rattle.demands.specs.Soundness.{Bytes}
use Rattle.demands.specs.Held.{file_no, IsFile, Named, bytes_used, records_no, limit_no, Opens, AsksCode, label_no, HeldOn}
use Rattle.demands.specs.Ledger.{size_of}
use Rattle.demands.specs.Framing.{Sent}
use Rattle.demands.proofs.Framing.{case-by-length}
use Rattle.demands.proofs.Named.{file-sfi}
use Rattle.served.specs.Left.{with_key_tries, Refused}
use Rattle.served.specs.Answers.{WithCode, RecordP, Grows, AppendLc}
use Rattle.served.specs.Answers as answers
use Rattle.served.specs.Pushed.{appending, appending_coded, PushedOut, NewestPushesOut, CodeGiven, CodedPushesOut, Added, NotesAddUp, CodedNotesAddUp}
use Rattle.served.proofs.Append.{append-record-answers}

sfi-low : (c : Card) (area : List ℕ) → sound c area ≡ true → (x n : ℕ) → Named c x n → x ≤ 30
sfi-low c area h x n q =
    by_cases (ℕ_discrete x 0) (λ e. omega (arith, e)) (λ o. omega (arith, (file-sfi c area h n q.there).1, q.by-sfi o))

-- other tries of the transport key leave a file's name
key-named : (c : Card) (x n left : ℕ) → Named c x n → Named (with_key_tries c left) x n
key-named c x n left w =
    record { there = record { first = w.there.first; last = w.there.last }; lies = w.lies; by-sfi = w.by-sfi; current = w.current }

-- the command taken apart
module _ (x : ℕ) (r : List ℕ) where
  cmd-bytes : x ≤ 30 → length r ≤ 178 → Bytes r → Bytes (appending x r)
  cmd-bytes l m b zero = omega arith
  cmd-bytes l m b (suc zero) = omega arith
  cmd-bytes l m b (suc (suc zero)) = omega arith
  cmd-bytes l m b (suc (suc (suc zero))) = omega arith
  cmd-bytes l m b (suc (suc (suc (suc zero)))) = omega arith
  cmd-bytes l m b (suc (suc (suc (suc (suc i))))) = b i

  cmd-case : 1 ≤ length r → (framed (appending x r)).case ≡ 3
  cmd-case some = (case-by-length (appending x r)).lc-only some (omega arith)

  cmd-given : (framed (appending x r)).given ≡ r
  unfolding framed
  cmd-given = take-length r

  cmd-sent : 1 ≤ length r → Sent 0x00 0xE2 (appending x r)
  unfolding framed
  cmd-sent some = record {
    good-frame = λ z. omega (arith, z, cmd-case some);
    class-is = refl;
    instruction-is = refl;
  }

  no_code : WithCode (appending x r) → ⊥
  unfolding framed
  no_code w = omega (arith, w)

  cmd-p : x ≤ 30 → ((framed (appending x r)).p1 ≡ 0) × RecordP 0 (appending x r)
  unfolding framed
  cmd-p l = (refl, (omega arith, λ z. omega (arith, z, l)))

  cmd-sfi : (framed (appending x r)).p2 / 8 ≡ x
  unfolding framed
  cmd-sfi = omega arith

-- and with a code
module _ (x : ℕ) (r code : List ℕ) (four : length code ≡ 4) where
  joined_bytes : (a b : List ℕ) → Bytes a → Bytes b → Bytes (a ++ b)
  joined_bytes [] b p q i = q i
  joined_bytes (y ∷ a) b p q zero = p 0
  joined_bytes (y ∷ a) b p q (suc i) = joined_bytes a b (λ j. p (suc j)) q i

  coded-bytes : x ≤ 30 → length r ≤ 178 → Bytes r → Bytes code → Bytes (appending_coded x r code)
  coded-bytes l m b q zero = omega arith
  coded-bytes l m b q (suc zero) = omega arith
  coded-bytes l m b q (suc (suc zero)) = omega arith
  coded-bytes l m b q (suc (suc (suc zero))) = omega arith
  coded-bytes l m b q (suc (suc (suc (suc zero)))) = omega arith
  coded-bytes l m b q (suc (suc (suc (suc (suc i))))) = joined_bytes r code b q i

  coded-case : (framed (appending_coded x r code)).case ≡ 3
  coded-case = (case-by-length (appending_coded x r code)).lc-only (omega arith) (omega (arith, length-append r code, four))

  coded-given : (framed (appending_coded x r code)).given ≡ r
  unfolding framed
  coded-given = let e : length r + 4 - 4 ≡ length r = omega arith in rw e (take_at r code (length r) refl)

  coded-sent : Sent 0x04 0xE2 (appending_coded x r code)
  unfolding framed
  coded-sent = record {
    good-frame = λ z. omega (arith, z, coded-case);
    class-is = refl;
    instruction-is = refl;
  }

  with_code : WithCode (appending_coded x r code)
  unfolding framed
  with_code = refl

  coded-p : x ≤ 30 → ((framed (appending_coded x r code)).p1 ≡ 0) × RecordP 0 (appending_coded x r code)
  unfolding framed
  coded-p l = (refl, (omega arith, λ z. omega (arith, z, l)))

  coded-sfi : (framed (appending_coded x r code)).p2 / 8 ≡ x
  unfolding framed
  coded-sfi = omega arith

-- what comes of the file's checks, on the card that they see
module _ (c : Card) (area random cmd : List ℕ) (s : Stepped) (claim : answers.AppendsRecord c area random cmd s) (x n : ℕ) (sfi-is : (framed cmd).p2 / 8 ≡ x) (named : Named c x n)
    (opens : Opens (HeldOn c) (file_no c n).write) (code : AsksCode (file_no c n).write → WithCode cmd) (r : List ℕ) (given : (framed cmd).given ≡ r) where
  at-file : Grows (file_no c n) → AppendLc c area random cmd s (file_no c n)
      → answers.Asks c area random cmd s (answers.AppendRoom c area random cmd s (file_no c n)) 0x6A84 (answers.RecordAppended c area random cmd s n)
  at-file g lc = ((((claim.1 n (rw sfi-is named)).1 g).1 opens).1 code).1 lc

  pushes : (file_no c n).kind ≡ 0x2E → length r ≡ (file_no c n).size2 → PushedOut c area n r s
  pushes kind long =
      let q = (at-file (inl kind) (λ e. ap length given ∙ long, λ e. absurd (omega (arith, e, kind)))).1 (λ e. absurd (omega (arith, e, kind))) in
      record {
        written = q.written;
        not_full = λ z. (q.cyclic kind).not_full z ∙ ap (λ (d : List ℕ). d ∷ records_no c area n) given;
        full = λ z. (q.cyclic kind).full z ∙ ap (λ (d : List ℕ). d ∷ take ((file_no c n).size1 - 1) (records_no c area n)) given;
      }

  adds : (file_no c n).kind ≡ 0x2C → length r ≤ 178
      → (bytes_used (file_no c n) + 1 + length r ≤ size_of (label_no c n) → Added c area n r s)
      × (size_of (label_no c n) < bytes_used (file_no c n) + 1 + length r → Refused c area 0x6A84 s)
  adds kind most =
      let q = at-file (inr kind) (λ e. absurd (omega (arith, e, kind)), λ e. omega (arith, ap length given, most)) in (
        λ room.
            let w = q.1 (λ e. omega (arith, room, ap length given)) in
            record { written = w.written; after-the-last = (w.variable kind).after-the-last ∙ ap (λ (d : List ℕ). records_no c area n ++ (d ∷ [])) given },
        λ over. q.0 (λ room. omega (arith, room kind, over, ap length given)),
      )

module _ (c : Card) (area random : List ℕ) (h : sound c area ≡ true) (la : length area ≡ 4096) (l : length random ≡ 16) (x n : ℕ) (named : Named c x n) (r : List ℕ)
    (b : Bytes r) (some : 1 ≤ length r) (most : length r ≤ 178) where
  -- past the checks of form, to those of the file
  plain-claim : answers.AppendsRecord c area random (appending x r) (step c area (appending x r) random)
  plain-claim =
      let low = sfi-low c area h x n named in
      (((append-record-answers.0 c area (appending x r) random h la l (cmd-bytes x r low most b) (cmd-sent x r some)).1 (cmd-p x r low)
      ).1 (record { case-is = cmd-case x r some; coded = λ w. absurd (no_code x r w) })).0 (no_code x r)

  coded-claim : (code : List ℕ) → CodeGiven c x r code
      → answers.AppendsRecord (with_key_tries c (limit_no c 3)) area random (appending_coded x r code) (step c area (appending_coded x r code) random)
  coded-claim code q =
      let low = sfi-low c area h x n named in
      ((((((append-record-answers.1 c area (appending_coded x r code) random h la l (coded-bytes x r code q.four low most b q.bytes) (coded-sent x r code q.four)).1 (coded-p x r code q.four low)
      ).1 (record { case-is = coded-case x r code q.four; coded = λ w. omega (arith, some) })).1 (with_code x r code q.four)).1 q.try-left).1 q.with-challenge).1 q.right

-- a record of the file's length is no longer than a record can be
module _ (c : Card) (area : List ℕ) (h : sound c area ≡ true) (n : ℕ) (t : IsFile c n) (kind : (file_no c n).kind ≡ 0x2E) (r : List ℕ) (long : length r ≡ (file_no c n).size2) where
  record-some : 1 ≤ length r
  record-some = omega (arith, long, length-records (file_no c n) (rw kind), (place-shaped c.directory (sound-good c area h).directory n t.first t.last).short)

  record-most : length r ≤ 178
  record-most = omega (arith, long, length-records (file_no c n) (rw kind), (place-shaped c.directory (sound-good c area h).directory n t.first t.last).long)

pub newest-pushes-out : NewestPushesOut
newest-pushes-out c area random h la l x n named kind opens none r b long =
    pushes c area random (appending x r) (step c area (appending x r) random)
    (plain-claim c area random h la l x n named r b (record-some c area h n named.there kind r long) (record-most c area h n named.there kind r long))
    x n (cmd-sfi x r) named opens (λ a. absurd (none a)) r (cmd-given x r) kind long

pub coded-pushes-out : CodedPushesOut
coded-pushes-out c area random h la l x n named kind opens r code b long q =
    pushes (with_key_tries c (limit_no c 3)) area random (appending_coded x r code) (step c area (appending_coded x r code) random)
    (coded-claim c area random h la l x n named r b (record-some c area h n named.there kind r long) (record-most c area h n named.there kind r long) code q)
    x n (coded-sfi x r code q.four) (key-named c x n (limit_no c 3) named) opens (λ a. with_code x r code q.four) r (coded-given x r code q.four) kind long

pub notes-add-up : NotesAddUp
notes-add-up c area random h la l x n named kind opens none r b some most =
    adds c area random (appending x r) (step c area (appending x r) random) (plain-claim c area random h la l x n named r b some most) x n (cmd-sfi x r) named opens (λ a. absurd (none a)) r
    (cmd-given x r) kind most

pub coded-notes-add-up : CodedNotesAddUp
coded-notes-add-up c area random h la l x n named kind opens r code b some most q =
    adds (with_key_tries c (limit_no c 3)) area random (appending_coded x r code) (step c area (appending_coded x r code) random) (coded-claim c area random h la l x n named r b some most code q) x n
    (coded-sfi x r code q.four) (key-named c x n (limit_no c 3) named) opens (λ a. with_code x r code q.four) r (coded-given x r code q.four) kind most
