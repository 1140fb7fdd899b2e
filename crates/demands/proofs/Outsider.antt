-- What an outsider can learn: one call of two cards that differ in a file's bytes, and so any list.
use Prim.Native.Nat.{ℕ, ◌+◌, ◌-◌, ◌≤◌}
use mathlib.Core.Bool.{Bool, true, false, not}
use mathlib.Core.List.{List, [], ◌∷◌, ◌++◌}
use mathlib.Core.Logic.{inl, inr, ⊎_elim}
use mathlib.Core.Path.{◌≡◌, refl, sym, ap₂, subst, ◌∙◌}
use native.Mathlib.Omega.{arith}
use lib.ListN.{length, take, drop}
use lib.Dec.{eqb}
use borrow.Author.Tests.{eqb-true, eqb-false, not-true}
use Rattle.files.specs.declared.Directory.{Directory}
use Rattle.files.specs.declared.Located.{Located}
use Rattle.files.specs.Words.{is_zero}
use Rattle.files.specs.Part.{splice}
use Rattle.files.specs.Types.{size}
use Rattle.files.specs.Directory.{start, extent}
use Rattle.files.specs.Listed.{SameLengths}
use Rattle.files.proofs.Parts.{Apart, part-splice, splice-length, byte-apart}
use Rattle.files.proofs.Extents.{lies}
use Rattle.files.proofs.Kept.{lies-in-area}
use Rattle.rules.specs.declared.Credential.{Credential}
use Rattle.rules.specs.declared.Journal.{Journal}
use Rattle.rules.specs.declared.Card.{Card}
use Rattle.rules.specs.declared.Ins.{Ins}
use Rattle.rules.specs.declared.Ins.TheVariants.{Select, ReadBinary, UpdateBinary, ReadRecord, UpdateRecord, AppendRecord, Verify, Authenticate, ChangePin, ReloadPin, CreateFile, GetChallenge, GetResponse, Unlisted}
use Rattle.rules.specs.Words.{first}
use Rattle.rules.specs.State.{mode, no_session, response_of, with_credentials, with_directory, with_session, with_response, with_journal}
use Rattle.rules.specs.Frame.{Command, framed, frame_sw, class_sw}
use Rattle.rules.specs.Binary.{read_binary_front}
use Rattle.rules.specs.Target.{file_of, opens}
use Rattle.rules.specs.Record.{record_found, read_record_front}
use Rattle.rules.specs.List.{listed, rule}
use Rattle.demands.specs.Role.{role}
use Rattle.rules.specs.Step.{checks, sw_of, outcome}
use Rattle.rules.proofs.Checks.{Passed, passed, holds}
use Rattle.rules.proofs.Good.{Good, sound-good, sound-parted}
use Rattle.rules.proofs.Targets.{place-named}
use Rattle.demands.specs.Ledger.{Event, sent, resets, binary_p, record_p}
use Rattle.demands.specs.Held.{IsFile, bytes_no, binary_sfi, record_sfi}
use Rattle.demands.specs.Run.{World, world, SoundWorld, called}
use Rattle.demands.specs.Framing.{NamedBy}
use Rattle.demands.specs.Files.{AlikeBut}
use Rattle.demands.specs.Outsider.{heard, AllButBytes, IsReadOf, Unsatisfied, Outsider, ResetForgets, OtherBytes}
use Rattle.demands.proofs.Framing.{listed-by-bytes}
use Rattle.demands.proofs.Named.{opens-asked}
use Rattle.demands.proofs.Addressed.{reads_from, by-target}
use Rattle.demands.proofs.View.{size_is, start_is, bytes-are}
use Rattle.demands.proofs.Alike.{AlikeIn, alike-in, alike-but}
use Rattle.demands.proofs.Others.{sound-same}
use Rattle.demands.proofs.Pairs.{command-alike, reset-alike, each-call}
use Rattle.demands.proofs.History.{treated, step-unseen}

-- ---- one call
-- a command that is refused shows nothing
refused-shows : (i : Ins) (c : Card) (l : Located) (k : Command) (random : List ℕ) → eqb (sw_of i c l k) 0x9000 ≡ false
    → ((outcome i c l k random).from ≡ 0) × ((outcome i c l k random).shows ≡ 0)
unfolding outcome
refused-shows i c l k random h = rw h (refl, refl)

-- a command whose checks pass and that is to show a file is one of its reads
module _ (c : Card) (g : Good c) (l : Located) (k : Command) (n : ℕ) (some : 1 ≤ n) (f : frame_sw k ≡ 0x9000) where
  framed-well : k.case ≡ 0 → ⊥
  framed-well = eqb-false k.case 0 (not-true (is_zero k.case) (holds (not (is_zero k.case)) 0x6700 refl f))

  is_read : (i : Ins) → NamedBy i k.cla k.ins → Passed (checks i c l k) → reads_from (role i) c k ≡ n → IsReadOf c k n
  unfolding checks rule reads_from
  is_read ReadBinary b p e = inl (record {
    good-frame = framed-well;
    good-p = holds (binary_p k) 0x6A86 refl (passed (read_binary_front k) p.0).0;
    addresses = by-target c g k n some 0xB0 (binary_sfi k) b e;
  })
  is_read ReadRecord b p e = inr (record {
    good-frame = framed-well;
    good-p = holds (record_p k) 0x6A86 refl (passed (read_record_front k) p.0).0;
    addresses = by-target c g k n some 0xB2 (record_sfi k) b e;
  })
  is_read Select b p e = absurd (omega (arith, e, some))
  is_read UpdateBinary b p e = absurd (omega (arith, e, some))
  is_read UpdateRecord b p e = absurd (omega (arith, e, some))
  is_read AppendRecord b p e = absurd (omega (arith, e, some))
  is_read Verify b p e = absurd (omega (arith, e, some))
  is_read Authenticate b p e = absurd (omega (arith, e, some))
  is_read ChangePin b p e = absurd (omega (arith, e, some))
  is_read ReloadPin b p e = absurd (omega (arith, e, some))
  is_read CreateFile b p e = absurd (omega (arith, e, some))
  is_read GetChallenge b p e = absurd (omega (arith, e, some))
  is_read GetResponse b p e = absurd (omega (arith, e, some))
  is_read Unlisted b p e = absurd (omega (arith, e, some))

module _ (c : Card) (area other : List ℕ) (n : ℕ) (live : SoundWorld (world c area)) (file-here : IsFile c n) (alike : AlikeBut c n area other) where
  module _ (cmd random : List ℕ) where
    abbrev k : Command
    k = framed cmd

    abbrev i : Ins
    i = listed (framed cmd)

    abbrev l : Located
    l = record_found c area (framed cmd)

    -- a command that is none of the file's reads, or one without its right, shows none of it
    unseen : (IsReadOf c (framed cmd) n → opens c (file_of c n).read ≡ true → ⊥)
        → Apart (start c.directory n) (size (file_of c n)) (outcome i c l k random).from (outcome i c l k random).shows
    unseen closed = go (eqb (sw_of i c l k) 0x9000) refl
      where
        go : (b : Bool) → eqb (sw_of i c l k) 0x9000 ≡ b → Apart (start c.directory n) (size (file_of c n)) (outcome i c l k random).from (outcome i c l k random).shows
        go true h =
            let p = passed (frame_sw k ∷ class_sw k ∷ first (checks i c l k) ∷ []) (eqb-true _ _ h) in
            ⊎_elim (λ a. a)
            (λ b. absurd (closed (is_read c (sound-good c area live.sound-card) l k n file-here.first p.0 i (listed-by-bytes k) (passed (checks i c l k) p.1.1.0) b.0) b.1))
            (treated c area cmd random live n file-here).hidden
        go false h = let z = refused-shows i c l k random h in inr (omega (arith, z.0, z.1))

  file-call : (e : Event) → SoundWorld (world c other) → Unsatisfied n (world c area) (world c other) e
      → (heard (world c area) e ≡ heard (world c other) e) × AllButBytes n (called (world c area) e) (called (world c other) e)
  file-call (sent cmd random reply) there closed =
      command-alike (AllButBytes n) (world c area) (world c other) live there cmd random reply (record { there = file-here; card-is = refl; areas = alike })
      (λ s. step-unseen c area cmd random live n file-here other (alike-in c n area other alike) (unseen cmd random (λ q o. closed s q (opens-asked c _ o))))
  file-call resets there closed =
      reset-alike (AllButBytes n) (world c area) (world c other) live there
      (record {
        there = record { first = file-here.first; last = file-here.last };
        card-is = refl;
        areas = record { but-bytes = alike.but-bytes; lengths-are = alike.lengths-are };
      })

one-file : (n : ℕ) (w v : World) (e : Event) → SoundWorld w → SoundWorld v → AllButBytes n w v → Unsatisfied n w v e
    → (heard w e ≡ heard v e) × AllButBytes n (called w e) (called v e)
one-file n w v e lw lv r =
    subst (λ (c : Card). SoundWorld (world c v.area) → Unsatisfied n w (world c v.area) e
    → (heard w e ≡ heard (world c v.area) e) × AllButBytes n (called w e) (called (world c v.area) e)) r.card-is
    (file-call w.card w.area v.area n lw r.there r.areas e) lv

pub outsider : Outsider
outsider n w v es sw sv r p = each-call (AllButBytes n) (Unsatisfied n) (one-file n) w v es sw sv r p

-- ---- after a reset
pub reset-forgets : ResetForgets
reset-forgets n w v sw sv r =
    reset-alike (AllButBytes n) w v sw sv
    (record {
      there = record { first = r.there.first; last = r.there.last };
      card-is =
          ap₂ (λ (x : List Credential) (d : Directory). with_credentials (with_directory empty d) x) r.credentials-are r.directory-is
          ∙ ap₂ (λ (m : ℕ) (j : Journal). with_journal (with_response (with_session v.card no_session) (response_of m [])) j) r.mode-is
          ((sound-good w.card w.area sw.sound-card).journal ∙ sym (sound-good v.card v.area sv.sound-card).journal);
      areas = record { but-bytes = r.areas.but-bytes; lengths-are = r.areas.lengths-are };
    })
  where
    empty : Card
    empty = with_journal (with_response (with_session w.card no_session) (response_of (mode w.card) [])) w.card.journal

-- ---- there are such pairs
module _ (c : Card) (n : ℕ) (bytes area : List ℕ) (long : length bytes ≡ size (file_of c n)) (fits : start c.directory n + length bytes ≤ length area) where
  contents-are : extent c.directory n (splice area (start c.directory n) bytes) ≡ bytes
  unfolding extent
  contents-are = rw (← long) (part-splice area (start c.directory n) bytes fits)

  stored-alike : SameLengths (file_of c n) (extent c.directory n area) bytes → AlikeIn c n area (splice area (start c.directory n) bytes)
  stored-alike lengths = record {
    but-bytes = record {
      length-is = sym (splice-length area (start c.directory n) bytes fits);
      rest = λ j o. sym (byte-apart area (start c.directory n) bytes j fits (rw long o));
    };
    lengths-are = subst (SameLengths (file_of c n) (extent c.directory n area)) (sym contents-are) lengths;
  }

pub other-bytes : OtherBytes
unfolding splice
other-bytes n bytes w s file-here long lengths =
    let c = w.card in
    let area = w.area in
    let a = start c.directory n in
    let named = place-named c.directory (sound-good c area s.sound-card).directory n file-here.first file-here.last in
    let many : length bytes ≡ size (file_of c n) = long ∙ size_is (file_of c n) in
    let inside : a + size (file_of c n) ≤ length area =
    (lies c.directory n (length area) (lies-in-area c.directory area (sound-parted c area s.sound-card) n named)).fits in
    let fits : a + length bytes ≤ length area = rw many inside in
    let alike = stored-alike c n bytes area many fits (subst (λ (z : List ℕ). SameLengths (file_of c n) z bytes) (bytes-are c area n) lengths) in
    subst (λ (at : ℕ). let v = world c (take at area ++ (bytes ++ drop (at + length bytes) area)) in SoundWorld v × (AllButBytes n w v × (bytes_no c v.area n ≡ bytes)))
    (sym (start_is c.directory.files (n - 1))) (
      record { sound-card = sound-same c area (splice area a bytes) n s.sound-card named alike; size_is = splice-length area a bytes fits ∙ s.size_is },
      (
        record { there = file-here; card-is = refl; areas = alike-but c n area (splice area a bytes) alike },
        bytes-are c (splice area a bytes) n ∙ contents-are c n bytes area many fits,
      ),
    )
