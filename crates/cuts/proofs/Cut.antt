-- The proof of `specs/Cut`.
use Prim.Native.Nat.{ℕ, ◌+◌, ◌-◌, ◌≤◌, ◌<◌}
use mathlib.Core.Bool.{Bool, true, false, cond, ◌&&◌, not}
use mathlib.Core.List.{List, [], ◌∷◌, ◌++◌}
use mathlib.Core.Logic.{◌⊎◌, by_cases, inl, inr}
use mathlib.Core.Path.{◌≡◌, refl, sym, ap, subst, ◌∙◌}
use native.Mathlib.Decide.{dec_le}
use native.Mathlib.Nat.{le_refl, le_of_eq}
use native.Mathlib.Omega.{arith}
use lib.Dec.{eqb, leb}
use lib.ListN.{length, take, drop, length-take}
use lib.Seq.{take_all, take-length}
use borrow.Author.Tests.{eq-eqb, leb-true, le-leb, not-true}
use Rattle.files.specs.declared.File.{File}
use Rattle.files.specs.declared.Folder.{Folder}
use Rattle.files.specs.declared.Directory.{Directory}
use Rattle.files.specs.Words.{is_zero}
use Rattle.files.specs.Part.{part, splice, zeros}
use Rattle.files.specs.State.{blank_file, with_file, with_files, with_newest}
use Rattle.files.specs.Types.{cyclic, is_variable, count, record_length, size}
use Rattle.files.specs.Directory.{used, start, end, extent, is_place}
use Rattle.files.specs.Record.{next_start, entry, appended, parted_file}
use Rattle.files.specs.Listed.{records}
use Rattle.files.specs.Create.{area_size, created, creates, founded}
use Rattle.files.specs.Create as directory
use Rattle.files.specs.Sound.{sound_directory}
use Rattle.files.proofs.Checks.{clash, both, split}
use Rattle.files.proofs.Parts.{splice-length}
use Rattle.files.proofs.Parting.{plain-parted}
use Rattle.files.proofs.Extents.{file-set}
use Rattle.files.proofs.Lists.{Knows, knows, records-length, held-places, held-cyclic}
use Rattle.files.proofs.Appends.{takes, grows-cyclic, appended-size, append-cyclic, append-variable}
use Rattle.files.proofs.Kept.{PartedIn, sound-append, sound-other, sound-created, sound-founded, filed}
use Rattle.rules.specs.declared.Card.{Card}
use Rattle.rules.specs.declared.Ins.{Ins}
use Rattle.rules.specs.declared.Journal.{Journal}
use Rattle.rules.specs.declared.Answer.{Answer}
use Rattle.rules.specs.declared.Session.{Session}
use Rattle.rules.specs.declared.Response.{Response}
use Rattle.rules.specs.Words.{same}
use Rattle.rules.specs.State.{Which, number_of, login, logins, with_directory, with_current, with_journal, no_journal, with_value}
use Rattle.rules.specs.Sound.{is_key, good_pin, good_value, sound}
use Rattle.rules.specs.Frame.{Command, framed}
use Rattle.rules.specs.Effect.{Deed, turns, enters, shows, stores, appends, makes, founds, Touch, nothing, presents, changes, reloads, challenges, Effect}
use Rattle.rules.specs.Target.{file_of}
use Rattle.rules.specs.Record.{record_found}
use Rattle.rules.specs.List.{listed}
use Rattle.rules.specs.Response.{fetches}
use Rattle.rules.specs.Calls.{answer, cleared, reset}
use Rattle.rules.proofs.Good.{Good, sound-good, sound-parted, sound-both, tried-full, tried-lowered, placed, tried-in, logged, valued, ended}
use Rattle.rules.proofs.Targets.{place-named, place-sound}
use Rattle.demands.specs.Held.{label_of}
use Rattle.demands.proofs.Rows.{Fair, FairTouch}
use Rattle.power.specs.Store.{Memory, memory, Store, entry_byte, area_byte, with_byte, puts, row}
use Rattle.power.specs.Journal.{known_bytes, redo, possible, journaled}
use Rattle.power.specs.Journal as journal
use Rattle.power.specs.Plan.{is_full, Work, idle, files, credentials, Act, act, planned, act_of, stores_for, stores_of, deed_stores, touch_stores}
use Rattle.power.specs.Recovery.{tidied, lost, recover}
use Rattle.power.proofs.Alter.{alter-set}
use Rattle.power.proofs.Cuts.{EachCut, cut-none, cut-first, cut-then}
use Rattle.power.proofs.Partial.{splice-mixed, mixed-length, cyclic-kept, oldest-gone, variable-kept, append-still-parted, one_less}
use Rattle.power.proofs.Tidy.{tidied-sound, lost-tidied}
use Rattle.cuts.specs.Ledger.{journal_bytes, change_stores}
use Rattle.cuts.specs.Cut.{Unchanged, list_of, one_more, Appended, AllowedDeed, AllowedTouch, AllowedWork, heard, Allowed, cut_at, CutRecovers, RecoverRefused}
use Rattle.cuts.proofs.Whole.{known-put, without_oldest, known-after, known_some, same-stores}
use Rattle.cuts.proofs.Segments.{Then, empty-then, area-cuts, append-cuts, make-cuts, found-cuts}
use Rattle.cuts.proofs.Parted.{extent-long, in_list, is-parted-here, long-enough, own-extent, parted-one, others_same, same-entry, past-extent, parted-past, new-fits, new-sound}
use Rattle.cuts.proofs.Bytes.{byte-outside, old-or-new}
use Rattle.cuts.proofs.Planned.{Code, no_code, plan-by}
use Rattle.cuts.proofs.Doing.{Updates, Appends, Doing, doing}
use Rattle.cuts.proofs.Heard.{heard-put, heard-files, heard-sound}
use Rattle.cuts.proofs.Touches.{cut_touch, touch-cut, touch-allowed}

-- what a list of records may be after an append that was cut
abbrev Lists : File → List (List ℕ) → List ℕ → List (List ℕ) → Type 0
Lists f old r new = (new ≡ old) ⊎ (((f.held ≡ count f) × (new ≡ take (length old - 1) old)) ⊎ (new ≡ one_more f old r))

-- a recovered card: sound with its area, and allowed
pub record Safe (A : Card → List ℕ → Type 0) (x : Card) (y : List ℕ) : Type 0 where
  pub sound-card : sound x y ≡ true
  pub size_is : length y ≡ area_size
  pub allowed : A x y

-- directories stay as many with a new file, and are one more with a new directory, whose files are parted as before
made-number : (d : Directory) (f : File) {n : ℕ} → n ≤ d.number → n ≤ (created d f).number
unfolding created
made-number d f l = l

founded-number : (d : Directory) (f : Folder) {n : ℕ} → n ≤ d.number → n ≤ (founded d f).number
unfolding founded
founded-number d f l = omega (arith, l)

founded-parted : (d : Directory) (f : Folder) (area : List ℕ) → PartedIn d area → PartedIn (founded d f) area
unfolding founded extent used
founded-parted d f area p = record { room = p.room; each-parted = p.each-parted }

module _ (c : Card) (area : List ℕ) (h : sound c area ≡ true) (size_is : length area ≡ area_size) where
  abbrev g : Good c
  g = sound-good c area h

  abbrev d : Directory
  d = c.directory

  -- of a card whose files are sound on the area
  safe : (A : Card → List ℕ → Type 0) (e : Directory) (y : List ℕ) → sound_directory e ≡ true → c.session.folder ≤ e.number → PartedIn e y → length y ≡ area_size
      → A (cleared (with_directory c e)) y → Safe A (tidied (with_directory c e)) y
  safe A e y s m p l a =
      rw (tidied-sound (with_directory c e) g.journal s)
      (record { sound-card = sound-both (cleared (with_directory c e)) y (ended (with_current (with_directory c e) 0) (placed c g e 0 s (omega arith) m refl)) p; size_is = l; allowed = a })

  same-safe : (A : Card → List ℕ → Type 0) → A (cleared c) area → Safe A (tidied c) area
  same-safe A a = safe A d area g.directory g.folder (sound-parted c area h) size_is a

  -- an update
  module _ (place at : ℕ) (bytes : List ℕ) (q : Updates c.directory area place at bytes) where
    abbrev some : 1 ≤ place
    some = q.some

    abbrev low : place ≤ c.directory.count
    low = q.low

    abbrev f : File
    f = file_of c place

    abbrev x : List ℕ
    x = extent c.directory place area

    part-parted : (n : ℕ) → n ≤ length bytes → parted_file (file_of c place) (splice (extent c.directory place area) at (take n bytes)) ≡ true
    part-parted n l =
        let fits : at + length bytes ≤ length x = rw (extent-long c area h size_is place some low) q.fits in
        rw (splice-mixed x at bytes n l fits)
        (q.any (take n bytes ++ drop n (part at (length bytes) x)) (mixed-length x at bytes n l fits)).parted

    update-safe : (n : ℕ) → n ≤ length bytes
        → Safe (AllowedDeed c area (stores place at bytes)) (tidied c) (splice area (start c.directory place + at) (take n bytes))
    update-safe n l =
        let some_fit : at + length (take n bytes) ≤ size f = omega (arith, length-take n bytes, q.fits) in
        let all_fit = long-enough c area h size_is place some low f refl at bytes q.fits in
        let part-fit = long-enough c area h size_is place some low f refl at (take n bytes) some_fit in
        safe (AllowedDeed c area (stores place at bytes)) d (splice area (start d place + at) (take n bytes)) g.directory g.folder
        (subst (λ (e : Directory). PartedIn e (splice area (start d place + at) (take n bytes))) (same-entry c area h size_is place some low)
        (parted-one c area h size_is place some low f refl at (take n bytes) some_fit (part-parted n l)))
        (splice-length area (start d place + at) (take n bytes) part-fit ∙ size_is)
        (record {
          card-is = refl;
          length-is = splice-length area (start d place + at) (take n bytes) part-fit;
          each-byte = old-or-new area (start d place + at) bytes n all_fit;
          outside = byte-outside area (start d place + at) bytes n all_fit;
          others = λ other named o.
              ap (λ (e : Directory). extent e other (splice area (start d place + at) (take n bytes))) (sym (same-entry c area h size_is place some low))
              ∙ (others_same c area h size_is place some low f refl at (take n bytes) some_fit other named o).1;
        })

    -- more than all is all
    update-cut : (n : ℕ) → Safe (AllowedDeed c area (stores place at bytes)) (tidied c) (splice area (start c.directory place + at) (take n bytes))
    update-cut n =
        by_cases (dec_le n (length bytes)) (λ l. update-safe n l)
        (λ l. rw (take_all n bytes (omega arith)) (rw (take-length bytes) at (update-safe (length bytes) (le_refl _))))

  -- an append
  module _ (place : ℕ) (r : List ℕ) (q : Appends c.directory area place r) where
    abbrev some' : 1 ≤ place
    some' = q.some

    abbrev low' : place ≤ c.directory.count
    low' = q.low

    abbrev old : File
    old = file_of c place

    abbrev bytes : List ℕ
    bytes = extent c.directory place area

    abbrev into : ℕ
    into = start c.directory place + next_start (file_of c place)

    long : size old ≤ length bytes
    long = le_of_eq (sym (extent-long c area h size_is place some' low'))

    part-fits : (n : ℕ) → next_start old + length (take n (entry old r)) ≤ size old
    part-fits n = omega (arith, length-take n (entry old r), q.fits)

    -- another entry of the same size, while n of the bytes are stored
    stored-safe : (f : File) → sound_directory (with_file c.directory (place - 1) f) ≡ true → size f ≡ size (file_of c place)
        → label_of f ≡ label_of (file_of c place) → (ys : List ℕ) → next_start (file_of c place) + length ys ≤ size (file_of c place)
        → parted_file f (splice (extent c.directory place area) (next_start (file_of c place)) ys) ≡ true
        → Lists (file_of c place) (list_of c place area) r (records f (splice (extent c.directory place area) (next_start (file_of c place)) ys))
        → Safe (Appended c area place r) (tidied (with_directory c (with_file c.directory (place - 1) f))) (splice area into ys)
    stored-safe f s z lab ys fits p t =
        let there = file-set d.files (place - 1) f (in_list c area h size_is place some' low') in
        let own = own-extent c area h size_is place some' low' f z (next_start old) ys fits in
        let fit = long-enough c area h size_is place some' low' f z (next_start old) ys fits in
        safe (Appended c area place r) (with_file d (place - 1) f) (splice area into ys) s g.folder (parted-one c area h size_is place some' low' f z (next_start old) ys fits p)
        (splice-length area into ys fit ∙ size_is)
        (record {
          rest-is = refl;
          count-is = refl;
          folders-are = (refl, refl);
          label_is = ap label_of there ∙ lab;
          others = others_same c area h size_is place some' low' f z (next_start old) ys fits;
          list-is = rw (there, own) t;
        })

    abbrev all : List ℕ
    all = entry (file_of c place) r

    named_here : is_place c.directory place ≡ true
    named_here = place-named d g.directory place some' low'

    -- the file knows of the new record
    new-list : Lists old (list_of c place area) r (records (appended old (length r)) (splice bytes (next_start old) all))
    new-list = inr (inr (go (is_variable old) refl))
      where
        go : (b : Bool) → is_variable old ≡ b
            → records (appended old (length r)) (splice bytes (next_start old) all) ≡ cond b (records old bytes ++ (r ∷ [])) (take (count old) (r ∷ records old bytes))
        go true v = append-variable old bytes r q.served long v (is-parted-here c area h size_is place some' low')
        go false v = append-cyclic old bytes r q.served long v

    appended-label : (f : File) (n : ℕ) → label_of (appended f n) ≡ label_of f
    unfolding appended
    appended-label f n = split (λ (x : File). label_of x ≡ label_of f) (is_variable f) (λ e. refl) (λ e. refl)

    new-safe : Safe (Appended c area place r) (tidied (with_directory c (with_file c.directory (place - 1) (appended (file_of c place) (length r))))) (splice area into all)
    new-safe =
        stored-safe (appended old (length r)) (sound-append d place (length r) g.directory named_here q.served) (appended-size old (length r))
        (appended-label old (length r)) all q.fits q.stored.parted new-list

    -- it does not yet, and is not full
    old-safe : is_full (file_of c place) ≡ false → (n : ℕ) → Safe (Appended c area place r) (tidied c) (splice area into (take n (entry (file_of c place) r)))
    old-safe b n =
        subst (λ (e : Directory). Safe (Appended c area place r) (tidied (with_directory c e)) (splice area into (take n all))) (same-entry c area h size_is place some' low')
        (stored-safe old (rw (same-entry c area h size_is place some' low') g.directory) refl refl (take n all) (part-fits n)
        (append-still-parted old bytes r q.served long n (is-parted-here c area h size_is place some' low')) (inl (go (is_variable old) refl)))
      where
        go : (v : Bool) → is_variable old ≡ v → records old (splice bytes (next_start old) (take n all)) ≡ records old bytes
        go true v = variable-kept old bytes r q.served long v (is-parted-here c area h size_is place some' low') n
        go false v =
            let z : leb (count old) old.held ≡ false = rw v at b in
            let k : (count old ≤ old.held → ⊥) = λ l. clash (leb (count old) old.held) (le-leb _ _ l) z in
            cyclic-kept old bytes r q.served long v n (by_cases (dec_le (count old) old.held) (λ l. absurd (k l)) (λ l. omega arith))

    -- it is, and the oldest record is gone
    module _ (b : is_full (file_of c place) ≡ true) where
      abbrev less : File
      less = with_newest (file_of c place) ((file_of c place).held - 1) (file_of c place).newest

      plain : is_variable (file_of c place) ≡ false
      plain = not-true (is_variable old) (both (not (is_variable old)) (leb (count old) old.held) b).0

      kind : eqb (file_of c place).kind cyclic ≡ true
      kind = grows-cyclic old (takes old (length r) q.served).kind plain

      abbrev known : Knows (file_of c place)
      known = knows (file_of c place) kind (takes (file_of c place) (length r) q.served).sound

      full : (file_of c place).held ≡ count (file_of c place)
      full = let l : count old ≤ old.held = leb-true _ _ (both (not (is_variable old)) (leb (count old) old.held) b).1 in omega (arith, known.held)

      less-size : (f : File) (n : ℕ) → size (with_newest f n f.newest) ≡ size f
      unfolding size count record_length
      less-size f n = refl

      less-sound : sound_directory (with_file c.directory (place - 1) less) ≡ true
      less-sound =
          sound-other d place less g.directory named_here (one_less old kind (place-sound d g.directory place some' low') full) (less-size old (old.held - 1)) (refl, refl)

      goes : without_oldest c place ≡ with_directory c (with_file c.directory (place - 1) less)
      goes = ap (λ (l : List File). with_directory c (with_files d l)) (alter-set (with_byte 7 (old.held - 1)) d.files (place - 1) blank_file)

      less-safe : (n : ℕ) → Safe (Appended c area place r) (tidied (without_oldest c place)) (splice area into (take n (entry (file_of c place) r)))
      less-safe n =
          subst (λ (x : Card). Safe (Appended c area place r) (tidied x) (splice area into (take n all))) (sym goes)
          (stored-safe less less-sound (less-size old (old.held - 1)) refl (take n all) (part-fits n)
          (plain-parted less (splice bytes (next_start old) (take n all)) plain)
          (inr (inl (full, oldest-gone old bytes r q.served long plain n full ∙ ap (λ m. take (m - 1) (records old bytes)) held_all))))
        where
          held_all : old.held ≡ length (records old bytes)
          held_all = sym (records-length old bytes ∙ held-places old bytes plain ∙ held-cyclic old kind)

    -- from the store on that says what the journal is about
    known-safe : (x : Card) → redo (journal.entry (place - 1)) (known_bytes (appended (file_of c place) (length r))) x
        ≡ redo (journal.entry (place - 1)) (known_bytes (appended (file_of c place) (length r))) c
        → Safe (Appended c area place r) (tidied (with_journal (redo (journal.entry (place - 1)) (known_bytes (appended (file_of c place) (length r))) x) no_journal)) (splice area into all)
    known-safe x e =
        subst (λ (y : Card). Safe (Appended c area place r) (tidied y) (splice area into all))
        (sym (ap (λ (y : Card). with_journal y no_journal) (e ∙ known-put c place (length r))
        ∙ ap (λ (j : Journal). with_journal (with_directory c (with_file d (place - 1) (appended old (length r)))) j) (sym g.journal)))
        new-safe

    into-fits : into + length (entry (file_of c place) r) ≤ length area
    into-fits = long-enough c area h size_is place some' low' old refl (next_start old) all q.fits

    place-low : place - 1 < 16
    place-low = omega (arith, (filed d g.directory).few)

    there-now : place - 1 < c.directory.count
    there-now = omega (arith, some', low')

    append-cut : EachCut (Then (Safe (Appended c area place r))) (deed_stores c (appends place r)) (memory c area)
    append-cut = go (is_full old) refl
      where
        P : Card → List ℕ → Type 0
        P = Safe (Appended c area place r)

        new : File
        new = appended old (length r)

        go : (b : Bool) → is_full old ≡ b
            → EachCut (Then P) (cond b (entry_byte (place - 1) 7 (old.held - 1) ∷ []) [] ++ (row area_byte into all ++ journaled (journal.entry (place - 1)) (known_bytes new))) (memory c area)
        go true b =
            cut-first (Then P) (entry_byte (place - 1) 7 (old.held - 1)) (row area_byte into all ++ journaled (journal.entry (place - 1)) (known_bytes new)) (memory c area)
            (empty-then P c area g.journal (same-safe (Appended c area place r)
            (record { rest-is = refl; count-is = refl; folders-are = (refl, refl); label_is = refl; others = λ o n e. (refl, refl); list-is = inl refl })))
            (append-cuts P (without_oldest c place) area (place - 1) into all new g.journal place-low there-now (known_some old (length r) q.served) into-fits (less-safe b)
            (known-safe (without_oldest c place) (known-after c place (known_bytes new))))
        go false b =
            append-cuts P c area (place - 1) into all new g.journal place-low there-now (known_some old (length r) q.served) into-fits (old-safe b) (known-safe c refl)

  -- a new file
  module _ (f : File) (served : creates c.directory f area_size ≡ true) where
    none_made : (n : ℕ) → Safe (AllowedDeed c area (makes f)) (tidied c) (splice area (end c.directory) (take n (zeros (size f))))
    none_made n =
        let fits = new-fits c area h size_is f served in
        let part-fit : end d + length (take n (zeros (size f))) ≤ length area = omega (arith, fits, length-take n (zeros (size f))) in
        safe (AllowedDeed c area (makes f)) d (splice area (end d) (take n (zeros (size f)))) g.directory g.folder (parted-past c area h size_is (take n (zeros (size f))) part-fit)
        (splice-length area (end d) (take n (zeros (size f))) part-fit ∙ size_is)
        (inl (record { card-is = refl; files-are = past-extent c area h size_is (take n (zeros (size f))) part-fit }))

    whole-made : Safe (AllowedDeed c area (makes f)) (tidied (with_directory c (created c.directory f))) (splice area (end c.directory) (zeros (size f)))
    whole-made =
        safe (AllowedDeed c area (makes f)) (created d f) (splice area (end d) (zeros (size f))) (sound-created d f 4096 g.directory served) (made-number d f g.folder)
        (new-sound c area h size_is f served) (splice-length area (end d) (zeros (size f)) (new-fits c area h size_is f served) ∙ size_is)
        (inr (record { card-is = refl; area-is = refl }))

    make-cut : EachCut (Then (Safe (AllowedDeed c area (makes f)))) (deed_stores c (makes f)) (memory c area)
    make-cut n =
        let A = Safe (AllowedDeed c area (makes f)) in
        let law = make-cuts A A c area f g.journal (new-fits c area h size_is f served) none_made whole-made n in
        by_cases (dec_le (size f + 13) n) (λ l. law.1 l) (λ l. law.0 (omega arith))

    -- which it is, by the number of stores
    pub make-index : (n : ℕ)
        → (n < size f + 13 → tidied (puts (take n (deed_stores c (makes f))) (memory c area)).card ≡ cleared c)
        × (size f + 13 ≤ n → tidied (puts (take n (deed_stores c (makes f))) (memory c area)).card ≡ cleared (with_directory c (created c.directory f)))
    make-index n =
        let law = make-cuts (λ x y. x ≡ cleared c) (λ x y. x ≡ cleared (with_directory c (created d f))) c area f g.journal (new-fits c area h size_is f served)
        (λ m. tidied-sound c g.journal g.directory)
        (tidied-sound (with_directory c (created d f)) g.journal (sound-created d f 4096 g.directory served)) n in
        (λ l. (law.0 l).holds, λ l. (law.1 l).holds)

  -- a new directory
  module _ (f : Folder) (served : directory.founds c.directory f ≡ true) where
    founded-safe : Safe (AllowedDeed c area (founds f)) (tidied (with_directory c (founded c.directory f))) area
    founded-safe =
        safe (AllowedDeed c area (founds f)) (founded d f) area (sound-founded d f g.directory served) (founded-number d f g.folder)
        (founded-parted d f area (sound-parted c area h)) size_is (inr (record { card-is = refl; area-is = refl }))

    found-cut : EachCut (Then (Safe (AllowedDeed c area (founds f)))) (deed_stores c (founds f)) (memory c area)
    found-cut n =
        let A = Safe (AllowedDeed c area (founds f)) in
        let law = found-cuts A A c area f g.journal (same-safe (AllowedDeed c area (founds f)) (inl (record { card-is = refl; area-is = refl }))) founded-safe n in
        by_cases (dec_le 4 n) (λ l. law.1 l) (λ l. law.0 (omega arith))

    -- which it is, by the number of stores
    pub found-index : (n : ℕ)
        → (n < 4 → tidied (puts (take n (deed_stores c (founds f))) (memory c area)).card ≡ cleared c)
        × (4 ≤ n → tidied (puts (take n (deed_stores c (founds f))) (memory c area)).card ≡ cleared (with_directory c (founded c.directory f)))
    found-index n =
        let law = found-cuts (λ x y. x ≡ cleared c) (λ x y. x ≡ cleared (with_directory c (founded d f))) c area f g.journal
        (tidied-sound c g.journal g.directory) (tidied-sound (with_directory c (founded d f)) g.journal (sound-founded d f g.directory served)) n in
        (λ l. (law.0 l).holds, λ l. (law.1 l).holds)

  unchanged-cut : EachCut (Then (Safe (Unchanged c area))) [] (memory c area)
  unchanged-cut =
      cut-none (Then (Safe (Unchanged c area))) (memory c area)
      (empty-then (Safe (Unchanged c area)) c area g.journal (same-safe (Unchanged c area) (record { card-is = refl; area-is = refl })))

  pub deed-cut : (x : Deed) → Doing c.directory area x → EachCut (Then (Safe (AllowedDeed c area x))) (deed_stores c x) (memory c area)
  deed-cut (turns place) q = unchanged-cut
  deed-cut (enters n) q = unchanged-cut
  deed-cut (shows place at n) q = unchanged-cut
  deed-cut (stores place at bytes) q =
      area-cuts (Safe (AllowedDeed c area (stores place at bytes))) c area (start c.directory place + at) bytes g.journal
      (long-enough c area h size_is place q.some q.low (file_of c place) refl at bytes q.fits) (update-cut place at bytes q)
  deed-cut (appends place r) q = append-cut place r q
  deed-cut (makes f) q = make-cut f q
  deed-cut (founds f) q = found-cut f q

  -- credentials: a card with the same files
  record Fine (x : Card) : Type 0 where
    good : Good x
    files-are : x.directory ≡ c.directory

  same-fine : Fine c
  same-fine = record { good = g; files-are = refl }

  pin-good : (w : Which) (b : List ℕ) → is_key (number_of w) ≡ false → good_pin b ≡ true → Good (with_value w c b)
  unfolding good_value
  pin-good w b e p = valued c g w b (rw e p)

  touch-fine : (t : Touch) → FairTouch (logins c) t → (n : ℕ) → Fine (cut_touch c t n)
  touch-fine nothing q n = same-fine
  touch-fine (presents w value given) q n =
      split Fine (is_zero n) (λ e. same-fine)
      (λ e. split Fine (leb 2 n && same value given)
      (λ a. record { good = logged c g w _ true (tried-full (login w c).tries.limit true (tried-in c g w).limit); files-are = refl })
      (λ a. record { good = logged c g w _ false (tried-lowered _ _ (tried-in c g w)); files-are = refl }))
  touch-fine (changes w b) q n =
      split Fine (leb n journal_bytes) (λ e. same-fine) (λ e. record { good = pin-good w b q.0 q.2; files-are = refl })
  touch-fine (reloads w b) q n =
      let value = pin-good w b (rw q.0 refl) q.2 in
      split Fine (leb n journal_bytes) (λ e. same-fine)
      (λ e. split Fine (leb n change_stores) (λ a. record { good = value; files-are = refl })
      (λ a. record { good = logged (with_value w c b) value w _ false (tried-full (login w c).tries.limit false (tried-in c g w).limit); files-are = refl }))
  touch-fine (challenges k) q n = same-fine

  -- it touches no file, and leaves the mode
  pub touch-files : (t : Touch) (n : ℕ) → (cut_touch c t n).directory ≡ c.directory
  touch-files nothing n = refl
  touch-files (presents w value given) n =
      split (λ (x : Card). x.directory ≡ c.directory) (is_zero n) (λ e. refl)
      (λ e. split (λ (x : Card). x.directory ≡ c.directory) (leb 2 n && same value given) (λ a. refl) (λ a. refl))
  touch-files (changes w b) n = split (λ (x : Card). x.directory ≡ c.directory) (leb n journal_bytes) (λ e. refl) (λ e. refl)
  touch-files (reloads w b) n =
      split (λ (x : Card). x.directory ≡ c.directory) (leb n journal_bytes) (λ e. refl)
      (λ e. split (λ (x : Card). x.directory ≡ c.directory) (leb n change_stores) (λ a. refl) (λ a. refl))
  touch-files (challenges k) n = refl

  touch-safe : (t : Touch) → FairTouch (logins c) t → EachCut (Then (Safe (λ x y. AllowedTouch c t x × (y ≡ area)))) (touch_stores c t) (memory c area)
  touch-safe t q n =
      let o = touch-cut c area h size_is t q n in
      let f = touch-fine t q n in
      record {
        holds = rw (o.card-is, o.area-is)
            (record {
              sound-card =
                  sound-both (cleared (cut_touch c t n)) area (ended (cut_touch c t n) f.good)
                  (subst (λ (e : Directory). PartedIn e area) (sym f.files-are) (sound-parted c area h));
              size_is = size_is;
              allowed = (touch-allowed c t n (cleared (cut_touch c t n)) refl, refl);
            });
        may = o.may;
      }

-- what is safe in one way is safe in another that allows as much
safer : (A B : Card → List ℕ → Type 0) → ((x : Card) (y : List ℕ) → A x y → B x y) → (xs : List Store) (m : Memory) → EachCut (Then (Safe A)) xs m → EachCut (Then (Safe B)) xs m
safer A B f xs m h n =
    let t = h n in
    record { holds = record { sound-card = t.holds.sound-card; size_is = t.holds.size_is; allowed = f _ _ t.holds.allowed }; may = t.may }

-- a code's stores, and then those of what the command does
behind : (c : Card) (area : List ℕ) → sound c area ≡ true → length area ≡ area_size → (t : Touch) → Code c t → (w : Work) (xs : List Store)
    → EachCut (Then (Safe (AllowedWork (heard c t) area w))) xs (memory (heard c t) area)
    → EachCut (Then (Safe (Allowed c area (act t w)))) (touch_stores c t ++ xs) (memory c area)
behind c area h size_is t q w xs k =
    cut-then (Then (Safe (Allowed c area (act t w)))) (touch_stores c t) xs (memory c area)
    (safer (λ x y. AllowedTouch c t x × (y ≡ area)) (Allowed c area (act t w)) (λ x y a. inl a) (touch_stores c t) (memory c area) (touch-safe c area h size_is t q.fair))
    (subst (λ (m : Memory). EachCut (Then (Safe (Allowed c area (act t w)))) xs m) (sym (heard-put c area t q.is_code))
    (safer (AllowedWork (heard c t) area w) (Allowed c area (act t w)) (λ x y a. inr a) xs (memory (heard c t) area) k))

module _ (c : Card) (area : List ℕ) (h : sound c area ≡ true) (size_is : length area ≡ area_size) where
  -- the deed of a command on the card as its code leaves it
  pub deed-behind : (i : Ins) (k : Command) (t : Touch) → Code c t → (d : Deed) → Fair i c area k d
      → EachCut (Then (Safe (AllowedDeed (heard c t) area d))) (deed_stores c d) (memory (heard c t) area)
  deed-behind i k t q d f =
      subst (λ (xs : List Store). EachCut (Then (Safe (AllowedDeed (heard c t) area d))) xs (memory (heard c t) area)) (same-stores c t d)
      (deed-cut (heard c t) area (heard-sound c area h t q.is_code) size_is d
      (subst (λ (x : Directory). Doing x area d) (sym (heard-files c t)) (doing i c area k d f)))

  -- of any command
  act-cut : (cmd : List ℕ) → EachCut (Then (Safe (Allowed c area (act_of c area cmd)))) (stores_of c area cmd) (memory c area)
  unfolding act_of
  act-cut cmd = go (fetches c (framed cmd))
    where
      i : Ins
      i = listed (framed cmd)

      k : Command
      k = framed cmd

      P : Act → Type 0
      P a = EachCut (Then (Safe (Allowed c area a))) (stores_for c a) (memory c area)

      none : (t : Touch) → Code c t → P (act t idle)
      none t q = behind c area h size_is t q idle [] (unchanged-cut (heard c t) area (heard-sound c area h t q.is_code) size_is)

      go : (b : Bool) → P (cond b (act nothing idle) (planned i c (record_found c area k) k))
      go true = none nothing (no_code c)
      go false =
          plan-by (λ (e : Effect) (a : Act). P a) i c area h k []
          (λ t q d f b. behind c area h size_is t q (files d) (deed_stores c d) (deed-behind i k t q d f))
          (λ t q. behind c area h size_is nothing (no_code c) (credentials t) (touch_stores c t) (touch-safe c area h size_is t q))
          (λ t q sw. none t q)

cleared-again : (c : Card) → cleared (tidied c) ≡ tidied c
unfolding tidied
cleared-again c = refl

-- the journal is as it was whatever is lost
lost-possible : (c : Card) (s : Session) (r : Response) → possible (lost s r c) ≡ possible c
lost-possible c s r = refl

pub cut-recovers : CutRecovers
unfolding recover reset
cut-recovers c area cmd n h size_is =
    let t = act-cut c area h size_is cmd n in
    let s = t.holds in
    let m = cut_at c area cmd n in
    let e : eqb (length m.area) area_size ≡ true = eq-eqb _ _ s.size_is in
    record {
      served = λ z r. rw (lost-possible m.card z r, lost-tidied m.card z r, e, s.sound-card, t.may);
      sound-card = s.sound-card;
      size_is = s.size_is;
      reset-same = rw (e, s.sound-card, cleared-again m.card);
      allowed = s.allowed;
    }

pub recover-refused : RecoverRefused
unfolding recover
recover-refused c area =
    split (λ (a : Answer). (a.outcome ≡ 0 → ⊥) → a ≡ answer a.outcome c 0) (eqb (length area) area_size)
    (λ e. split (λ (a : Answer). (a.outcome ≡ 0 → ⊥) → a ≡ answer a.outcome c 0) (possible c && sound (tidied c) area) (λ q z. absurd (z refl)) (λ q z. refl)) (λ e z. refl)
