-- Files are parted and stay where they are while bytes are stored in one of them, or past the last.
use Prim.Native.Nat.{ℕ, ◌+◌, ◌-◌, ◌≤◌, ◌<◌, min}
use mathlib.Core.Bool.{true}
use mathlib.Core.List.{List}
use mathlib.Core.Logic.{by_cases, inl}
use mathlib.Core.Path.{◌≡◌, refl, ap}
use native.Mathlib.Decide.{dec_le, ℕ_discrete}
use native.Mathlib.Omega.{arith}
use lib.ListN.{length, set, length-replicate}
use lib.Seq.{set-get_or}
use Rattle.files.specs.declared.File.{File}
use Rattle.files.specs.declared.Directory.{Directory}
use Rattle.files.specs.Part.{splice, zeros}
use Rattle.files.specs.State.{blank_file, with_file, with_files}
use Rattle.files.specs.Types.{size}
use Rattle.files.specs.Directory.{used, start_at, file, start, end, extent, is_place, in_area}
use Rattle.files.specs.Record.{parted_file}
use Rattle.files.specs.Create.{area_size, created, creates}
use Rattle.files.proofs.Parts.{splice-length, part_apart, part_length}
use Rattle.files.proofs.Extents.{file-set, file-other, start-same, start-next, used-is, place_is, lies}
use Rattle.files.proofs.Kept.{PartedIn, filed, lies-in-area, place-parted, sound-created, new-parted}
use Rattle.files.proofs.Making.{makes}
use Rattle.files.proofs.Stays.{own-written, other-written, old-file, old-extent, new-file}
use Rattle.rules.specs.declared.Card.{Card}
use Rattle.rules.specs.Sound.{sound}
use Rattle.rules.specs.Target.{file_of}
use Rattle.rules.proofs.Good.{Good, sound-good, sound-parted}
use Rattle.rules.proofs.Targets.{used-count, place-named}

one-count : (d : Directory) (f : File) → (created d f).count ≡ d.count + 1
unfolding created
one-count d f = refl

module _ (c : Card) (area : List ℕ) (h : sound c area ≡ true) (size_is : length area ≡ area_size) where
  abbrev g : Good c
  g = sound-good c area h

  abbrev d : Directory
  d = c.directory

  -- one file
  module _ (place : ℕ) (some : 1 ≤ place) (low : place ≤ c.directory.count) where
    pub here : in_area c.directory place (length area) ≡ true
    here = lies-in-area d area (sound-parted c area h) place (place-named d g.directory place some low)

    pub extent-long : length (extent c.directory place area) ≡ size (file_of c place)
    unfolding extent
    extent-long = part_length (start d place) (size (file_of c place)) area (lies d place (length area) here).fits

    pub in_list : place - 1 < length c.directory.files
    in_list = let w = filed d g.directory in omega (arith, w.places, w.few)

    pub is-parted-here : parted_file (file_of c place) (extent c.directory place area) ≡ true
    is-parted-here = place-parted d area (sound-parted c area h) place (place-named d g.directory place some low)

    -- its entry may be another of the same size
    module _ (f : File) (same_size : size f ≡ size (file_of c place)) (at : ℕ) (ys : List ℕ) (fits : at + length ys ≤ size (file_of c place)) where
      pub long-enough : start c.directory place + at + length ys ≤ length area
      long-enough = omega (arith, (lies d place (length area) here).fits)

      file-here : file (with_file c.directory (place - 1) f) place ≡ f
      file-here = file-set d.files (place - 1) f in_list

      file-there : (other : ℕ) → 1 ≤ other → (other ≡ place → ⊥) → file (with_file c.directory (place - 1) f) other ≡ file c.directory other
      file-there other s o = file-other d.files (place - 1) f (other - 1) (λ q. o (omega arith))

      starts : (i : ℕ) → start_at (set c.directory.files (place - 1) f) i ≡ start_at c.directory.files i
      starts i = start-same d.files (place - 1) f in_list same_size i

      pub own-extent : extent (with_file c.directory (place - 1) f) place (splice area (start c.directory place + at) ys) ≡ splice (extent c.directory place area) at ys
      unfolding extent
      own-extent = rw (file-here, starts (place - 1), same_size) (own-written d place area here at ys fits)

      pub other-extent : (other : ℕ) → 1 ≤ other → (other ≡ place → ⊥)
          → extent (with_file c.directory (place - 1) f) other (splice area (start c.directory place + at) ys) ≡ extent c.directory other area
      unfolding extent
      other-extent other s o = rw (starts (other - 1), file-there other s o) (other-written d place area here at ys fits other s o)

      room : end (with_file c.directory (place - 1) f) ≤ length (splice area (start c.directory place + at) ys)
      unfolding used
      room = rw (splice-length area (start d place + at) ys long-enough, starts (min d.count 16)) (sound-parted c area h).room

      pub parted-one : parted_file f (splice (extent c.directory place area) at ys) ≡ true
          → PartedIn (with_file c.directory (place - 1) f) (splice area (start c.directory place + at) ys)
      unfolding used
      parted-one p = record {
        room = room;
        each-parted = λ q s l. by_cases (ℕ_discrete q place)
            (λ z. rw z (rw (file-here, own-extent) p))
            (λ o. rw (file-there q s o, other-extent q s o) ((sound-parted c area h).each-parted q s l));
      }

      pub others_same : (other : ℕ) → is_place c.directory other ≡ true → (other ≡ place → ⊥)
          → (file (with_file c.directory (place - 1) f) other ≡ file c.directory other)
          × (extent (with_file c.directory (place - 1) f) other (splice area (start c.directory place + at) ys) ≡ extent c.directory other area)
      others_same other named o = let s = (place_is d other named).0 in (file-there other s o, other-extent other s o)

    -- or the same
    pub same-entry : with_file c.directory (place - 1) (file_of c place) ≡ c.directory
    same-entry = ap (with_files d) (set-get_or d.files (place - 1) blank_file)

  -- bytes past the last file
  module _ (ys : List ℕ) (fits : end c.directory + length ys ≤ length area) where
    pub past-extent : (place : ℕ) → is_place c.directory place ≡ true → extent c.directory place (splice area (end c.directory) ys) ≡ extent c.directory place area
    unfolding extent
    past-extent place named =
        let b = place_is d place named in
        let n = start-next d.files (place - 1) (used d) (omega (arith, b)) in
        part_apart area (end d) ys (start d place) (size (file d place)) fits (inl n)

    pub parted-past : PartedIn c.directory (splice area (end c.directory) ys)
    parted-past = record {
      room = rw (splice-length area (end d) ys fits) (sound-parted c area h).room;
      each-parted = λ place s l.
          let named = place-named d g.directory place s (rw (← used-count d g.directory) l) in
          rw (past-extent place named) ((sound-parted c area h).each-parted place s l);
    }

  -- a new file
  module _ (f : File) (served : creates c.directory f area_size ≡ true) where
    pub new-fits : end c.directory + length (zeros (size f)) ≤ length area
    new-fits = rw (length-replicate {A = ℕ} (size f) 0, size_is) (makes d f 4096 served).fits

    pub new-sound : PartedIn (created c.directory f) (splice area (end c.directory) (zeros (size f)))
    new-sound =
        let w = filed (created d f) (sound-created d f 4096 g.directory served) in
        let u : used (created d f) ≡ (created d f).count = used-is (created d f) w.few in
        let sixteen = (filed d g.directory).places in
        let served-here : creates d f (length area) ≡ true = rw size_is served in
        record {
          room = rw (splice-length area (end d) (zeros (size f)) new-fits, size_is, u) w.room;
          each-parted = λ place s l. by_cases (dec_le place d.count)
              (λ m. rw (old-file d f area sixteen served-here place s m, old-extent d f area sixteen served-here place s m)
              ((sound-parted c area h).each-parted place s (rw (used-count d g.directory) m)))
              (λ m. let q : place ≡ d.count + 1 = omega (arith, u, one-count d f) in
              rw (q, new-file d f area sixteen served-here) (new-parted f _));
        }
