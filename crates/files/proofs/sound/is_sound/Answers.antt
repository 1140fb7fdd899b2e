use Rattle.std.proofs.Common.{◌≡◌, ℕ, ◌+◌, ◌-◌, ◌%◌, ◌≤◌, ◌<◌, ◌&&◌, List, length, take, drop, get_or, true, refl, sym, ap, ◌∙◌, arith, rules, length-take, length-drop}
use Rattle.std.proofs.lemmas.Grind.{common_steps}
use Rattle.std.proofs.lemmas.List.{get_or-take, get_or-drop}
use lib.Dec.{eqb, leb}
use borrow.Author.Tests.{eq-eqb, ne_eqb, le-leb}
use Rattle.files.specs.declared.File.{File}
use Rattle.files.specs.declared.Directory.{Directory}
use Rattle.files.specs.State.{blank_file, blank_folder}
use Rattle.files.specs.Words.{all_below, seek, is_zero}
use Rattle.files.specs.Types.{size}
use Rattle.files.specs.Directory.{file_at, start_at, folder_fid, folder_at, fid, of_sfi, here}
use Rattle.files.specs.Create.{housed}
use Rattle.files.specs.Sound.{sound_file, unused_place, sound_place, alone, sound_folders, sound_directory, apart_at, parted_place, parted_area}
use Rattle.files.proofs.Checks.{below_none, below_more, below-fail}
use Rattle.files.proofs.Extents.{used-is, start_none, start-more}
use Rattle.files.proofs.Parts.{part-lent}
use Rattle.files.proofs.Folders.{Foldered, foldered}
use Rattle.files.proofs.Sought.{seek-low}
use Rattle.files.proofs.Pass.{slot, marks, marks-none, marks-more, slot-low, free, too_many, folders-fail, apart-fails, not-housed, at_home, home-fails, sfi-taken, file-fails, passed, file-passes, rest_more, lent, unsound-files, unparted, past-area, place-fails, all-parted}
use Rattle.files.proofs.Rooted.{root_lacks, none-marked, other-marked, found, mark-at, not-apart, all_apart}
use Rattle.files.proofs.sound.is_sound.Goals as goal
use Rattle.files.proofs.sound.is_sound.Goals.{After-slot-at, After-is_parted, After-loop-i, After-from-place, After-loop-f, else-place-ne0-via-then-place-ne0+else-has_fid, else-place-ne0-via-else-place-ne0}

-- an element of a list's front, and one of what is behind it
front : {A : Type 0} (xs : List A) (n i : ℕ) (d : A) → i < length (take n xs) → (i < n) × (get_or (take n xs) i d ≡ get_or xs i d)
front xs n i d h = let l : i < n = omega (arith, length-take n xs) in (l, get_or-take n xs i d l)

behind : {A : Type 0} (xs : List A) (n i : ℕ) (d : A) → i < length (take (length xs - n) (drop n xs)) → get_or (take (length xs - n) (drop n xs)) i d ≡ get_or xs (n + i) d
behind xs n i d h = (front (drop n xs) (length xs - n) i d h).1 ∙ get_or-drop n xs i d

-- what is known of the file in a place, and of where it is marked
record Placed (d : Directory) (n i at : ℕ) (seen : List ℕ) : Type 0 where
  inside : i < d.count
  few : d.count ≤ 16
  file : get_or (take n d.files) i blank_file ≡ file_at d.files i
  home : (file_at d.files i).folder ≤ d.number
  five : (file_at d.files i).folder ≤ 4
  slotted : at ≡ slot (file_at d.files i)
  single : is_zero (get_or seen at 0) ≡ alone d.files i

folders-good : (c : After-loop-i) → Foldered c.args.d.folders c.from-number.result
folders-good c = foldered c.args.d.folders c.from-number.result (sym c.sound_folders.ensures ∙ c.if-not-sound_folders.false)

placed : (c : After-slot-at) → Placed c.args.d c.from-n.result c.loop-i.i c.slot-at.result c.loop-i.seen
placed c = let d = c.args.d in
    let l = c.loop-i in
    let p = front d.files c.from-n.result l.i blank_file c.loop-i-test.true in
    let f : c.from.result ≡ (file_at d.files l.i).folder = c.from.ensures ∙ ap (λ (g : File). g.folder) p.1 in
    let s : c.slot-at.result ≡ slot (file_at d.files l.i) = c.slot-at.ensures ∙ ap slot p.1 in
    let four = (foldered d.folders c.from-number.result (sym c.sound_folders.ensures ∙ c.if-not-sound_folders.false)).few in
    let five : (file_at d.files l.i).folder ≤ 4 = omega (arith, four) in
    record { inside = omega (arith, p.0); few = omega arith; file = p.1; home = omega arith; five = five; slotted = s; single = free d.files l.i c.slot-at.result l.seen l.invariant.marked s five }

-- the bytes lent are its extent
parted-here : (c : After-is_parted) → Placed c.args.d c.from-n.result c.loop-i.i c.slot-at.result c.loop-i.seen → c.is_parted.result ≡ parted_place c.args.d c.args.area.now c.loop-i.i
parted-here c s = let l = c.loop-i in
    lent c.args.d c.args.area.now _ l.i l.end c.size.result c.is_parted.result (rw s.file at c.is_parted.ensures) (part-lent l.end c.size.result _ c.args.area.now refl) l.invariant.ends (c.size.ensures.is ∙ ap size s.file)

-- all files are looked at
ended : (c : After-loop-i) → c.loop-i.i ≡ c.from-n.result
ended c = let n : length c.args.d.files ≡ 16 = search rules in omega (arith, n, length-take c.from-n.result c.args.d.files)

-- a directory in a place of those in use
in-front : (c : After-from-place) → (c.loop-x.x-index < c.from-number.result) × (get_or (take c.from-number.result c.args.d.folders) c.loop-x.x-index blank_folder ≡ folder_at c.args.d.folders c.loop-x.x-index)
in-front c = front c.args.d.folders c.from-number.result c.loop-x.x-index blank_folder c.loop-x-test.true

-- the file that is marked for a directory's FID
told : (c : After-from-place) → c.from-place.result ≡ seek (here (of_sfi 0 (folder_fid (folder_at c.args.d.folders c.loop-x.x-index) % 32)) c.args.d.files) c.from-n.result
told c = let d = c.args.d in
    let l = c.loop-i in
    let n = c.from-n.result in
    let places : length d.files ≡ 16 = search rules in
    let e : l.i ≡ n = omega (arith, places, length-take n d.files) in
    mark-at d.files n _ c.root_slot.result c.from-place.result l.seen (l.invariant.marked ∙ ap (marks d.files) e) (rw (in-front c).1 at c.root_slot.ensures) c.from-place.ensures

marked_low : (c : After-from-place) → c.from-place.result ≤ 16
marked_low c = let l = seek-low (here (of_sfi 0 (folder_fid (folder_at c.args.d.folders c.loop-x.x-index) % 32)) c.args.d.files) c.from-n.result in omega (arith, l, told c)

-- what the pass tells of directory and area
whole : (c : After-loop-f) → (sound_directory c.args.d && parted_area c.args.d c.args.area.now) ≡ (leb c.loop-i.end 4096 && is_zero c.loop-f.rest)
whole c = let d = c.args.d in
    let l = c.loop-i in
    let v = l.invariant in
    let n = c.from-n.result in
    let number = c.from-number.result in
    let places : length d.files ≡ 16 = search rules in
    let few : d.count ≤ 16 = omega arith in
    let e : l.i ≡ d.count = omega (arith, places, length-take n d.files) in
    let sound : sound_folders d.folders number ≡ true = sym c.sound_folders.ensures ∙ c.if-not-sound_folders.false in
    let g = foldered d.folders number sound in
    let all : c.loop-x.x-index ≡ number = omega (arith, g.few, g.places, length-take number d.folders) in
    let rest : n + c.loop-f.f-index ≡ 16 = omega (arith, places, length-take (length d.files - n) (drop n d.files), length-drop n d.files) in
    let lacked : all_below (λ (k : ℕ). root_lacks d.files d.count (folder_fid (folder_at d.folders k))) number ≡ true =
    ap (λ (t : ℕ). all_below (λ (k : ℕ). root_lacks d.files t (folder_fid (folder_at d.folders k))) number) (sym c.from-n.ensures)
    ∙ ap (all_below (λ (k : ℕ). root_lacks d.files n (folder_fid (folder_at d.folders k)))) (sym all) ∙ c.loop-x.invariant in
    let homes = at_home d d.count (ap (all_below (λ (i : ℕ). housed d (file_at d.files i))) (sym e) ∙ v.housed) (all_apart d number c.from-number.ensures g.few d.count lacked) in
    let s = passed d places few l.end c.loop-f.rest (v.ends ∙ ap (start_at d.files) e) (c.loop-f.invariant ∙ ap (all_below (sound_place d)) rest) (sym (ap (all_below (alone d.files)) e) ∙ v.lone) (ap (sound_folders d.folders) (sym c.from-number.ensures) ∙ sound) homes in
    sym (all-parted d c.args.area.now l.i l.end _ (sym s) (e ∙ sym (used-is d few)) v.ends v.within v.parted)

pub returns-then-n-gt16 : goal.returns-then-n-gt16
returns-then-n-gt16 c = unsound-files c.args.d c.args.area.now _ (too_many c.args.d (omega arith))

pub returns-then-not-sound_folders : goal.returns-then-not-sound_folders
returns-then-not-sound_folders c = let d = c.args.d in
    unsound-files d c.args.area.now _ (folders-fail d (ap (sound_folders d.folders) (sym c.from-number.ensures) ∙ sym c.sound_folders.ensures ∙ c.if-not-sound_folders.true))

pub loop-i-init : goal.loop-i-init
loop-i-init c = let d = c.args.d in
    record {
      marked = marks-none d.files;
      short = omega arith;
      ends = sym (start_none d.files);
      within = omega arith;
      sound = below_none (sound_place d);
      lone = below_none (alone d.files);
      parted = below_none (parted_place d c.args.area.now);
      housed = below_none (λ (i : ℕ). housed d (file_at d.files i));
    }

pub returns-then-number-from : goal.returns-then-number-from
returns-then-number-from c = let d = c.args.d in
    let i = c.loop-i.i in
    let p = front d.files c.from-n.result i blank_file c.loop-i-test.true in
    let f : c.from.result ≡ (file_at d.files i).folder = c.from.ensures ∙ ap (λ (g : File). g.folder) p.1 in
    unsound-files d c.args.area.now _ (home-fails d (omega arith) i (omega (arith, p.0)) (not-housed d i (omega arith)))

pub bounds-seen-at : goal.bounds-seen-at
bounds-seen-at c = let s = placed c in omega (arith, slot-low (file_at c.args.d.files c.loop-i.i) s.five, s.slotted)

pub returns-then-seen-at-ne0 : goal.returns-then-seen-at-ne0
returns-then-seen-at-ne0 c = let d = c.args.d in
    let s = placed (goal.at.returns-then-seen-at-ne0 c).After-slot-at in
    unsound-files d c.args.area.now _ (sfi-taken d s.few c.loop-i.i s.inside (sym s.single ∙ ne_eqb (get_or c.loop-i.seen c.slot-at.result 0) 0 c.if-seen-at-ne0.true))

pub returns-then-not-sound_file : goal.returns-then-not-sound_file
returns-then-not-sound_file c = let d = c.args.d in
    let s = placed (goal.at.returns-then-not-sound_file c).After-slot-at in
    unsound-files d c.args.area.now _ (file-fails d s.few c.loop-i.i s.inside (ap sound_file (sym s.file) ∙ sym c.sound_file.ensures ∙ c.if-not-sound_file.true))

pub overflow_add-to : goal.overflow_add-to
overflow_add-to c = let s = placed (goal.at.overflow_add-to c).After-slot-at in omega (arith, s.inside, s.few)

pub returns-then-area-to : goal.returns-then-area-to
returns-then-area-to c = let d = c.args.d in
    let x = c.args.area.now in
    let s = placed (goal.at.returns-then-area-to c).After-slot-at in
    let z : c.size.result ≡ size (file_at d.files c.loop-i.i) = c.size.ensures.is ∙ ap size s.file in
    unparted d x _ (past-area d x c.loop-i.i (omega (arith, s.inside, used-is d s.few)) (omega (arith, c.loop-i.invariant.ends)))

pub returns-then-not-is_parted : goal.returns-then-not-is_parted
returns-then-not-is_parted c = let d = c.args.d in
    let x = c.args.area.now in
    let at = goal.at.returns-then-not-is_parted c in
    let s = placed at.After-slot-at in
    unparted d x _ (place-fails d x c.loop-i.i (omega (arith, s.inside, used-is d s.few)) (sym (parted-here at.After-is_parted s) ∙ c.if-not-is_parted.true))

pub bounds-seen-at-in-loop-i : goal.bounds-seen-at-in-loop-i
bounds-seen-at-in-loop-i c = let s = placed (goal.at.bounds-seen-at-in-loop-i c).After-slot-at in omega (arith, slot-low (file_at c.args.d.files c.loop-i.i) s.five, s.slotted)

pub loop-i-preserved : goal.loop-i-preserved
loop-i-preserved c = let d = c.args.d in
    let l = c.loop-i in
    let v = l.invariant in
    let at = goal.at.loop-i-preserved c in
    let s = placed at.After-slot-at in
    record {
      marked = marks-more d.files l.i c.slot-at.result l.seen v.marked s.slotted;
      short = omega (arith, v.short);
      ends = rw (v.ends, c.size.ensures.is, s.file) (sym (start-more d.files l.i));
      within = c.if-area-to.false;
      sound = below_more (sound_place d) l.i v.sound (file-passes d l.i s.inside (ap sound_file (sym s.file) ∙ sym c.sound_file.ensures ∙ c.if-not-sound_file.false));
      lone = below_more (alone d.files) l.i v.lone (sym s.single ∙ eq-eqb (get_or l.seen c.slot-at.result 0) 0 c.if-seen-at-ne0.false);
      parted = below_more (parted_place d c.args.area.now) l.i v.parted (sym (parted-here at.After-is_parted s) ∙ c.if-not-is_parted.false);
      housed = below_more (λ (i : ℕ). housed d (file_at d.files i)) l.i v.housed (le-leb (file_at d.files l.i).folder d.number s.home);
    }

pub shared_ref_as_front-x-items : goal.shared_ref_as_front-x-items
shared_ref_as_front-x-items c = (folders-good (goal.at.shared_ref_as_front-x-items c).After-loop-i).few

pub slice_bounds-x-items-end : goal.slice_bounds-x-items-end
slice_bounds-x-items-end c = let g = folders-good (goal.at.slice_bounds-x-items-end c).After-loop-i in
    omega (arith, g.few, g.places, length-take c.from-number.result c.args.d.folders)

pub loop-x-init : goal.loop-x-init
loop-x-init c = below_none (λ (k : ℕ). root_lacks c.args.d.files c.from-n.result (folder_fid (folder_at c.args.d.folders k)))

pub offset_bounds-d-place : goal.offset_bounds-d-place
offset_bounds-d-place c = omega (arith, marked_low (goal.at.offset_bounds-d-place c).After-from-place)

pub bounds-d-place : goal.bounds-d-place
bounds-d-place c = omega (arith, marked_low (goal.at.bounds-d-place c).After-from-place)

pub returns-then-has_fid : goal.returns-then-has_fid
returns-then-has_fid c = let d = c.args.d in
    let at = goal.at.returns-then-has_fid c in
    let x = in-front at.After-from-place in
    let g = folders-good at.After-loop-i in
    let has : eqb (fid (file_at d.files (c.from-place.result - 1))) (folder_fid (folder_at d.folders c.loop-x.x-index)) ≡ true = rw x.1 at (sym c.has_fid.ensures ∙ c.if-has_fid.true) in
    let f = found d.files c.from-n.result _ c.from-place.result (told at.After-from-place) c.if-place-ne0.true has in
    let no = not-apart d c.from-number.result c.from-number.ensures g.few (c.from-place.result - 1) c.loop-x.x-index x.0 f.1 f.2 in
    unsound-files d c.args.area.now _ (apart-fails d (omega arith) (below-fail (apart_at d) d.count (c.from-place.result - 1) (omega (arith, f.0)) no))

pub loop-x-preserved : goal.loop-x-preserved
loop-x-preserved c = let d = c.args.d in
    let at = goal.at.loop-x-preserved c in
    let n = c.from-n.result in
    let x = in-front at.After-from-place in
    let m = folder_fid (folder_at d.folders c.loop-x.x-index) in
    let p = c.from-place.result in
    let t = told at.After-from-place in
    let lone : all_below (alone d.files) n ≡ true = sym (ap (all_below (alone d.files)) (ended at.After-loop-i)) ∙ c.loop-i.invariant.lone in
    let no : root_lacks d.files n m ≡ true =
    elim c.else-place-ne0.branch [
      | else-place-ne0-via-then-place-ne0+else-has_fid w ↦ other-marked d.files n m p t (omega (arith, w.if-place-ne0.true)) lone (rw x.1 at (sym w.has_fid.ensures ∙ w.if-has_fid.false))
      | else-place-ne0-via-else-place-ne0 w ↦ none-marked d.files n m p t w.if-place-ne0.false
    ] in
    below_more (λ (k : ℕ). root_lacks d.files n (folder_fid (folder_at d.folders k))) c.loop-x.x-index c.loop-x.invariant no

pub loop-f-init : goal.loop-f-init
loop-f-init c = let d = c.args.d in
    let e : c.loop-i.i ≡ c.from-n.result + 0 = omega (arith, ended (goal.at.loop-f-init c).After-loop-i) in
    sym (sym (ap (all_below (sound_place d)) e) ∙ c.loop-i.invariant.sound)

pub loop-f-preserved : goal.loop-f-preserved
loop-f-preserved c = let d = c.args.d in
    let n = c.from-n.result in
    let i = c.loop-f.f-index in
    let m : n + (i + 1) ≡ n + i + 1 = omega arith in
    let b = behind d.files n i blank_file c.loop-f-test.true in
    rw m (rest_more d (n + i) c.loop-f.rest c.filled-rest.result (omega arith) c.loop-f.invariant (c.filled-rest.ensures ∙ ap unused_place b))

pub returns-then-current-eq0 : goal.returns-then-current-eq0
returns-then-current-eq0 c = rw (whole (goal.at.returns-then-current-eq0 c).After-loop-f) (grind (arith, common_steps))

pub returns-else-current-eq0 : goal.returns-else-current-eq0
returns-else-current-eq0 c = rw (whole (goal.at.returns-else-current-eq0 c).After-loop-f) (grind (arith, common_steps))

pub returns-else-good : goal.returns-else-good
returns-else-good c = rw (whole (goal.at.returns-else-good c).After-loop-f) (grind (arith, common_steps))
