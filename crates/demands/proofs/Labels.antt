-- The ledger's tree and the card's files and directories: what CREATE FILE and SELECT ask of either is the same.
use Prim.Native.Nat.{ℕ, suc, ◌+◌, ◌-◌, ◌*◌, ◌/◌, ◌%◌, ◌≤◌, ◌<◌, min}
use mathlib.Core.Bool.{Bool, true, false, cond, ◌&&◌, ◌||◌, not}
use mathlib.Core.List.{List, [], ◌∷◌}
use mathlib.Core.Logic.{by_cases}
use mathlib.Core.Path.{◌≡◌, refl, sym, ap, ◌∙◌}
use native.Mathlib.Decide.{ℕ_discrete}
use native.Mathlib.Omega.{arith}
use lib.ListN.{length, set}
use lib.Dec.{eqb, leb}
use borrow.Author.Tests.{eq-eqb, ne_eqb}
use Rattle.files.specs.declared.File.{File}
use Rattle.files.specs.declared.Directory.{Directory}
use Rattle.files.specs.Words.{seek, is_zero}
use Rattle.files.specs.Types.{is_variable, sized_in_bytes, has_records, count, record_length, size, good_shape}
use Rattle.files.specs.Rights.{good_rights, good_file_rights, all_held, allowed}
use Rattle.files.specs.Directory.{used, file_at, start_at, find_fid, find_sfi, folder_at, folder, find_folder}
use Rattle.files.specs.Record.{appended}
use Rattle.files.specs.Create.{good_contents, apart, name_unused, fid_unused, room, folder_room}
use Rattle.files.proofs.Checks.{clash, split}
use Rattle.files.proofs.Extents.{count-bytes, count-records, length-records, size-bytes, size-records, file-set, file-other, used-is}
use Rattle.rules.specs.declared.Card.{Card}
use Rattle.rules.specs.State.{device, admin, user, logins}
use Rattle.rules.specs.Frame.{Command, p}
use Rattle.rules.specs.Target.{opens}
use Rattle.rules.specs.Select.{selected, select_checks, select_deed}
use Rattle.rules.specs.Effect.{Deed, turns, enters, shows, stores, appends, makes, founds}
use Rattle.rules.specs.Create.{file_given, is_folder, folder_given, good_folder_given, creation_right, create_checks, create_deed}
use Rattle.demands.specs.Ledger.{Label, Tag, Tree, no_tag, label_given, tag_given, fid_of, sfi_of, fid_of_tag, size_of, good_size, good_right, good_file_right, has_name, tagged, tag_in, bytes_taken, satisfied, may_create, asks_folder, good_data, name_free, room_for, make_checks, with_made, turned_to, fid_asked, seek_checks, leads_to}
use Rattle.demands.specs.Held.{label_of, tag_of}
use Rattle.demands.proofs.Trees.{EachIs, each_same, each_at, satisfied-is}

-- each file and each directory made, the latest first, is what the tree says; and the current directory is the tree's
pub record Matches (d : Directory) (current : ℕ) (t : Tree) : Type 0 where
  pub count-is : d.count ≡ length t.labels
  pub each_label : EachIs Label (λ i. label_of (file_at d.files i)) t.labels
  pub number_is : d.number ≡ length t.tags
  pub each-tag : EachIs Tag (λ i. tag_of (folder_at d.folders i)) t.tags
  pub current-is : current ≡ t.current

-- the rights byte, in the ledger's words: without bit 3, and with it
same_test : (a b : ℕ) → (a ≡ 0 → b ≡ 0) → (b ≡ 0 → a ≡ 0) → eqb a 0 ≡ eqb b 0
same_test a b f g = by_cases (ℕ_discrete a 0) (λ e. rw (eq-eqb a 0 e, eq-eqb b 0 (f e))) (λ n. rw (ne_eqb a 0 n, ne_eqb b 0 (λ e. n (g e))))

both_true : (a b : Bool) → (a && b) ≡ (a && (b && true))
both_true true true = refl
both_true true false = refl
both_true false b = refl

label-right : (b : ℕ) → good_file_rights b ≡ good_file_right b
unfolding good_file_rights good_rights
label-right b =
    let parts : b ≡ 8 * (b / 8) + 4 * (b / 4 % 2) + b % 4 = omega arith in
    by_cases (ℕ_discrete (b / 4 % 2) 0)
    (λ z. let x : b - 4 * (b / 4 % 2) ≡ b = omega arith in
    let half : b / 4 ≡ 2 * (b / 8) = omega arith in
    rw (x, ne_eqb b 15 (λ e. omega (arith, z, e)), ne_eqb b 6 (λ e. omega (arith, z, e)), same_test (b / 4 % 16) (b / 8 % 8) (λ e. twice (b / 8) (rw half at e)) (λ e. rw half (twice-back (b / 8) e)))
    (both_true (eqb (b / 8 % 8) 0) (not (eqb b 2))))
    (λ n. let one : b / 4 % 2 ≡ 1 = omega arith in
    let x : b - 4 * (b / 4 % 2) ≡ b - 4 = omega arith in
    let four : 4 ≤ b = omega arith in
    let half : (b - 4) / 4 ≡ 2 * (b / 8) = omega arith in
    rw (x, ne_eqb (b - 4) 15 (λ e. omega (arith, one, four, e)), ne_eqb b 2 (λ e. omega (arith, four, e)), same_test ((b - 4) / 4 % 16) (b / 8 % 8) (λ e. twice (b / 8) (rw half at e)) (λ e. rw half (twice-back (b / 8) e)), six b four))
  where
    twice : (n : ℕ) → 2 * n % 16 ≡ 0 → n % 8 ≡ 0
    twice n e = let q : 2 * n / 16 ≡ n / 8 = omega arith in omega arith

    twice-back : (n : ℕ) → n % 8 ≡ 0 → 2 * n % 16 ≡ 0
    twice-back n e = let q : 2 * n / 16 ≡ n / 8 = omega arith in omega arith

    six : (b : ℕ) → 4 ≤ b → eqb (b - 4) 2 ≡ eqb b 6
    six b h = by_cases (ℕ_discrete b 6) (λ e. rw (eq-eqb (b - 4) 2 (omega arith), eq-eqb b 6 e)) (λ n. rw (ne_eqb (b - 4) 2 (λ e. n (omega arith)), ne_eqb b 6 n))

-- what a label tells of a file
module _ (f : File) where
  pub label-size : size f ≡ size_of (label_of f)
  unfolding size_of
  label-size = split (λ n. size f ≡ n) (sized_in_bytes f) (size-bytes f) (size-records f)

  label-shape : good_shape f ≡ good_size (label_of f)
  unfolding good_shape good_size
  label-shape = go (sized_in_bytes f) refl
    where
      no_third : (s a b v : Bool) → (s || v) ≡ false → (a || (b || v)) ≡ (a || b)
      no_third true a b v h = clash true refl h
      no_third false a b true h = clash true refl h
      no_third false true b false h = refl
      no_third false false true false h = refl
      no_third false false false false h = refl

      go : (b : Bool) → sized_in_bytes f ≡ b
          → cond b (leb (cond (is_variable f) 2 1) (count f) && leb (count f) 4096)
          (has_records f && (leb 2 (count f) && (leb (count f) 254 && (leb 1 (record_length f) && leb (record_length f) 178))))
          ≡ cond b (leb (cond (is_variable f) 2 1) (size_of (label_of f)) && leb (size_of (label_of f)) 4096)
          ((eqb f.kind 0x2A || eqb f.kind 0x2E) && (leb 2 f.size1 && (leb f.size1 254 && (leb 1 f.size2 && leb f.size2 178))))
      go true e = rw (count-bytes f e, ← label-size, size-bytes f e)
      go false e =
          rw (count-records f e, length-records f e, no_third (eqb f.kind 0x28) (eqb f.kind 0x2A) (eqb f.kind 0x2E) (eqb f.kind 0x2C) e)

  label-contents : good_contents f ≡ (good_size (label_of f) && (good_file_right f.read && good_file_right f.write))
  unfolding good_contents
  label-contents = rw (label-right f.read, label-right f.write) (ap (λ b. b && (good_file_right f.read && good_file_right f.write)) label-shape)

-- of the files made so far: a search among them, and the bytes that they take
label-unused : (name : Label → ℕ) (has : ℕ → Label) (directory n : ℕ) (made : List Label) → EachIs Label has made
    → is_zero (seek (λ i. eqb (has i).within directory && eqb (name (has i)) n) (length made)) ≡ not (has_name name directory n made)
unfolding seek has_name
label-unused name has directory n [] h = refl
label-unused name has directory n (x ∷ earlier) h =
    go (eqb (has (length earlier)).within directory && eqb (name (has (length earlier))) n) (label-unused name has directory n earlier h.1)
    ∙ ap (λ (y : Label). not ((eqb y.within directory && eqb (name y) n) || has_name name directory n earlier)) h.0
  where
    go : (b : Bool) → is_zero (seek (λ i. eqb (has i).within directory && eqb (name (has i)) n) (length earlier)) ≡ not (has_name name directory n earlier)
        → is_zero (cond b (suc (length earlier)) (seek (λ i. eqb (has i).within directory && eqb (name (has i)) n) (length earlier)))
        ≡ not (b || has_name name directory n earlier)
    go true e = ne_eqb (suc (length earlier)) 0 (λ q. omega arith)
    go false e = e

label-taken : (files : List File) (made : List Label) → EachIs Label (λ i. label_of (file_at files i)) made → start_at files (length made) ≡ bytes_taken made
unfolding start_at bytes_taken
label-taken files [] h = refl
label-taken files (x ∷ earlier) h =
    ap (λ n. n + size (file_at files (length earlier))) (label-taken files earlier h.1)
    ∙ ap (λ n. bytes_taken earlier + n) (label-size (file_at files (length earlier)) ∙ ap size_of h.0)

-- of the directories made so far
tag-found : (has : ℕ → Tag) (n : ℕ) (made : List Tag) → EachIs Tag has made → seek (λ i. eqb (fid_of_tag (has i)) n) (length made) ≡ tagged n made
unfolding seek tagged
tag-found has n [] h = refl
tag-found has n (x ∷ earlier) h =
    ap (λ (y : Tag). cond (eqb (fid_of_tag y) n) (suc (length earlier)) (seek (λ i. eqb (fid_of_tag (has i)) n) (length earlier))) h.0
    ∙ ap (λ m. cond (eqb (fid_of_tag x) n) (suc (length earlier)) m) (tag-found has n earlier h.1)

-- a file put past the last, or one with the same label
module _ (files : List File) (made : List Label) (j : ℕ) (f : File) where
  pub each-past : length made ≤ j → EachIs Label (λ i. label_of (file_at files i)) made → EachIs Label (λ i. label_of (file_at (set files j f) i)) made
  each-past l h =
      each_same Label (λ i. label_of (file_at files i)) (λ i. label_of (file_at (set files j f) i)) made
      (λ i m. ap label_of (file-other files j f i (λ e. omega arith))) h

  pub each_again : j < length files → label_of f ≡ label_of (file_at files j) → EachIs Label (λ i. label_of (file_at files i)) made
      → EachIs Label (λ i. label_of (file_at (set files j f) i)) made
  each_again l e h =
      each_same Label (λ i. label_of (file_at files i)) (λ i. label_of (file_at (set files j f) i)) made
      (λ i m. by_cases (ℕ_discrete i j)
      (λ q. ap (λ z. label_of (file_at (set files j f) z)) q ∙ ap label_of (file-set files j f l) ∙ e ∙ ap (λ z. label_of (file_at files z)) (sym q))
      (λ o. ap label_of (file-other files j f i o))) h

-- an append leaves the label
pub appended-label : (f : File) (n : ℕ) → label_of (appended f n) ≡ label_of f
unfolding appended
appended-label f n = split (λ (g : File). label_of g ≡ label_of f) (is_variable f) (λ e. refl) (λ e. refl)

-- what CREATE FILE gives
pub given-label : (current : ℕ) (k : Command) → label_of (file_given current k) ≡ label_given current k
unfolding file_given
given-label current k = refl

pub given-tag : (k : Command) → tag_of (folder_given k) ≡ tag_given k
unfolding folder_given
given-tag k = refl

given-sfi : (current : ℕ) (k : Command) → p k % 32 ≡ sfi_of (label_given current k)
given-sfi current k = refl

given-kind : (current : ℕ) (k : Command) → is_folder k ≡ asks_folder (label_given current k)
given-kind current k = refl

-- what the card finds the tree finds
module _ (d : Directory) (few : d.count ≤ 16) (less : d.number ≤ 4) (current : ℕ) (t : Tree) (m : Matches d current t) where
  used-made : used d ≡ length t.labels
  used-made = used-is d few ∙ m.count-is

  found-fid : (directory n : ℕ) → is_zero (find_fid d directory n) ≡ not (has_name fid_of directory n t.labels)
  unfolding find_fid
  found-fid directory n = rw used-made (label-unused fid_of (λ i. label_of (file_at d.files i)) directory n t.labels m.each_label)

  found-sfi : (directory n : ℕ) → is_zero (find_sfi d directory n) ≡ not (has_name sfi_of directory n t.labels)
  unfolding find_sfi
  found-sfi directory n = rw used-made (label-unused sfi_of (λ i. label_of (file_at d.files i)) directory n t.labels m.each_label)

  found-folder : (n : ℕ) → find_folder d n ≡ tagged n t.tags
  unfolding find_folder
  found-folder n =
      let e : min d.number 4 ≡ length t.tags = omega (arith, m.number_is, less) in
      rw e (tag-found (λ i. tag_of (folder_at d.folders i)) n t.tags m.each-tag)

  pub right_is : (n : ℕ) → 1 ≤ n → n ≤ d.number → tag_of (folder d n) ≡ tag_in t.tags n
  right_is n some low = each_at Tag no_tag (λ i. tag_of (folder_at d.folders i)) t.tags n some (omega (arith, m.number_is, low)) m.each-tag

-- the tree that a deed leaves
abbrev pub tree_by : Deed → Tree → Tree
tree_by (turns place) t = t
tree_by (enters n) t = turned_to t n
tree_by (shows place at n) t = t
tree_by (stores place at d) t = t
tree_by (appends place d) t = t
tree_by (makes f) t = record { labels = label_of f ∷ t.labels; tags = t.tags; current = t.current }
tree_by (founds x) t = record { labels = t.labels; tags = tag_of x ∷ t.tags; current = t.current }

-- the device right, as a rights byte
pub device-asked : (x y z : Bool) → allowed x y z 0x01 ≡ x
unfolding allowed all_held
device-asked x y z = refl

not-not : (b : Bool) → not (not b) ≡ b
not-not true = refl
not-not false = refl

-- what CREATE FILE and SELECT ask of the card they ask of the tree
module _ (c : Card) (few : c.directory.count ≤ 16) (less : c.directory.number ≤ 4) (low : c.session.folder ≤ c.directory.number)
    (t : Tree) (m : Matches c.directory c.session.folder t) (k : Command) where
  abbrev d : Directory
  d = c.directory

  abbrev now : ℕ
  now = c.session.folder

  pub right-same : opens c (creation_right c) ≡ may_create (logins c) t
  unfolding creation_right
  right-same =
      by_cases (ℕ_discrete now 0)
      (λ e. rw (← m.current-is, eq-eqb now 0 e) (device-asked (logins c device).held (logins c admin).held (logins c user).held))
      (λ o. rw (← m.current-is, ne_eqb now 0 o)
      (sym (satisfied-is (logins c) (folder d now).right)
      ∙ ap (λ (x : Tag). satisfied (logins c) x.create) (right_is d few less now t m now (omega arith) low)))

  abbrev x : Label
  x = label_given c.session.folder k

  folder-data : good_folder_given k ≡ (eqb x.size1 0 && (eqb x.size2 0 && (eqb x.write 0 && good_right x.read)))
  unfolding good_folder_given good_rights
  folder-data = refl

  file-data : good_contents (file_given now k) ≡ (good_size x && (good_file_right x.read && good_file_right x.write))
  unfolding file_given
  file-data = label-contents (file_given now k)

  data-same : cond (is_folder k) (good_folder_given k) (good_contents (file_given now k)) ≡ good_data x
  data-same = rw (given-kind now k, folder-data, file-data)

  name-same : cond (is_folder k) (fid_unused d (p k)) (name_unused d (file_given now k)) ≡ name_free t x
  unfolding fid_unused name_unused apart file_given
  name-same = rw (found-folder d few less now t m (p k), found-fid d few less now t m 0 (p k), found-sfi d few less now t m now (p k % 32))

  room-same : cond (is_folder k) (folder_room d) (room d (file_given now k)) ≡ room_for t x
  unfolding room
  room-same =
      let e : size (file_given now k) ≡ size_of x = label-size (file_given now k) ∙ ap size_of (given-label now k) in
      rw (given-kind now k, used-made d few less now t m, m.number_is, m.count-is, label-taken d.files t.labels m.each_label, e)

  pub create-same : create_checks c k ≡ make_checks (logins c) t k
  unfolding create_checks make_checks
  create-same = rw (right-same, data-same, name-same, room-same, given-sfi now k, given-kind now k, m.current-is)

  -- a SELECT
  here-same : is_zero (selected c k) ≡ not (has_name fid_of t.current (fid_asked k) t.labels)
  here-same = rw (← m.current-is) (found-fid d few less now t m now (fid_asked k))

  pub select-same : select_checks c k ≡ seek_checks t k
  unfolding select_checks seek_checks
  select-same = rw (here-same, not-not (has_name fid_of t.current (fid_asked k) t.labels), found-folder d few less now t m (fid_asked k))

  pub select-leads : tree_by (select_deed c k) t ≡ turned_to t (leads_to t k)
  unfolding leads_to
  select-leads = rw (here-same, found-folder d few less now t m (fid_asked k)) (go (has_name fid_of t.current (fid_asked k) t.labels))
    where
      go : (b : Bool)
          → tree_by (cond (not b) (enters (tagged (fid_asked k) t.tags)) (turns (selected c k))) t ≡ turned_to t (cond b t.current (tagged (fid_asked k) t.tags))
      go true = refl
      go false = refl

  -- and what CREATE FILE leaves
  pub create-leaves : tree_by (create_deed c k) t ≡ with_made t k
  create-leaves = rw (m.current-is, given-kind t.current k) (go (asks_folder (label_given t.current k)))
    where
      go : (b : Bool) → tree_by (cond b (founds (folder_given k)) (makes (file_given t.current k))) t
          ≡ cond b (record { labels = t.labels; tags = tag_given k ∷ t.tags; current = t.current })
          (record { labels = label_given t.current k ∷ t.labels; tags = t.tags; current = t.current })
      go true = ap (λ (x : Tag). record { labels = t.labels; tags = x ∷ t.tags; current = t.current }) (given-tag k)
      go false = ap (λ (x : Label). record { labels = x ∷ t.labels; tags = t.tags; current = t.current }) (given-label t.current k)
