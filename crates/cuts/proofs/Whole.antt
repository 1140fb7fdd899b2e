-- The proof of `specs/Whole`.
use Prim.Native.Nat.{ℕ, ◌+◌, ◌-◌, ◌/◌, ◌%◌, ◌≤◌, ◌<◌, min}
use mathlib.Core.Bool.{Bool, true, false, cond, ◌&&◌}
use mathlib.Core.List.{List, [], ◌∷◌, ◌++◌}
use mathlib.Core.Path.{◌≡◌, refl, sym, ap, ap₂, subst, ◌∙◌}
use native.Mathlib.Omega.{arith}
use lib.ListN.{length, get_or, set, length-replicate}
use lib.Dec.{eqb}
use lib.Seq.{sets, get_or-set_same}
use borrow.Author.Tests.{eqb-true}
use Rattle.files.specs.declared.File.{File}
use Rattle.files.specs.declared.Folder.{Folder}
use Rattle.files.specs.declared.Directory.{Directory}
use Rattle.files.specs.Words.{is_zero}
use Rattle.files.specs.Part.{splice, zeros}
use Rattle.files.specs.State.{blank_file, blank_folder, emptied, with_file, with_files, with_count, with_folders, with_number, file_bytes, folder_bytes}
use Rattle.files.specs.Types.{is_variable, count, size}
use Rattle.files.specs.Directory.{start, end}
use Rattle.files.specs.Record.{bytes_used, next_place, next_start, appended, appends_record}
use Rattle.files.specs.Record as files
use Rattle.files.specs.Create.{area_size, created, founded}
use Rattle.files.proofs.Checks.{both, split}
use Rattle.files.proofs.Lists.{knows}
use Rattle.files.proofs.Appends.{takes, grows-cyclic, appended-cyclic, appended-variable}
use Rattle.files.proofs.Kept.{filed}
use Rattle.files.proofs.Making.{makes as made_in}
use Rattle.rules.specs.declared.Card.{Card}
use Rattle.rules.specs.declared.Credential.{Credential}
use Rattle.rules.specs.declared.Journal.{Journal}
use Rattle.rules.specs.declared.Ins.{Ins}
use Rattle.rules.specs.Words.{same, all_of}
use Rattle.rules.specs.Tries.{full, restored}
use Rattle.rules.specs.State.{Which, number_of, marked, mode, no_credential, login, logins, with_credentials, with_directory, with_journal, no_journal, credential_of, with_tries, with_value, with_current, with_folder, with_left}
use Rattle.rules.specs.State as state
use Rattle.rules.specs.Sound.{is_key, sound, sound_value}
use Rattle.rules.specs.Frame.{Command, framed}
use Rattle.rules.specs.Effect.{Deed, turns, enters, shows, stores, appends, makes, founds, Touch, nothing, presents, changes, reloads, challenges, Effect, effect, answers, Stepped}
use Rattle.rules.specs.Target.{file_of}
use Rattle.rules.specs.Record.{record_found}
use Rattle.rules.specs.Pins.{compared_at}
use Rattle.rules.specs.List.{listed}
use Rattle.rules.specs.Response.{fetches, delivered, fetched}
use Rattle.rules.specs.Step.{did, touched, outcome, settled, at_once, step}
use Rattle.rules.specs.Calls.{cleared}
use Rattle.rules.proofs.Good.{Good, sound-good, numbered, pin-short}
use Rattle.rules.proofs.Targets.{place-run}
use Rattle.demands.proofs.Rows.{Fair, FairTouch}
use Rattle.demands.proofs.Delivered.{fetched-by}
use Rattle.power.specs.Store.{memory, Store, tries_left, entry_byte, file_count, folder_byte, folder_count, area_byte, with_byte, with_folder_byte, alter_file, put, puts, row}
use Rattle.power.specs.Journal.{credential, entry, value_bytes, known_bytes, with_value_of, with_known, redo, journaled}
use Rattle.power.specs.Plan.{is_full, deed_stores, touch_stores, idle, Act, act, planned, act_of, stores_for, stores_of}
use Rattle.power.proofs.Alter.{alter-twice, alter-set, alter-as}
use Rattle.power.proofs.Cuts.{puts-append}
use Rattle.power.proofs.Rows.{sets-splice, row-area, over_bytes, row-entry, row-folder}
use Rattle.power.proofs.Journal.{journal-whole}
use Rattle.power.proofs.Fits.{value_made, credential-fit, entry-fit}
use Rattle.cuts.specs.Whole.{SameLasting, StoredInFull}
use Rattle.cuts.specs.Cut.{presented_to, heard}
use Rattle.cuts.proofs.Planned.{Code, Behind, plan-by}
use Rattle.cuts.proofs.Doing.{Doing, doing}
use Rattle.cuts.proofs.Heard.{present-put, heard-put, heard-files, heard-sound}

-- a card with an empty journal
pub empty-journal : (c : Card) → c.journal ≡ no_journal → c ≡ with_journal c no_journal
empty-journal c e = ap (with_journal c) e

-- what an entry knows of its records after an append is all that changes
pub known-made : (f : File) (n : ℕ) → with_known (known_bytes (appended f n)) f ≡ appended f n
unfolding appended
known-made f n = split (λ (x : File). with_known (known_bytes x) f ≡ x) (is_variable f) (λ e. refl) (λ e. refl)

-- a sound credential has 16 bytes for its value
pub value-sixteen : (c : Card) → Good c → (w : Which) → length (state.credential c (number_of w)).value ≡ 16
unfolding sound_value
value-sixteen c g w = eqb-true _ _ (both (eqb (length x.value) 16) _ (g.credited (number_of w) (numbered w)).value).0
  where
    x : Credential
    x = state.credential c (number_of w)

-- ---- the card after the stores of each kind
module _ (c : Card) (w : Which) where
  -- a new value
  pub value-put : (d : List ℕ) → length d ≤ 16 → redo (credential (number_of w)) (value_bytes d) c ≡ with_value w c d
  value-put d short =
      ap (with_credentials c)
      (alter-set (with_value_of (value_bytes d)) c.credentials (number_of w) no_credential
      ∙ ap (set c.credentials (number_of w)) (value_made d short (state.credential c (number_of w))))

module _ (c : Card) (place : ℕ) where
  -- what the file knows after an append, whether or not the oldest went before
  pub known-put : (m : ℕ) → redo (entry (place - 1)) (known_bytes (appended (file_of c place) m)) c ≡ with_directory c (with_file c.directory (place - 1) (appended (file_of c place) m))
  known-put m =
      ap (λ (l : List File). with_directory c (with_files c.directory l))
      (alter-set (with_known (known_bytes (appended (file_of c place) m))) c.directory.files (place - 1) blank_file
      ∙ ap (set c.directory.files (place - 1)) (known-made (file_of c place) m))

  -- the card once the oldest record is gone
  abbrev pub without_oldest : Card
  without_oldest = alter_file (with_byte 7 ((file_of c place).held - 1)) (place - 1) c

  pub known-after : (b : List ℕ) → redo (entry (place - 1)) b without_oldest ≡ redo (entry (place - 1)) b c
  known-after b =
      ap (λ (l : List File). with_directory c (with_files c.directory l))
      (alter-twice (with_known b) (with_byte 7 ((file_of c place).held - 1)) (with_known b) (λ f. refl) c.directory.files (place - 1))

-- a new entry and the number of files
pub entry-put : (c : Card) (f : File) (area : List ℕ)
    → puts (row (entry_byte c.directory.count) 0 (file_bytes (emptied f)) ++ (file_count (c.directory.count + 1) ∷ [])) (memory c area)
    ≡ memory (with_directory c (created c.directory f)) area
unfolding created
entry-put c f area =
    puts-append (row (entry_byte n) 0 (file_bytes (emptied f))) (file_count (n + 1) ∷ []) (memory c area)
    ∙ ap (put (file_count (n + 1))) (row-entry n 0 (file_bytes (emptied f)) (memory c area))
    ∙ ap (λ (l : List File). memory (with_directory c (with_count (with_files c.directory l) (n + 1))) area)
    (alter-set (over_bytes with_byte 0 (file_bytes (emptied f))) c.directory.files n blank_file)
  where
    n : ℕ
    n = c.directory.count

-- a new directory and the number of directories
pub folder-put : (c : Card) (x : Folder) (area : List ℕ)
    → puts (row (folder_byte c.directory.number) 0 (folder_bytes x) ++ (folder_count (c.directory.number + 1) ∷ [])) (memory c area)
    ≡ memory (with_directory c (founded c.directory x)) area
unfolding founded
folder-put c x area =
    puts-append (row (folder_byte n) 0 (folder_bytes x)) (folder_count (n + 1) ∷ []) (memory c area)
    ∙ ap (put (folder_count (n + 1))) (row-folder n 0 (folder_bytes x) (memory c area))
    ∙ ap (λ (l : List Folder). memory (with_directory c (with_number (with_folders c.directory l) (n + 1))) area)
    (alter-set (over_bytes with_folder_byte 0 (folder_bytes x)) c.directory.folders n blank_folder)
  where
    n : ℕ
    n = c.directory.number

-- what an entry knows after an append is not nothing
some_known : (a b c d : ℕ) → (a ≡ 0 → c ≡ 0 → d ≡ 0 → ⊥) → all_of is_zero (a ∷ b ∷ c ∷ d ∷ []) ≡ false
unfolding all_of
some_known a b c d n = go (is_zero a && (is_zero b && (is_zero c && (is_zero d && true)))) refl
  where
    go : (t : Bool) → (is_zero a && (is_zero b && (is_zero c && (is_zero d && true)))) ≡ t → t ≡ false
    go true e =
        let x = both (is_zero a) (is_zero b && (is_zero c && (is_zero d && true))) e in
        let y = both (is_zero c) (is_zero d && true) (both (is_zero b) (is_zero c && (is_zero d && true)) x.1).1 in
        absurd (n (eqb-true a 0 x.0) (eqb-true c 0 y.0) (eqb-true d 0 (both (is_zero d) true y.1).0))
    go false e = refl

pub known_some : (f : File) (n : ℕ) → appends_record f n ≡ true → all_of is_zero (known_bytes (appended f n)) ≡ false
known_some f n a = go (is_variable f) refl
  where
    go : (b : Bool) → is_variable f ≡ b → all_of is_zero (known_bytes (appended f n)) ≡ false
    go true v =
        rw (appended-variable f n v)
        (some_known f.held f.newest ((bytes_used f + 1 + n) / 256) ((bytes_used f + 1 + n) % 256) (λ h x y. omega (arith, x, y)))
    go false v =
        let w = knows f (grows-cyclic f (takes f n a).kind v) (takes f n a).sound in
        rw (appended-cyclic f n v) (some_known (min (f.held + 1) (count f)) (next_place f) f.used1 f.used2 (λ h x y. omega (arith, h, w.newest)))

-- what the stores of a command leave beside its effect
abbrev Left : Card → List ℕ → Effect → List Store → Type 0
Left c area e xs = SameLasting (puts xs (memory c area)) e.card (splice area e.into e.stores)

module _ (c : Card) (area : List ℕ) (h : sound c area ≡ true) (size_is : length area ≡ area_size) where
  abbrev g : Good c
  g = sound-good c area h

  -- bytes of a file stored
  file-fits : (place at : ℕ) (bytes : List ℕ) → 1 ≤ place → place ≤ c.directory.count → at + length bytes ≤ size (file_of c place)
      → start c.directory place + at + length bytes ≤ length area
  file-fits place at bytes some low fits = rw size_is (place-run c.directory g.directory place some low at (length bytes) fits)

  pub place-low : (place : ℕ) → 1 ≤ place → place ≤ c.directory.count → place - 1 < 16
  place-low place s l = omega (arith, (filed c.directory g.directory).few)

  none_left : (sw : ℕ) (x : Card) (said : List ℕ) (from n : ℕ) → cleared c ≡ cleared x → Left c area (effect sw x said from n 0 []) []
  unfolding splice
  none_left sw x said from n e = record { card-is = e; area-is = refl }

  same_left : (x : Card) → SameLasting (memory x area) x (splice area 0 [])
  unfolding splice
  same_left x = record { card-is = refl; area-is = refl }

  -- the record and what the file knows of it
  append-rest : (x : Card) (place a : ℕ) (bytes : List ℕ) (f : File) → x.journal ≡ no_journal → place < 16 → place < x.directory.count
      → all_of is_zero (known_bytes f) ≡ false → a + length bytes ≤ length area
      → puts (row area_byte a bytes ++ journaled (entry place) (known_bytes f)) (memory x area)
      ≡ memory (with_journal (redo (entry place) (known_bytes f) x) no_journal) (splice area a bytes)
  append-rest x place a bytes f e low there known fits =
      puts-append (row area_byte a bytes) (journaled (entry place) (known_bytes f)) (memory x area)
      ∙ ap (puts (journaled (entry place) (known_bytes f)))
      (row-area a bytes (memory x area) ∙ ap₂ memory (empty-journal x e) (sets-splice area a bytes fits))
      ∙ journal-whole x (splice area a bytes) (entry place) (known_bytes f) (entry-fit x (splice area a bytes) place f low there known)

  deed-left : (d : Deed) → Doing c.directory area d → Left c area (did c d) (deed_stores c d)
  unfolding created
  deed-left (turns place) q = none_left 0x9000 (with_current c place) [] 0 0 refl
  deed-left (enters n) q = none_left 0x9000 (with_folder c n) [] 0 0 refl
  deed-left (shows place at n) q = none_left 0x9000 (with_current c place) [] (start c.directory place + at) n refl
  deed-left (stores place at bytes) q =
      rw (row-area (start c.directory place + at) bytes (memory c area))
      (record { card-is = refl; area-is = sets-splice area (start c.directory place + at) bytes (file-fits place at bytes q.some q.low q.fits) })
  deed-left (appends place d) q = go (is_full f)
    where
      f : File
      f = file_of c place

      a : ℕ
      a = start c.directory place + next_start f

      new : File
      new = appended f (length d)

      there : place - 1 < c.directory.count
      there = omega (arith, q.some, q.low)

      left_by : (x : Card) → x.journal ≡ no_journal → x.directory.count ≡ c.directory.count
          → redo (entry (place - 1)) (known_bytes new) x ≡ redo (entry (place - 1)) (known_bytes new) c
          → SameLasting (puts (row area_byte a (files.entry f d) ++ journaled (entry (place - 1)) (known_bytes new)) (memory x area))
          (did c (appends place d)).card (splice area a (files.entry f d))
      left_by x e n r =
          rw (append-rest x (place - 1) a (files.entry f d) new e (place-low place q.some q.low) (omega (arith, there, n)) (known_some f (length d) q.served)
          (file-fits place (next_start f) (files.entry f d) q.some q.low q.fits))
          (record {
            card-is =
                ap (λ (y : Card). cleared (with_journal y no_journal)) (r ∙ known-put c place (length d))
                ∙ ap (λ (j : Journal). cleared (with_journal (with_directory c (with_file c.directory (place - 1) new)) j)) (sym g.journal);
            area-is = refl;
          })

      go : (b : Bool)
          → SameLasting
          (puts (cond b (entry_byte (place - 1) 7 (f.held - 1) ∷ []) [] ++ (row area_byte a (files.entry f d) ++ journaled (entry (place - 1)) (known_bytes new)))
          (memory c area))
          (did c (appends place d)).card (splice area a (files.entry f d))
      go true = left_by (without_oldest c place) g.journal refl (known-after c place (known_bytes new))
      go false = left_by c g.journal refl refl
  deed-left (makes f) q =
      rw (
        puts-append (row area_byte (end c.directory) (zeros (size f)))
            (row (entry_byte c.directory.count) 0 (file_bytes (emptied f)) ++ (file_count (c.directory.count + 1) ∷ [])) (memory c area),
        row-area (end c.directory) (zeros (size f)) (memory c area),
        entry-put c f (sets area (end c.directory) (zeros (size f))),
      )
      (record { card-is = refl; area-is = sets-splice area (end c.directory) (zeros (size f)) fits })
    where
      fits : end c.directory + length (zeros (size f)) ≤ length area
      fits = rw (length-replicate {A = ℕ} (size f) 0, size_is) (made_in c.directory f 4096 q).fits
  deed-left (founds x) q = rw (folder-put c x area) (same_left (with_directory c (founded c.directory x)))

  -- a comparison: the tries are lowered, and restored where it agrees
  pub presented-is : (w : Which) (agrees : Bool) → cleared (presented_to c w agrees) ≡ cleared (compared_at (number_of w) c agrees).card
  unfolding compared_at
  presented-is w true = refl
  presented-is w false = refl

  module _ (w : Which) where
    -- a new value, and then all tries
    module _ (d : List ℕ) (pin : is_key (number_of w) ≡ false) (short : length d ≤ 16) where
      pub value-left : with_journal (with_value w c d) no_journal ≡ with_value w c d
      value-left = ap (λ (j : Journal). with_journal (with_value w c d) j) (sym g.journal)

      pub value-whole : puts (journaled (credential (number_of w)) (value_bytes d)) (memory c area) ≡ memory (with_value w c d) area
      value-whole =
          ap (λ (x : Card). puts (journaled (credential (number_of w)) (value_bytes d)) (memory x area)) (empty-journal c g.journal)
          ∙ journal-whole c area (credential (number_of w)) (value_bytes d) (credential-fit d short c area w pin (value-sixteen c g w))
          ∙ ap (λ (x : Card). memory (with_journal x no_journal) area) (value-put c w d short)
          ∙ ap (λ (x : Card). memory x area) value-left

      pub reload-put : cleared (put (tries_left (number_of w) (login w c).tries.limit) (memory (with_value w c d) area)).card
          ≡ cleared (state.with_login w (with_value w c d) (restored (login w c).tries) false)
      reload-put =
          ap (λ (l : List Credential). cleared (with_credentials c l))
          (alter-as (with_left (login w c).tries.limit) (λ x. with_tries x (full (login w c).tries.limit)) (set c.credentials (number_of w) new) (number_of w) no_credential
          (ap (λ (x : Credential). with_tries x (record { left = (login w c).tries.limit; limit = x.tries.limit })) there
          ∙ ap (λ (x : Credential). with_tries x (full (login w c).tries.limit)) (sym there))
          ∙ alter-set (λ x. with_tries x (full (login w c).tries.limit)) (set c.credentials (number_of w) new) (number_of w) no_credential)
        where
          new : Credential
          new = credential_of d (state.credential c (number_of w)).tries

          there : get_or (set c.credentials (number_of w) new) (number_of w) no_credential ≡ new
          there = get_or-set_same c.credentials (number_of w) new no_credential (rw g.all_there (numbered w))

  touch-left : (random : List ℕ) (t : Touch) → FairTouch (logins c) t → Left c area (touched c t random) (touch_stores c t)
  unfolding compared_at splice
  touch-left random nothing q = record { card-is = refl; area-is = refl }
  touch-left random (presents w value given) q = rw (present-put c area w (same value given)) (go (same value given))
    where
      go : (b : Bool) → SameLasting (memory (presented_to c w b) area) (compared_at (number_of w) c b).card (splice area (compared_at (number_of w) c b).into (compared_at (number_of w) c b).stores)
      go true = record { card-is = refl; area-is = refl }
      go false = record { card-is = refl; area-is = refl }
  touch-left random (changes w d) q = rw (value-whole w d q.0 (pin-short d q.2)) (record { card-is = refl; area-is = refl })
  touch-left random (reloads w d) q =
      let short = pin-short d q.2 in
      let pin : is_key (number_of w) ≡ false = ap (λ (v : Which). is_key (number_of v)) q.0 in
      rw (
        puts-append (journaled (credential (number_of w)) (value_bytes d)) (tries_left (number_of w) (login w c).tries.limit ∷ []) (memory c area),
        value-whole w d pin short,
      )
      (record { card-is = reload-put w d pin short; area-is = refl })
  touch-left random (challenges n) q = record { card-is = refl; area-is = refl }

-- behind a code
behind : (c : Card) (area : List ℕ) (t : Touch) → Code c t → (e : Effect) (xs : List Store) → Left (heard c t) area e xs → Left c area e (touch_stores c t ++ xs)
behind c area t q e xs l = rw (puts-append (touch_stores c t) xs (memory c area), heard-put c area t q.is_code) l

-- the same stores on the card as a code leaves it
pub same-stores : (c : Card) (t : Touch) (d : Deed) → deed_stores (heard c t) d ≡ deed_stores c d
same-stores c nothing d = refl
same-stores c (presents w value given) (turns place) = refl
same-stores c (presents w value given) (enters n) = refl
same-stores c (presents w value given) (shows place at n) = refl
same-stores c (presents w value given) (stores place at bytes) = refl
same-stores c (presents w value given) (appends place r) = refl
same-stores c (presents w value given) (makes f) = refl
same-stores c (presents w value given) (founds x) = refl
same-stores c (changes w b) d = refl
same-stores c (reloads w b) d = refl
same-stores c (challenges n) d = refl

module _ (c : Card) (area : List ℕ) (h : sound c area ≡ true) (size_is : length area ≡ area_size) where
  -- what waits does not last
  step_left : (cmd random : List ℕ)
      → SameLasting (puts (stores_of c area cmd) (memory c area)) (step c area cmd random).card (step c area cmd random).area
  unfolding act_of step at_once settled
  step_left cmd random = go (fetches c (framed cmd)) (marked (mode c))
    where
      i : Ins
      i = listed (framed cmd)

      k : Command
      k = framed cmd

      by-deed : (t : Touch) → Code c t → (d : Deed) → Fair i c area k d → Behind t d → Left c area (did (heard c t) d) (touch_stores c t ++ deed_stores c d)
      by-deed t q d f b =
          behind c area t q (did (heard c t) d) (deed_stores c d)
          (subst (λ (xs : List Store). Left (heard c t) area (did (heard c t) d) xs) (same-stores c t d)
          (deed-left (heard c t) area (heard-sound c area h t q.is_code) size_is d
          (subst (λ (x : Directory). Doing x area d) (sym (heard-files c t)) (doing i c area k d f))))

      now : Left c area (outcome i c (record_found c area k) k random) (stores_for c (planned i c (record_found c area k) k))
      now =
          plan-by (λ (e : Effect) (a : Act). Left c area e (stores_for c a)) i c area h k random by-deed (λ t q. touch-left c area h size_is random t q)
          (λ t q sw. behind c area t q (answers sw (heard c t)) [] (none_left (heard c t) area (heard-sound c area h t q.is_code) size_is sw (heard c t) [] 0 0 refl))

      go : (b m : Bool)
          → SameLasting (puts (stores_for c (cond b (act nothing idle) (planned i c (record_found c area k) k))) (memory c area))
          (cond b (fetched c area k) (delivered m (at_once c area cmd random))).card
          (cond b (fetched c area k) (delivered m (at_once c area cmd random))).area
      go true m = fetched-by (λ (s : Stepped). SameLasting (memory c area) s.card s.area) c area k (λ p. record { card-is = refl; area-is = refl }) (λ sw. record { card-is = refl; area-is = refl })
      go false true = record { card-is = now.card-is; area-is = now.area-is }
      go false false = record { card-is = now.card-is; area-is = now.area-is }

pub stored-in-full : StoredInFull
stored-in-full c area cmd random h e = step_left c area h e cmd random
