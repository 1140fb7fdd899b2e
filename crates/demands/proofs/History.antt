-- Files over any list of calls after a served issue, with the rights of the ledger.
use Prim.Native.Nat.{ℕ, ◌+◌, ◌-◌, ◌≤◌}
use mathlib.Core.Bool.{true}
use mathlib.Core.List.{List, [], ◌∷◌, ◌++◌}
use mathlib.Core.Logic.{◌⊎◌, inl, inr, ⊎_elim}
use mathlib.Core.Path.{◌≡◌, refl, sym, ap, ap₂, ◌∙◌, subst, fun_ext}
use native.Mathlib.Omega.{arith}
use lib.ListN.{length}
use lib.Seq.{get_or-set_same}
use lib.Dec.{eqb}
use borrow.Author.Tests.{eqb-true, eq-eqb, ne_eqb}
use Rattle.files.specs.declared.File.{File}
use Rattle.files.specs.declared.Directory.{Directory}
use Rattle.files.specs.declared.Located.{Located}
use Rattle.files.specs.State.{emptied, blank_folder}
use Rattle.files.specs.Part.{part, zeros, splice}
use Rattle.files.specs.Types.{size}
use Rattle.files.specs.Rights.{asks_code}
use Rattle.files.specs.Directory.{file_at, start, extent, is_place, in_area}
use Rattle.files.specs.Words.{is_zero, two}
use Rattle.files.specs.Create.{area_size, created, creates, founded}
use Rattle.files.proofs.Checks.{clash, both, split}
use Rattle.files.proofs.Parts.{Apart, part_apart}
use Rattle.files.proofs.Extents.{lies}
use Rattle.files.proofs.Kept.{filed, lies-in-area}
use Rattle.files.proofs.Making.{founding}
use Rattle.files.proofs.Stays.{new-file, new-zero}
use Rattle.rules.specs.declared.Credential.{Credential}
use Rattle.rules.specs.declared.Card.{Card}
use Rattle.rules.specs.declared.Ins.{Ins}
use Rattle.rules.specs.declared.Ins.TheVariants.{Select, CreateFile}
use Rattle.rules.specs.Words.{first, same}
use Rattle.rules.specs.State.{Which, device, admin, user, transport, Login, Logins, login, logins, challenge, with_credentials, with_directory, with_challenge, with_waiting}
use Rattle.rules.specs.Frame.{Command, framed, frame_sw, class_sw}
use Rattle.rules.specs.Effect.{Deed, turns, enters, shows, stores, appends, makes, founds, Touch, nothing, presents, changes, reloads, challenges, Effect, Stepped}
use Rattle.rules.specs.Target.{file_of, opens}
use Rattle.rules.specs.Record.{record_found}
use Rattle.rules.specs.Select.{selected}
use Rattle.rules.specs.Create.{creation_right}
use Rattle.rules.specs.List.{listed, is_get_response, rule}
use Rattle.demands.specs.Role.{Role, role}
use Rattle.rules.specs.Response.{wait_sw}
use Rattle.rules.specs.Step.{did, touched, checks, effect_of, kept, sw_of, ruled, outcome, settled, at_once, step}
use Rattle.rules.specs.Calls.{answer, command}
use Rattle.rules.proofs.Good.{sound-good, sound-parted}
use Rattle.rules.proofs.Targets.{place-named}
use Rattle.demands.specs.Ledger.{Event, sent, resets, Kind, right as rightly, kind, kind_in, is_held, opens_right, Label, Tag, no_label, label_given, tag_given, size_of, label_in, tag_in, Ledger, page, select_sw, servable, ledger, HeldIn}
use Rattle.demands.specs.Run.{World, world, SoundWorld, called, after}
use Rattle.demands.specs.Files.{Labelled, FilesFollow, RightCode, WrittenByRight, ReadByRight, Writes, Stays, Altered, AlikeBut, SameBut, Shown, Made, MadeFolder, NoneMade, Makes, FilesCreated}
use Rattle.demands.specs.Held.{label_of, Opens, AsksCode, MayCreate, IsFile, label_no, tag_no}
use Rattle.demands.specs.Framing.{NamedBy}
use Rattle.demands.specs.Outsider.{Heard, AllButBytes}
use Rattle.demands.proofs.Trees.{each_at}
use Rattle.demands.proofs.Labels.{label-size, right_is, device-asked, select-same}
use Rattle.demands.proofs.Rows.{code_in, Fair, by-rule, kind-same}
use Rattle.demands.proofs.Asked.{right-code}
use Rattle.demands.proofs.Delivered.{fetched-by, step_by}
use Rattle.demands.proofs.Soundness.{leaves}
use Rattle.demands.proofs.Live.{after-live, command-is, reset-is}
use Rattle.demands.proofs.Pairs.{StepAlike, Waited, step_both, command-alike}
use Rattle.demands.proofs.Credentials.{Agree, follows}
use Rattle.demands.proofs.Files.{By, Kept, Treats, compare-by, treats, treated-lengths}
use Rattle.demands.proofs.Alike.{alike-splice, alike-part, AlikeIn, alike-in, alike-but}
use Rattle.demands.proofs.Others.{found-same, sound-same}
use Rattle.demands.proofs.Addressed.{writes_to, writes-to, reads-from}
use Rattle.demands.proofs.Named.{opens_by, opens-asked}
use Rattle.demands.proofs.View.{bytes-are}
use Rattle.demands.proofs.Framing.{listed-by-bytes}

-- what the card opens the ledger opens
module _ (c : Card) (l : Ledger) (agree : Agree c l) where
  held-told : (w : Which) → (login w c).held ≡ true → is_held (page w l).history ≡ true
  held-told w h = (both (opens_right w) (is_held (page w l).history) (sym (ap (λ (x : Login). x.held) (agree.logins-are w)) ∙ h)).1

  opens-told : (right : ℕ) → opens c right ≡ true → Opens (HeldIn l) right
  opens-told right h = opens_by right (λ w e. held-told w (eq-eqb _ _ e)) (opens-asked c right h)

-- the files of the card are those of the ledger
module _ (c : Card) (area : List ℕ) (live : SoundWorld (world c area)) (l : Ledger) (agree : Agree c l) where
  pub labels-told : Labelled c l
  labels-told = record {
    count-is = agree.tree_is.count-is;
    label_is = λ n here.
        each_at Label no_label (λ i. label_of (file_at c.directory.files i)) l.tree.labels n here.first (rw (← agree.tree_is.count-is) here.last) agree.tree_is.each_label;
  }

  -- a right of a file is that of its label
  pub right-told : (place : ℕ) → IsFile c place → (right : Label → ℕ) → opens c (right (label_no c place)) ≡ true
      → Opens (HeldIn l) (right (label_in l.tree.labels place))
  right-told place here right h = rw (← labels-told.label_is place here) (opens-told c l agree _ h)

  -- what the command is to the transport key it is in the ledger too
  kind-told : (cmd : List ℕ) → code_in (listed (framed cmd)) c (framed cmd) ≡ kind_in l cmd transport
  kind-told cmd =
      sym (kind-same (listed (framed cmd)) (logins c) (challenge c) cmd transport)
      ∙ ap₂ (λ (x : Logins) (ch : List ℕ). kind (role (listed (framed cmd))) x ch cmd transport) (fun_ext agree.logins-are) agree.challenge-is

  -- and a code that a file asks is a right one
  pub code-told : (cmd : List ℕ) (place : ℕ) → IsFile c place → (right : Label → ℕ)
      → (asks_code (right (label_no c place)) ≡ true → code_in (listed (framed cmd)) c (framed cmd) ≡ rightly)
      → AsksCode (right (label_in l.tree.labels place)) → RightCode l cmd
  code-told cmd place here right h =
      rw (← labels-told.label_is place here) (λ a. let e = a.bit-set in right-code l cmd (sym (kind-told cmd) ∙ h (rw e)))

-- cards that are alike but for a file's bytes stay so with other bytes that wait
bytes-waited : (n : ℕ) → Waited (AllButBytes n)
bytes-waited n w v bytes r = record {
  there = record { first = r.there.first; last = r.there.last };
  card-is = ap (λ (c : Card). with_waiting c bytes) r.card-is;
  areas = record { but-bytes = r.areas.but-bytes; lengths-are = r.areas.lengths-are };
}

-- one served command
module _ (c : Card) (area cmd random : List ℕ) (live : SoundWorld (world c area)) (place : ℕ) (file-here : IsFile c place) where
  abbrev r : Role
  r = role (listed (framed cmd))

  abbrev y : Kind
  y = code_in (listed (framed cmd)) c (framed cmd)

  abbrev e : Effect
  e = outcome (listed (framed cmd)) c (record_found c area (framed cmd)) (framed cmd) random

  some : 1 ≤ place
  some = file-here.first

  here : is_place c.directory place ≡ true
  here = place-named c.directory (sound-good c area live.sound-card).directory place file-here.first file-here.last

  pub treated : Treats y c area place r (framed cmd) (outcome (listed (framed cmd)) c (record_found c area (framed cmd)) (framed cmd) random)
  treated = treats (listed (framed cmd)) c area live.sound-card place some file-here.last (framed cmd) random

  fits : (bytes : List ℕ) → length bytes ≡ area_size → e.into + length e.stores ≤ length bytes
  fits bytes q = rw q (leaves c area live.sound-card (framed cmd) random (listed (framed cmd))).stored

  at-once-alters : Stays (world c area) (world (at_once c area cmd random).card (at_once c area cmd random).area) place ⊎ By y c place (writes_to r c (framed cmd)) (λ f. f.write)
  unfolding at_once settled extent
  at-once-alters =
      ⊎_elim
      (λ (k : Kept c place e). inl (record {
        there = record { first = some; last = treated.there };
        file-is = k.file-is;
        bytes-are =
            bytes-are (at_once c area cmd random).card (at_once c area cmd random).area place
            ∙ rw (treated.start_is, k.file-is)
            (part_apart area e.into e.stores (start c.directory place) (size (file_of c place)) (fits area live.size_is) k.apart)
            ∙ sym (bytes-are c area place);
      }))
      (λ q. inr q.0) treated.kept

  -- what waits is nothing to the files, and GET RESPONSE leaves them
  pub step-alters : Stays (world c area) (world (step c area cmd random).card (step c area cmd random).area) place ⊎ By y c place (writes_to r c (framed cmd)) (λ f. f.write)
  step-alters =
      step_by Left c area cmd random
      (λ f. fetched-by Left c area (framed cmd) (λ q. inl (record { there = record { first = file-here.first; last = file-here.last }; file-is = refl; bytes-are = refl }))
      (λ sw. inl (record { there = record { first = file-here.first; last = file-here.last }; file-is = refl; bytes-are = refl })))
      (λ m f. ⊎_elim (λ k. inl (record { there = record { first = k.there.first; last = k.there.last }; file-is = k.file-is; bytes-are = k.bytes-are })) inr at-once-alters)
      (λ m f. at-once-alters)
    where
      Left : Stepped → Type 0
      Left s = Stays (world c area) (world s.card s.area) place ⊎ By y c place (writes_to r c (framed cmd)) (λ f. f.write)

  -- on an area that differs in the file's bytes alone
  module _ (other : List ℕ) (alike : AlikeIn c place area other) where
    here_in : in_area c.directory place (length area) ≡ true
    here_in = lies-in-area c.directory area (sound-parted c area live.sound-card) place here

    -- where none of the file's bytes are shown
    at-once-unseen : Apart (start c.directory place) (size (file_of c place)) e.from e.shows
        → StepAlike (AllButBytes place) (at_once c area cmd random) (at_once c other cmd random)
    unfolding at_once settled
    at-once-unseen a =
        rw (← found-same c area other place live.sound-card here alike (framed cmd))
        (record {
          bytes-are = ap (λ z. e.says ++ z) (alike-part (start c.directory place) (size (file_of c place)) area other alike.but-bytes e.from e.shows a);
          sw-is = refl;
          worlds = record {
            there = record { first = some; last = treated.there };
            card-is = refl;
            areas = alike-but (with_challenge e.card e.says) place (splice area e.into e.stores) (splice other e.into e.stores) (record {
              but-bytes =
                  rw (treated.start_is, treated.size_is)
                  (alike-splice (start c.directory place) (size (file_of c place)) area other alike.but-bytes e.into e.stores (fits area live.size_is));
              lengths-are =
                  treated-lengths y c area place r (framed cmd) e treated (lies c.directory place (length area) here_in).fits
                  (fits area live.size_is) other (sym alike.but-bytes.length-is) alike.lengths-are;
            });
          };
        })

    pub step-unseen : Apart (start c.directory place) (size (file_of c place)) e.from e.shows
        → StepAlike (AllButBytes place) (step c area cmd random) (step c other cmd random)
    step-unseen a =
        step_both (AllButBytes place) (bytes-waited place) (world c area) (world c other)
        (record { there = file-here; card-is = refl; areas = alike-but c place area other alike }) refl cmd random (at-once-unseen a)

module _ (c : Card) (area : List ℕ) (live : SoundWorld (world c area)) (l : Ledger) (agree : Agree c l) where
  -- the next call, and a file
  pub call-alters : (e : Event) (n : ℕ) → IsFile c n → Stays (world c area) (called (world c area) e) n ⊎ Writes c l e n
  call-alters (sent cmd random reply) n file-here =
      rw (command-is c area live cmd random reply)
      (split (λ v. Stays (world c area) v n ⊎ WrittenByRight c l cmd n) (servable random reply)
      (λ q. ⊎_elim inl (λ b. inr (record {
        addressed = writes-to c (sound-good c area live.sound-card) (framed cmd) n file-here.first b.0;
        by_right = right-told c area live l agree n file-here (λ x. x.write) b.1;
        by_code = code-told c area live l agree cmd n file-here (λ x. x.write) b.2;
      })) (step-alters c area cmd random live n file-here))
      (λ q. inl (record { there = record { first = file-here.first; last = file-here.last }; file-is = refl; bytes-are = refl })))
  call-alters resets n file-here =
      inl (rw (reset-is c area live) (record { there = record { first = file-here.first; last = file-here.last }; file-is = refl; bytes-are = refl }))

  -- the next command, on an area that differs in the file's bytes alone
  pub call-shows : (cmd random reply other : List ℕ) (n : ℕ) → IsFile c n → AlikeBut c n area other
      → SameBut n (command c area cmd random reply) (command c other cmd random reply) ⊎ ReadByRight c l cmd n
  call-shows cmd random reply other n file-here alike =
      let near = alike-in c n area other alike in
      let there : SoundWorld (world c other) = record {
        sound-card = sound-same c area other n live.sound-card (here c area cmd random live n file-here) near;
        size_is = sym alike.but-bytes.length-is ∙ live.size_is;
      } in
      ⊎_elim
      (λ a. let k = command-alike (AllButBytes n) (world c area) (world c other) live there cmd random reply
      (record { there = file-here; card-is = refl; areas = alike }) (λ s. step-unseen c area cmd random live n file-here other near a) in
      inl (record {
        answer-is = ap₂ (λ (h : Heard) (x : Card). answer h.outcome x h.count) k.0 k.1.card-is;
        reply-is = ap (λ (h : Heard). h.reply) k.0;
        areas = k.1.areas;
      }))
      (λ b. inr (record {
        addressed = reads-from c (sound-good c area live.sound-card) (framed cmd) n file-here.first b.0;
        by_right = right-told c area live l agree n file-here (λ x. x.read) b.1;
        by_code = code-told c area live l agree cmd n file-here (λ x. x.read) b.2;
      }))
      (treated c area cmd random live n file-here).hidden

pub files-follow : FilesFollow
files-follow o area es h = labels-told _ _ (after-live o area es h) (ledger o es) (follows o area es h)

-- the status word of a rule is that of its checks, where what it does answers 9000
ruled-sw : (sw : ℕ) (c : Card) (e : Effect) → e.sw ≡ 0x9000 → (ruled sw c e).sw ≡ sw
ruled-sw sw c e h = split (λ (x : Effect). x.sw ≡ sw) (eqb sw 0x9000) (λ q. h ∙ sym (eqb-true sw 0x9000 q)) (λ q. refl)

-- what says nothing, shows nothing and ends 9000
record Quiet (area : List ℕ) (e : Effect) : Type 0 where
  ends : e.sw ≡ 0x9000
  empty : e.says ++ part e.from e.shows area ≡ []

-- a SELECT is quiet, so its status word is that of its checks; and these ask of the ledger what they ask of the card
module _ (c : Card) (area : List ℕ) (live : SoundWorld (world c area)) (l : Ledger) (agree : Agree c l) (cmd random : List ℕ) (named : listed (framed cmd) ≡ Select) where
  abbrev k : Command
  k = framed cmd

  abbrev x : Located
  x = record_found c area (framed cmd)

  quiet : Quiet area (effect_of Select c (record_found c area (framed cmd)) (framed cmd) random)
  unfolding effect_of rule part
  quiet =
      split (λ (d : Deed). Quiet area (did c d)) (is_zero (selected c k)) (λ e. record { ends = refl; empty = refl }) (λ e. record { ends = refl; empty = refl })

  at-once-sw : (at_once c area cmd random).sw ≡ sw_of Select c (record_found c area (framed cmd)) (framed cmd)
  unfolding at_once settled outcome
  at-once-sw = rw named (ruled-sw (sw_of Select c x k) (kept Select c k) (effect_of Select c x k random) quiet.ends)

  at-once-empty : (at_once c area cmd random).bytes ≡ []
  unfolding at_once settled outcome part
  at-once-empty =
      rw named
      (split (λ (e : Effect). e.says ++ part e.from e.shows area ≡ []) (eqb (sw_of Select c x k) 0x9000) (λ q. quiet.empty) (λ q. refl))

  step-sw : (step c area cmd random).sw ≡ sw_of Select c (record_found c area (framed cmd)) (framed cmd)
  unfolding wait_sw
  step-sw =
      step_by (λ (s : Stepped). s.sw ≡ sw_of Select c x k) c area cmd random
      (λ f. clash (is_get_response (listed (framed cmd))) f.by_name (rw named refl))
      (λ m f. ap (λ (d : List ℕ). wait_sw (length d) (at_once c area cmd random).sw) at-once-empty ∙ at-once-sw)
      (λ m f. at-once-sw)

  pub select_told : (step c area cmd random).sw ≡ select_sw l (framed cmd)
  unfolding checks rule
  select_told =
      let good = sound-good c area live.sound-card in
      let in-places = filed c.directory good.directory in
      step-sw
      ∙ ap (λ (t : List ℕ). first (frame_sw k ∷ class_sw k ∷ first t ∷ []))
      (select-same c in-places.few in-places.folders.few good.folder l.tree agree.tree_is k)

pub altered : Altered
altered o area es h e place here =
    call-alters _ _ (after-live o area es h) (ledger o es) (follows o area es h) e place here

pub shown : Shown
shown o area es h cmd random reply other place here alike =
    call-shows _ _ (after-live o area es h) (ledger o es) (follows o area es h) cmd random reply other place here alike

-- the next file, with all that CREATE FILE says of it
pub record New (i : Ins) (c : Card) (area : List ℕ) (k : Command) (e : Effect) : Type 0 where
  by-create : i ≡ CreateFile
  held : opens c (creation_right c) ≡ true
  one_more : e.card.directory.count ≡ c.directory.count + 1
  directories-are : e.card.directory.number ≡ c.directory.number
  file-is : (f : File) × ((file_of e.card (c.directory.count + 1) ≡ emptied f) × (label_of f ≡ label_given c.session.folder k))
  bytes-are :
      extent e.card.directory (c.directory.count + 1) (splice area e.into e.stores) ≡ zeros (size_of (label_given c.session.folder k))

-- the next directory
pub record NewDirectory (i : Ins) (c : Card) (k : Command) (e : Effect) : Type 0 where
  by-create : i ≡ CreateFile
  in-root : c.session.folder ≡ 0
  held : opens c (creation_right c) ≡ true
  one_more : e.card.directory.number ≡ c.directory.number + 1
  files-are : e.card.directory.count ≡ c.directory.count
  tag_is : tag_no e.card (c.directory.number + 1) ≡ tag_given k

-- an effect leaves as many files and directories, or one more
abbrev pub Counts : Ins → Card → List ℕ → Command → Effect → Type 0
Counts i c area k e = NoneMade (world c area) (world e.card area) ⊎ (New i c area k e ⊎ NewDirectory i c k e)

module _ (i : Ins) (c : Card) (area : List ℕ) (live : SoundWorld (world c area)) (k : Command) where
  same-counts : (e : Effect) → e.card.directory.count ≡ c.directory.count → e.card.directory.number ≡ c.directory.number → Counts i c area k e
  same-counts e p q = inl (record { files-are = p; directories-are = q })

  pub deed-counts : (xs : List Credential) (d : Deed) → Fair i c area k d → Counts i c area k (did (with_credentials c xs) d)
  unfolding created founded
  deed-counts xs (turns place) q = same-counts _ refl refl
  deed-counts xs (enters n) q = same-counts _ refl refl
  deed-counts xs (shows place at n) q = same-counts _ refl refl
  deed-counts xs (stores place at bytes) q = same-counts _ refl refl
  deed-counts xs (appends place bytes) q = same-counts _ refl refl
  deed-counts xs (makes f) q =
      let sixteen = (filed c.directory (sound-good c area live.sound-card).directory).places in
      let served : creates c.directory f (length area) ≡ true = rw live.size_is q.served in
      inr (inl (record {
        by-create = q.by-create;
        held = q.held;
        one_more = refl;
        directories-are = refl;
        file-is = (f, (new-file c.directory f area sixteen served, q.given));
        bytes-are = new-zero c.directory f area sixteen served ∙ ap zeros (label-size f ∙ ap size_of q.given);
      }))
  deed-counts xs (founds x) q =
      let four = (filed c.directory (sound-good c area live.sound-card).directory).folders.places in
      let few = (founding c.directory x q.served).few in
      let at : c.directory.number + 1 - 1 ≡ c.directory.number = omega arith in
      inr (inr (record {
        by-create = q.by-create;
        in-root = q.in-root;
        held = q.held;
        one_more = refl;
        files-are = refl;
        tag_is = rw (at, get_or-set_same c.directory.folders c.directory.number x blank_folder (omega (arith, four, few))) q.given;
      }))

  touch-counts : (t : Touch) (random : List ℕ) → Counts i c area k (touched c t random)
  touch-counts nothing random = same-counts _ refl refl
  touch-counts (presents w value given) random =
      compare-by (Counts i c area k) w c (same value given)
      (λ sw x e n. inl (record { files-are = ap (λ (d : Directory). d.count) e; directories-are = ap (λ (d : Directory). d.number) e }))
  touch-counts (changes w d) random = same-counts _ refl refl
  touch-counts (reloads w d) random = same-counts _ refl refl
  touch-counts (challenges n) random = same-counts _ refl refl

step_counts : (c : Card) (area cmd random : List ℕ) → SoundWorld (world c area)
    → Counts (listed (framed cmd)) c area (framed cmd) (outcome (listed (framed cmd)) c (record_found c area (framed cmd)) (framed cmd) random)
step_counts c area cmd random live =
    let i = listed (framed cmd) in
    by-rule (Counts i c area (framed cmd)) i c area live.sound-card (framed cmd) random (λ xs v. deed-counts i c area live (framed cmd) xs)
    (λ t q. touch-counts i c area live (framed cmd) t random) (λ xs v sw. inl (record { files-are = refl; directories-are = refl }))

-- what CREATE FILE needs, in the ledger
module _ (c : Card) (area : List ℕ) (live : SoundWorld (world c area)) (l : Ledger) (agree : Agree c l) (h : opens c (creation_right c) ≡ true) where
  abbrev now : ℕ
  now = c.session.folder

  root_told : c.session.folder ≡ 0 → HeldIn l device
  unfolding creation_right
  root_told z =
      held-told c l agree device
      (sym (device-asked (login device c).held (login admin c).held (login user c).held) ∙ (rw (eq-eqb now 0 z) at h))

  create-right : MayCreate (HeldIn l) l.tree.current (tag_in l.tree.tags l.tree.current).create
  unfolding creation_right
  create-right = record {
    in-root = λ z. root_told (agree.tree_is.current-is ∙ z);
    inside = λ o.
        let g = sound-good c area live.sound-card in
        let in-places = filed c.directory g.directory in
        let m = agree.tree_is in
        let some : now ≡ 0 → ⊥ = λ z. o (sym m.current-is ∙ z) in
        let tag = right_is c.directory in-places.few in-places.folders.few now l.tree m now (omega (arith, some)) g.folder in
        subst (λ n. Opens (HeldIn l) (tag_in l.tree.tags n).create) m.current-is
        (subst (λ (x : Tag). Opens (HeldIn l) x.create) tag (opens-told c l agree (tag_no c now).create (rw (ne_eqb now 0 some) at h)));
  }

-- the step's card and area are those of its effect
abbrev pub Grew : Ledger → World → World → List ℕ → Type 0
Grew l w v cmd = NoneMade w v ⊎ (Made l w v cmd ⊎ MadeFolder l w v cmd)

-- what comes of a deed or a touch, told of any card and area that have its files
module _ (l : Ledger) (c : Card) (area cmd : List ℕ) (live : SoundWorld (world c area)) (agree : Agree c l) (e : Effect) where
  abbrev told-card : Card → Card
  told-card x = with_directory x e.card.directory

  abbrev told-area : List ℕ
  told-area = splice area e.into e.stores

  counted : (x : Card) → Counts (listed (framed cmd)) c area (framed cmd) e → Grew l (world c area) (world (told-card x) told-area) cmd
  counted x =
      let i = listed (framed cmd) in
      let now = agree.tree_is.current-is in
      ⊎_elim (λ (n : NoneMade (world c area) (world e.card area)). inl (record { files-are = n.files-are; directories-are = n.directories-are }))
      (λ y. inr (⊎_elim
      (λ (m : New i c area (framed cmd) e). inl (record {
        by-create = subst (λ i. NamedBy i (framed cmd).cla (framed cmd).ins) m.by-create (listed-by-bytes (framed cmd));
        by_right = create-right c area live l agree m.held;
        one_more = m.one_more;
        directories-are = m.directories-are;
        label_is = ap label_of m.file-is.1.0 ∙ m.file-is.1.1 ∙ ap (λ n. label_given n (framed cmd)) now;
        bytes-are =
            bytes-are (told-card x) told-area (c.directory.count + 1) ∙ m.bytes-are ∙ ap (λ n. zeros (size_of (label_given n (framed cmd)))) now;
        none-held = ap (λ (f : File). f.held) m.file-is.1.0;
        none-used = ap (λ (f : File). two f.used1 f.used2) m.file-is.1.0;
      }))
      (λ (m : NewDirectory i c (framed cmd) e). inr (record {
        by-create = subst (λ i. NamedBy i (framed cmd).cla (framed cmd).ins) m.by-create (listed-by-bytes (framed cmd));
        in-root = sym now ∙ m.in-root;
        device-held = root_told c area live l agree m.held m.in-root;
        one_more = m.one_more;
        files-are = m.files-are;
        tag_is = m.tag_is;
      })) y))

  pub grew : (x : Card) (y : List ℕ) → x.directory ≡ e.card.directory → y ≡ splice area e.into e.stores
      → Counts (listed (framed cmd)) c area (framed cmd) e → Grew l (world c area) (world x y) cmd
  grew x y p q k =
      subst (λ (d : Directory). Grew l (world c area) (world (with_directory x d) y) cmd) (sym p)
      (subst (λ (z : List ℕ). Grew l (world c area) (world (told-card x) z) cmd) (sym q) (counted x k))

at-once-makes : (l : Ledger) (c : Card) (area cmd random : List ℕ) → SoundWorld (world c area) → Agree c l
    → Grew l (world c area) (world (at_once c area cmd random).card (at_once c area cmd random).area) cmd
unfolding at_once settled
at-once-makes l c area cmd random live agree =
    grew l c area cmd live agree (outcome (listed (framed cmd)) c (record_found c area (framed cmd)) (framed cmd) random) (at_once c area cmd random).card
    (at_once c area cmd random).area refl refl (step_counts c area cmd random live)

pub step-makes : (l : Ledger) (c : Card) (area cmd random : List ℕ) → SoundWorld (world c area) → Agree c l
    → Grew l (world c area) (world (step c area cmd random).card (step c area cmd random).area) cmd
step-makes l c area cmd random live agree =
    let made = at-once-makes l c area cmd random live agree in
    step_by (λ (s : Stepped). Grew l (world c area) (world s.card s.area) cmd) c area cmd random
    (λ f. fetched-by (λ (s : Stepped). Grew l (world c area) (world s.card s.area) cmd) c area (framed cmd)
    (λ q. inl (record { files-are = refl; directories-are = refl })) (λ sw. inl (record { files-are = refl; directories-are = refl })))
    (λ m f. ⊎_elim (λ k. inl (record { files-are = k.files-are; directories-are = k.directories-are }))
    (λ y. inr (⊎_elim (λ k. inl (record {
      by-create = k.by-create;
      by_right = k.by_right;
      one_more = k.one_more;
      directories-are = k.directories-are;
      label_is = k.label_is;
      bytes-are = k.bytes-are;
      none-held = k.none-held;
      none-used = k.none-used;
    }))
    (λ k. inr (record {
      by-create = k.by-create;
      in-root = k.in-root;
      device-held = k.device-held;
      one_more = k.one_more;
      files-are = k.files-are;
      tag_is = k.tag_is;
    })) y)) made)
    (λ m f. made)

pub files-created : FilesCreated
files-created o area es h e = go e (after-live o area es h) (follows o area es h)
  where
    go : (e : Event) → SoundWorld (after o area es) → Agree (after o area es).card (ledger o es)
        → NoneMade (after o area es) (called (after o area es) e) ⊎ Makes (ledger o es) (after o area es) (called (after o area es) e) e
    go (sent cmd random reply) live agree =
        rw (command-is (after o area es).card (after o area es).area live cmd random reply)
        (split (λ (v : World). Grew (ledger o es) (after o area es) v cmd) (servable random reply)
        (λ q. step-makes (ledger o es) (after o area es).card (after o area es).area cmd random live agree)
        (λ q. inl (record { files-are = refl; directories-are = refl })))
    go resets live agree =
        inl (rw (reset-is (after o area es).card (after o area es).area live) (record { files-are = refl; directories-are = refl }))
