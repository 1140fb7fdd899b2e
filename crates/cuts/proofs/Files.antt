-- Files over any list of calls and cuts: each stays, or is written by right; and one more is made whole.
use Prim.Native.Nat.{ℕ, ◌+◌}
use mathlib.Core.Bool.{Bool, true, false, cond}
use mathlib.Core.List.{List, []}
use mathlib.Core.Logic.{◌⊎◌, inl, inr, ⊎_elim, by_cases}
use mathlib.Core.Path.{◌≡◌, refl, sym, ap, ap₂, subst, ◌∙◌}
use native.Mathlib.Decide.{ℕ_discrete}
use native.Mathlib.Omega.{arith}
use lib.ListN.{length}
use Rattle.files.specs.declared.File.{File}
use Rattle.files.specs.declared.Folder.{Folder}
use Rattle.files.specs.declared.Directory.{Directory}
use Rattle.files.specs.Part.{splice, zeros}
use Rattle.files.specs.Types.{size}
use Rattle.files.specs.Directory.{file, end, extent, is_place}
use Rattle.files.specs.Create.{created, creates, founded}
use Rattle.files.proofs.Checks.{split}
use Rattle.files.proofs.Kept.{filed}
use Rattle.files.proofs.Stays.{old-file, old-extent}
use Rattle.rules.specs.declared.Card.{Card}
use Rattle.rules.specs.declared.Ins.{Ins}
use Rattle.rules.specs.State.{logins}
use Rattle.rules.specs.Sound.{sound}
use Rattle.rules.specs.Frame.{Command, framed}
use Rattle.rules.specs.Effect.{Deed, turns, enters, shows, stores, appends, makes, founds, Touch, nothing, presents, changes, reloads, challenges, Effect}
use Rattle.rules.specs.Target.{file_of}
use Rattle.rules.specs.Record.{record_found}
use Rattle.rules.specs.List.{listed}
use Rattle.demands.specs.Role.{role}
use Rattle.rules.specs.Response.{fetches}
use Rattle.rules.specs.Step.{did}
use Rattle.rules.specs.Calls.{cleared}
use Rattle.rules.proofs.Good.{sound-good}
use Rattle.rules.proofs.Targets.{place-named}
use Rattle.demands.specs.Ledger.{sent, resets, Ledger, servable}
use Rattle.demands.specs.Run.{World, world, SoundWorld}
use Rattle.demands.specs.Held.{IsFile}
use Rattle.demands.specs.Files.{Stays, NoneMade}
use Rattle.demands.proofs.Live.{command-is, reset-is}
use Rattle.demands.proofs.View.{bytes-are}
use Rattle.demands.proofs.Rows.{code_in, Fair, FairTouch}
use Rattle.demands.proofs.Files.{By, here}
use Rattle.demands.proofs.Addressed.{writes_to, writes-to}
use Rattle.demands.proofs.Credentials.{Agree}
use Rattle.demands.proofs.History.{right-told, code-told, call-alters, Grew, grew, deed-counts, step-makes}
use Rattle.power.specs.Plan.{idle, files, credentials, Act, act, planned, act_of}
use Rattle.power.specs.Recovery.{tidied}
use Rattle.cuts.specs.Ledger.{Happening, call, cut, ledger}
use Rattle.cuts.specs.Cut.{Unchanged, NotMade, MadeWhole, FoundedWhole, AllowedDeed, AllowedTouch, heard, Allowed, cut_at}
use Rattle.cuts.specs.Run.{happened, after}
use Rattle.cuts.specs.Demands.{WritesIt, Altered, MakesIt, FilesCreated}
use Rattle.cuts.proofs.Planned.{Code, no_code, Behind, plan-by}
use Rattle.cuts.proofs.Heard.{heard-files}
use Rattle.cuts.proofs.Cut.{cut-recovers}
use Rattle.cuts.proofs.Used.{reached, cut-is, live-after, agree_after}

one-count : (d : Directory) (f : File) → (created d f).count ≡ d.count + 1
unfolding created
one-count d f = refl

-- an area in which nothing is stored
none-spliced : (area : List ℕ) → area ≡ splice area 0 []
unfolding splice
none-spliced area = refl

-- a new directory leaves the files
founded-same : (d : Directory) (f : Folder) (place : ℕ) (area : List ℕ)
    → ((founded d f).count ≡ d.count) × ((file (founded d f) place ≡ file d place) × (extent (founded d f) place area ≡ extent d place area))
unfolding founded extent
founded-same d f place area = (refl, (refl, refl))

-- a presentation, a new value and new tries leave the files, whatever of it is stored
touch-same : (c : Card) (t : Touch) (x : Card) → AllowedTouch c t x → x.directory ≡ c.directory
touch-same c nothing x a = ap (λ (y : Card). y.directory) a
touch-same c (presents w value given) x a =
    ⊎_elim (λ e. ap (λ (y : Card). y.directory) e) (⊎_elim (λ e. ap (λ (y : Card). y.directory) e) (λ e. ap (λ (y : Card). y.directory) e.1)) a
touch-same c (changes w d) x a = ⊎_elim (λ e. ap (λ (y : Card). y.directory) e) (λ e. ap (λ (y : Card). y.directory) e) a
touch-same c (reloads w d) x a =
    ⊎_elim (λ e. ap (λ (y : Card). y.directory) e) (⊎_elim (λ e. ap (λ (y : Card). y.directory) e) (λ e. ap (λ (y : Card). y.directory) e)) a
touch-same c (challenges n) x a = ap (λ (y : Card). y.directory) a

module _ (c : Card) (area : List ℕ) (live : SoundWorld (world c area)) (cmd : List ℕ) where
  abbrev h : sound c area ≡ true
  h = live.sound-card

  abbrev k : Command
  k = framed cmd

  abbrev i : Ins
  i = listed (framed cmd)

  abbrev d : Directory
  d = c.directory

  -- by what each act is when it is cut
  acts-by : (P : Act → Type 0) → ((t : Touch) → Code c t → P (act t idle)) → ((t : Touch) → Code c t → (x : Deed) → Fair i c area k x → Behind t x → P (act t (files x)))
      → ((t : Touch) → FairTouch (logins c) t → P (act nothing (credentials t))) → P (act_of c area cmd)
  unfolding act_of
  acts-by P n f t = go (fetches c k)
    where
      go : (b : Bool) → P (cond b (act nothing idle) (planned i c (record_found c area k) k))
      go true = n nothing (no_code c)
      go false = plan-by (λ (e : Effect) (a : Act). P a) i c area h k [] f t (λ u q sw. n u q)

  -- ---- one file
  module _ (place : ℕ) (there : IsFile c place) where
    abbrev Result : World → Type 0
    Result v = Stays (world c area) v place ⊎ By (code_in i c k) c place (writes_to (role i) c k) (λ f. f.write)

    named : is_place c.directory place ≡ true
    named = place-named d (sound-good c area h).directory place there.first there.last

    -- a card with the same file there, and the same bytes
    stays-in : (x : Card) (y : List ℕ) → x.directory.count ≡ c.directory.count → file_of x place ≡ file_of c place
        → extent x.directory place y ≡ extent c.directory place area → Stays (world c area) (world x y) place
    stays-in x y n e b = record {
      there = record { first = there.first; last = rw n there.last };
      file-is = e;
      bytes-are = bytes-are x y place ∙ b ∙ sym (bytes-are c area place);
    }

    same-directory : (x : Card) (y : List ℕ) → x.directory ≡ c.directory → extent c.directory place y ≡ extent c.directory place area → Stays (world c area) (world x y) place
    same-directory x y e b =
        stays-in x y (ap (λ (z : Directory). z.count) e) (ap (λ (z : Directory). file z place) e) (ap (λ (z : Directory). extent z place y) e ∙ b)

    -- with the card as a code leaves it, which has the same files
    module _ (v : Card) (same-files : v.directory ≡ c.directory) where
      from-cleared : (x : Card) → x ≡ cleared v → x.directory ≡ c.directory
      from-cleared x e = ap (λ (z : Card). z.directory) e ∙ same-files

      as_before : (y : List ℕ) → extent v.directory place y ≡ extent v.directory place area → extent c.directory place y ≡ extent c.directory place area
      as_before y e = subst (λ (z : Directory). extent z place y ≡ extent z place area) same-files e

      named-there : is_place v.directory place ≡ true
      named-there = ap (λ (z : Directory). is_place z place) same-files ∙ named

      unchanged-result : (x : Card) (y : List ℕ) → Unchanged v area x y → Result (world x y)
      unchanged-result x y a = inl (same-directory x y (from-cleared x a.card-is) (ap (extent d place) a.area-is))

      deed-result : (z : Deed) → Fair i c area k z → (x : Card) (y : List ℕ) → AllowedDeed v area z x y → Result (world x y)
      deed-result (turns t) q x y a = unchanged-result x y a
      deed-result (enters n) q x y a = unchanged-result x y a
      deed-result (shows t at m) q x y a = unchanged-result x y a
      deed-result (stores t at b) q x y a =
          by_cases (ℕ_discrete t place)
          (λ e. inr (here (code_in i c k) c area h place there.first there.last k _ t (λ f. f.write) q.fair.entitled e))
          (λ o. inl (same-directory x y (from-cleared x a.card-is) (as_before y (a.others place named-there (λ e. o (sym e))))))
      deed-result (appends t r) q x y a =
          by_cases (ℕ_discrete t place)
          (λ e. inr (here (code_in i c k) c area h place there.first there.last k _ t (λ f. f.write) q.fair.entitled e))
          (λ o. let s = a.others place named-there (λ e. o (sym e)) in
          inl (stays-in x y (a.count-is ∙ ap (λ (z : Directory). z.count) same-files) (s.0 ∙ ap (λ (z : Directory). file z place) same-files)
          (s.1 ∙ ap (λ (z : Directory). extent z place area) same-files)))
      deed-result (makes f) q x y a =
          ⊎_elim (λ (n : NotMade v area x y). inl (same-directory x y (from-cleared x n.card-is) (as_before y (n.files-are place named-there))))
          (λ (n : MadeWhole v area f x y).
          let e : x.directory ≡ created d f = ap (λ (z : Card). z.directory) n.card-is ∙ ap (λ (z : Directory). created z f) same-files in
          let w : y ≡ splice area (end d) (zeros (size f)) = n.area-is ∙ ap (λ (z : Directory). splice area (end z) (zeros (size f))) same-files in
          inl (record {
            there = record { first = there.first; last = rw (ap (λ (z : Directory). z.count) e, one-count d f) (omega (arith, there.last)) };
            file-is = ap (λ (z : Directory). file z place) e ∙ old-file d f area sixteen served place there.first there.last;
            bytes-are =
                bytes-are x y place ∙ ap₂ (λ (z : Directory) (l : List ℕ). extent z place l) e w ∙ old-extent d f area sixteen served place there.first there.last
                ∙ sym (bytes-are c area place);
          })) a
        where
          sixteen : length d.files ≡ 16
          sixteen = (filed d (sound-good c area h).directory).places

          served : creates d f (length area) ≡ true
          served = rw live.size_is q.served
      deed-result (founds f) q x y a =
          ⊎_elim (unchanged-result x y)
          (λ (n : FoundedWhole v area f x y).
          let e : x.directory ≡ founded d f = ap (λ (z : Card). z.directory) n.card-is ∙ ap (λ (z : Directory). founded z f) same-files in
          let s = founded-same d f place area in
          inl (stays-in x y (ap (λ (z : Directory). z.count) e ∙ s.0) (ap (λ (z : Directory). file z place) e ∙ s.1.0)
          (ap₂ (λ (z : Directory) (l : List ℕ). extent z place l) e n.area-is ∙ s.1.1))) a

    touch-result : (t : Touch) (x : Card) (y : List ℕ) → AllowedTouch c t x → y ≡ area → Result (world x y)
    touch-result t x y a e = inl (same-directory x y (touch-same c t x a) (ap (extent d place) e))

    abbrev Goal : Act → Type 0
    Goal a = (x : Card) (y : List ℕ) → Allowed c area a x y → Result (world x y)

    pub cut-alters : (n : ℕ) → Stays (world c area) (world (tidied (cut_at c area cmd n).card) (cut_at c area cmd n).area) place
        ⊎ By (code_in (listed (framed cmd)) c (framed cmd)) c place (writes_to (role (listed (framed cmd))) c (framed cmd)) (λ f. f.write)
    cut-alters n =
        acts-by Goal
        (λ t q x y a. ⊎_elim (λ b. touch-result t x y b.0 b.1) (unchanged-result (heard c t) (heard-files c t) x y) a)
        (λ t q z f b x y a. ⊎_elim (λ b. touch-result t x y b.0 b.1) (deed-result (heard c t) (heard-files c t) z f x y) a)
        (λ t q x y a. ⊎_elim (λ b. touch-result nothing x y b.0 b.1) (λ b. touch-result t x y b.0 b.1) a)
        _ _ (cut-recovers c area cmd n h live.size_is).allowed

  -- ---- how many files and directories
  module _ (l : Ledger) (agree : Agree c l) where
    abbrev Counted : World → Type 0
    Counted v = Grew l (world c area) v cmd

    same_count : (x : Card) (y : List ℕ) → x.directory.count ≡ c.directory.count → x.directory.number ≡ c.directory.number → Counted (world x y)
    same_count x y n m = inl (record { files-are = n; directories-are = m })

    same-counted : (x : Card) (y : List ℕ) → x.directory ≡ c.directory → Counted (world x y)
    same-counted x y e = same_count x y (ap (λ (z : Directory). z.count) e) (ap (λ (z : Directory). z.number) e)

    module _ (v : Card) (same-files : v.directory ≡ c.directory) where
      from : (x : Card) → x ≡ cleared v → x.directory ≡ c.directory
      from x e = ap (λ (z : Card). z.directory) e ∙ same-files

      -- what makes something comes without a code
      deed-counted : (z : Deed) → Fair i c area k z → (x : Card) (y : List ℕ) → AllowedDeed v area z x y → Counted (world x y)
      unfolding created founded
      deed-counted (turns t) q x y a = same-counted x y (from x a.card-is)
      deed-counted (enters n) q x y a = same-counted x y (from x a.card-is)
      deed-counted (shows t at m) q x y a = same-counted x y (from x a.card-is)
      deed-counted (stores t at b) q x y a = same-counted x y (from x a.card-is)
      deed-counted (appends t r) q x y a =
          same_count x y (a.count-is ∙ ap (λ (z : Directory). z.count) same-files) (a.folders-are.1 ∙ ap (λ (z : Directory). z.number) same-files)
      deed-counted (makes f) q x y a =
          ⊎_elim (λ (n : NotMade v area x y). same-counted x y (from x n.card-is))
          (λ (n : MadeWhole v area f x y).
          grew l c area cmd live agree (did c (makes f)) x y (ap (λ (z : Card). z.directory) n.card-is ∙ ap (λ (z : Directory). created z f) same-files)
          (n.area-is ∙ ap (λ (z : Directory). splice area (end z) (zeros (size f))) same-files) (deed-counts i c area live k c.credentials (makes f) q)) a
      deed-counted (founds f) q x y a =
          ⊎_elim (λ (n : Unchanged v area x y). same-counted x y (from x n.card-is))
          (λ (n : FoundedWhole v area f x y).
          grew l c area cmd live agree (did c (founds f)) x y (ap (λ (z : Card). z.directory) n.card-is ∙ ap (λ (z : Directory). founded z f) same-files)
          (n.area-is ∙ none-spliced area) (deed-counts i c area live k c.credentials (founds f) q)) a

    touch-counted : (t : Touch) (x : Card) (y : List ℕ) → AllowedTouch c t x → Counted (world x y)
    touch-counted t x y a = same-counted x y (touch-same c t x a)

    abbrev Makings : Act → Type 0
    Makings a = (x : Card) (y : List ℕ) → Allowed c area a x y → Counted (world x y)

    pub cut-makes : (n : ℕ) → Grew l (world c area) (world (tidied (cut_at c area cmd n).card) (cut_at c area cmd n).area) cmd
    cut-makes n =
        acts-by Makings
        (λ t q x y a. ⊎_elim (λ b. touch-counted t x y b.0) (λ (b : Unchanged (heard c t) area x y). same-counted x y (from (heard c t) (heard-files c t) x b.card-is)) a)
        (λ t q z f b x y a. ⊎_elim (λ b. touch-counted t x y b.0) (deed-counted (heard c t) (heard-files c t) z f x y) a)
        (λ t q x y a. ⊎_elim (λ b. touch-counted nothing x y b.0) (λ b. touch-counted t x y b.0) a)
        _ _ (cut-recovers c area cmd n h live.size_is).allowed

pub altered : Altered
altered o area xs served x n here = go x
  where
    w : World
    w = after o area xs

    live : SoundWorld w
    live = live-after o area xs served

    agree : Agree w.card (ledger o xs)
    agree = agree_after o area xs served

    go : (x : Happening) → Stays w (happened w x) n ⊎ WritesIt w.card (ledger o xs) x n
    go (call e) = call-alters w.card w.area live (ledger o xs) agree e n here
    go (cut cmd random reply m s r) =
        rw (cut-is w.card w.area live cmd random reply m s r)
        (⊎_elim inl (λ b. inr (record {
          addressed = writes-to w.card (sound-good w.card w.area live.sound-card) (framed cmd) n here.first b.0;
          by_right = right-told w.card w.area live (ledger o xs) agree n here (λ l. l.write) b.1;
          by_code = code-told w.card w.area live (ledger o xs) agree cmd n here (λ l. l.write) b.2;
        }))
        (cut-alters w.card w.area live cmd n here (reached w.card w.area live cmd random reply m)))

pub files-created : FilesCreated
files-created o area xs served x = go x
  where
    w : World
    w = after o area xs

    live : SoundWorld w
    live = live-after o area xs served

    agree : Agree w.card (ledger o xs)
    agree = agree_after o area xs served

    go : (x : Happening) → NoneMade w (happened w x) ⊎ MakesIt (ledger o xs) w (happened w x) x
    go (call (sent cmd random reply)) =
        rw (command-is w.card w.area live cmd random reply)
        (split (λ (v : World). Grew (ledger o xs) w v cmd) (servable random reply)
        (λ q. step-makes (ledger o xs) w.card w.area cmd random live agree) (λ q. inl (record { files-are = refl; directories-are = refl })))
    go (call resets) = inl (rw (reset-is w.card w.area live) (record { files-are = refl; directories-are = refl }))
    go (cut cmd random reply m s r) =
        subst (λ (v : World). Grew (ledger o xs) w v cmd) (sym (cut-is w.card w.area live cmd random reply m s r))
        (cut-makes w.card w.area live cmd (ledger o xs) agree (reached w.card w.area live cmd random reply m))
