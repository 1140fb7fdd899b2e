-- A card that was cut and recovered, and the ledger that was told so, agree again.
use Prim.Native.Nat.{ℕ, zero, suc, ◌+◌, ◌-◌, ◌≤◌, ◌<◌}
use mathlib.Core.Bool.{Bool, true, false, cond, ◌&&◌}
use mathlib.Core.List.{List, [], ◌∷◌, ◌++◌}
use mathlib.Core.Logic.{by_cases}
use mathlib.Core.Path.{◌≡◌, refl, sym, ap, subst, ◌∙◌, fun_ext}
use native.Mathlib.Decide.{dec_le, ℕ_discrete}
use native.Mathlib.Omega.{arith}
use lib.Dec.{leb}
use lib.ListN.{length, take}
use lib.Seq.{take-append-le}
use borrow.Author.Tests.{le-leb, lt-leb, ne_eqb}
use Rattle.files.specs.declared.Directory.{Directory}
use Rattle.files.specs.Words.{is_zero}
use Rattle.files.specs.Types.{size}
use Rattle.files.specs.Directory.{file_at, folder_at}
use Rattle.files.specs.Create.{area_size, created, founded}
use Rattle.files.proofs.Checks.{split}
use Rattle.rules.specs.declared.Card.{Card}
use Rattle.rules.specs.declared.Ins.{Ins}
use Rattle.rules.specs.Words.{same}
use Rattle.rules.specs.Tries.{restored, lowered}
use Rattle.rules.specs.State.{Which, Login, Logins, login, logins, challenge, mode, with_directory, with_login}
use Rattle.rules.specs.Sound.{sound}
use Rattle.rules.specs.Frame.{Command, framed}
use Rattle.rules.specs.Effect.{Deed, turns, enters, shows, stores, appends, makes, founds, Touch, nothing, presents, changes, reloads, challenges, Effect}
use Rattle.rules.specs.Record.{record_found}
use Rattle.rules.specs.List.{listed}
use Rattle.demands.specs.Role.{role}
use Rattle.rules.specs.Response.{fetches}
use Rattle.rules.specs.Calls.{cleared}
use Rattle.rules.proofs.Good.{sound-good}
use Rattle.rules.proofs.Targets.{place-named}
use Rattle.demands.specs.Ledger.{Kind, ended, Label, Tag, Tree, label_given, size_of, turned_to, grown, Ledger, page, tells, kind, kind_in, booked}
use Rattle.demands.specs.Run.{world, SoundWorld}
use Rattle.demands.specs.Held.{label_of, tag_of}
use Rattle.demands.proofs.Trees.{each_same}
use Rattle.demands.proofs.Labels.{Matches, tree_by, label-size}
use Rattle.demands.proofs.Rows.{Fair, FairTouch, kind_of}
use Rattle.demands.proofs.Made.{deed-tree}
use Rattle.demands.proofs.Credentials.{Agree, full, act, tell-kind}
use Rattle.power.specs.Store.{Memory, memory, Store, puts}
use Rattle.power.specs.Plan.{Work, idle, files, credentials, Act, planned, act_of, work_stores, stores_for, deed_stores, present_stores, touch_stores}
use Rattle.power.specs.Plan as plan
use Rattle.power.specs.Recovery.{tidied}
use Rattle.power.proofs.Cuts.{puts-append}
use Rattle.power.proofs.Tidy.{tidied-sound}
use Rattle.cuts.specs.Ledger.{journal_bytes, change_stores, cut_kind, make_stores, cut_tree, cut_entered}
use Rattle.cuts.specs.Cut.{cut_at, presented_to, Appended}
use Rattle.cuts.proofs.Planned.{Code, no_code, MakesNone, Behind, plan-by}
use Rattle.cuts.proofs.Doing.{Doing, doing}
use Rattle.cuts.proofs.Heard.{present-put, heard-sound}
use Rattle.cuts.proofs.Whole.{same-stores}
use Rattle.cuts.proofs.Touches.{cut_touch, touch-cut}
use Rattle.cuts.proofs.Cut.{deed-cut, make-index, found-index, touch-files}
use Rattle.cuts.proofs.Acts.{kind_of_act, tree_of_act, act-kind, act-tree}
use Rattle.cuts.proofs.Logins.{cleared-login, touch-login}

-- past the first of two lists
take_past : (n : ℕ) (xs ys : List Store) → length xs ≤ n → take n (xs ++ ys) ≡ xs ++ take (n - length xs) ys
take_past n [] ys l = let e : n - 0 ≡ n = omega arith in rw e
take_past zero (x ∷ xs) ys l = absurd (omega arith)
take_past (suc n) (x ∷ xs) ys l =
    let e : suc n - suc (length xs) ≡ n - length xs = omega arith in
    rw e (ap (λ (s : List Store). x ∷ s) (take_past n xs ys (omega arith)))

-- the same tree in the root, whether or not
either_same : (n : ℕ) (k : Command) (t : Tree) → cut_tree n k t t ≡ turned_to t 0
unfolding cut_tree
either_same n k t = split (λ (x : Tree). turned_to x 0 ≡ turned_to t 0) (leb (make_stores t.current k) n) (λ e. refl) (λ e. refl)

-- another current directory alone
turned_same : (n : ℕ) (k : Command) (t : Tree) (m : ℕ) → cut_tree n k (turned_to t m) t ≡ turned_to t 0
unfolding cut_tree
turned_same n k t m = split (λ (x : Tree). turned_to x 0 ≡ turned_to t 0) (leb (make_stores t.current k) n) (λ e. refl) (λ e. refl)

-- by the last store
made-tree : (n : ℕ) (k : Command) (new old : Tree) → make_stores old.current k ≤ n → cut_tree n k new old ≡ turned_to new 0
unfolding cut_tree
made-tree n k new old z = rw (le-leb (make_stores old.current k) n z)

unmade-tree : (n : ℕ) (k : Command) (new old : Tree) → n < make_stores old.current k → cut_tree n k new old ≡ turned_to old 0
unfolding cut_tree
unmade-tree n k new old z = rw (lt-leb (make_stores old.current k) n z)

-- in the root
in-root : (d : Directory) (m : ℕ) (t : Tree) → Matches d m t → Matches d 0 (turned_to t 0)
in-root d m t h = record { count-is = h.count-is; each_label = h.each_label; number_is = h.number_is; each-tag = h.each-tag; current-is = refl }

-- a deed that makes nothing leaves the tree, and of the card all but the directory
record FilesAgree (v : Card) (t : Tree) (x : Card) : Type 0 where
  rest-is : x ≡ cleared (with_directory v x.directory)
  tree_is : Matches x.directory 0 t

module _ (v : Card) (area : List ℕ) (h : sound v area ≡ true) (size_is : length area ≡ area_size) (t : Tree) (m : ℕ) (agree : Matches v.directory m t) where
  same-files : (x : Card) → x ≡ cleared v → FilesAgree v (turned_to t 0) x
  same-files x e = rw e (record { rest-is = refl; tree_is = in-root v.directory m t agree })

  appended-files : (place : ℕ) (r : List ℕ) (x : Card) (y : List ℕ) → Appended v area place r x y → FilesAgree v (turned_to t 0) x
  appended-files place r x y a = record {
    rest-is = a.rest-is;
    tree_is = record {
      count-is = a.count-is ∙ agree.count-is;
      each_label = each_same Label (λ i. label_of (file_at v.directory.files i)) (λ i. label_of (file_at x.directory.files i)) t.labels same-label agree.each_label;
      number_is = a.folders-are.1 ∙ agree.number_is;
      each-tag = each_same Tag (λ i. tag_of (folder_at v.directory.folders i)) (λ i. tag_of (folder_at x.directory.folders i)) t.tags
          (λ i l. ap (λ fs. tag_of (folder_at fs i)) a.folders-are.0) agree.each-tag;
      current-is = refl;
    };
  }
    where
      same-label : (i : ℕ) → i < length t.labels → label_of (file_at x.directory.files i) ≡ label_of (file_at v.directory.files i)
      same-label i z =
          let s : suc i - 1 ≡ i = omega arith in
          by_cases (ℕ_discrete (suc i) place)
          (λ e. let j : place - 1 ≡ i = omega arith in rw j at a.label_is)
          (λ o. let named = place-named v.directory (sound-good v area h).directory (suc i) (omega arith) (omega (arith, z, agree.count-is)) in
          rw s at (ap label_of (a.others (suc i) named o).0))

  none_made : (d : Deed) → MakesNone d → Doing v.directory area d → (n : ℕ)
      → FilesAgree v (turned_to t 0) (tidied (puts (take n (deed_stores v d)) (memory v area)).card)
  none_made (turns place) k q n = same-files _ (deed-cut v area h size_is (turns place) q n).holds.allowed.card-is
  none_made (enters j) k q n = absurd k
  none_made (shows place at j) k q n = same-files _ (deed-cut v area h size_is (shows place at j) q n).holds.allowed.card-is
  none_made (stores place at b) k q n = same-files _ (deed-cut v area h size_is (stores place at b) q n).holds.allowed.card-is
  none_made (appends place r) k q n = appended-files place r _ _ (deed-cut v area h size_is (appends place r) q n).holds.allowed
  none_made (makes f) k q n = absurd k
  none_made (founds x) k q n = absurd k

module _ (c : Card) (area : List ℕ) (live : SoundWorld (world c area)) (l : Ledger) (agree : Agree c l) (cmd : List ℕ) where
  abbrev h : sound c area ≡ true
  h = live.sound-card

  abbrev k : Command
  k = framed cmd

  abbrev d : Directory
  d = c.directory

  abbrev tree : Tree
  tree = l.tree

  -- the card that is left after n of these stores, once recovered
  abbrev left : List Store → ℕ → Card
  left xs n = tidied (puts (take n xs) (memory c area)).card

  record AgreesCut (a : Act) (n : ℕ) (x : Card) : Type 0 where
    logins-are : (w : Which) → login w x ≡ act w ended (act w (cut_kind n (kind_of_act a w)) (login w c))
    challenge-is : challenge x ≡ []
    tree_is : Matches x.directory x.session.folder (cut_tree n k (tree_of_act a l.tree) l.tree)
    mode-is : mode x ≡ mode c

  -- a presentation: the first store lowers, the second restores
  code-mode : (t : Touch) (n : ℕ) → mode (cut_touch c t n) ≡ mode c
  code-mode nothing n = refl
  code-mode (presents w value given) n =
      split (λ (x : Card). mode x ≡ mode c) (is_zero n) (λ e. refl)
      (λ e. split (λ (x : Card). mode x ≡ mode c) (leb 2 n && same value given) (λ a. refl) (λ a. refl))
  code-mode (changes w b) n = split (λ (x : Card). mode x ≡ mode c) (leb n journal_bytes) (λ e. refl) (λ e. refl)
  code-mode (reloads w b) n =
      split (λ (x : Card). mode x ≡ mode c) (leb n journal_bytes) (λ e. refl)
      (λ e. split (λ (x : Card). mode x ≡ mode c) (leb n change_stores) (λ a. refl) (λ a. refl))
  code-mode (challenges m) n = refl

  touched-agree : (t : Touch) (n : ℕ) (x : Card) → x ≡ cleared (cut_touch c t n) → (a : Act) → ((w : Which) → kind_of_act a w ≡ kind_of t w)
      → cut_tree n k (tree_of_act a l.tree) l.tree ≡ turned_to l.tree 0 → AgreesCut a n x
  touched-agree t n x e a q same-tree = record {
    logins-are = λ w.
        ap (login w) e ∙ cleared-login (cut_touch c t n) w ∙ ap (act w ended) (touch-login c (full c area live) t n w)
        ∙ ap (λ (y : Kind). act w ended (act w (cut_kind n y) (login w c))) (sym (q w));
    challenge-is = ap challenge e;
    tree_is = rw (e, same-tree, touch-files c area h live.size_is t n) (in-root d c.session.folder tree agree.tree_is);
    mode-is = ap mode e ∙ code-mode t n;
  }

  -- files alone
  files-agree : (n : ℕ) (x : Deed) (e : Directory) → Matches e 0 (cut_tree n k (tree_by x l.tree) l.tree)
      → AgreesCut (plan.act nothing (files x)) n (cleared (with_directory c e))
  unfolding cut_kind
  files-agree n x e m = record { logins-are = λ w. cleared-login (with_directory c e) w; challenge-is = refl; tree_is = m; mode-is = refl }

  none-agree : (n : ℕ) (x : Deed) → MakesNone x → tree_by x l.tree ≡ l.tree → Doing c.directory area x → AgreesCut (plan.act nothing (files x)) n (left (deed_stores c x) n)
  none-agree n x z e q =
      let f = none_made c area h live.size_is tree c.session.folder agree.tree_is x z q n in
      subst (AgreesCut (plan.act nothing (files x)) n) (sym f.rest-is) (files-agree n x _ (rw (e, either_same n k tree) f.tree_is))

  -- what makes a file or a directory comes without a code
  deed-agree : (i : Ins) (x : Deed) → Fair i c area k x → (n : ℕ) → AgreesCut (plan.act nothing (files x)) n (left (deed_stores c x) n)
  deed-agree i (turns place) q n = none-agree n (turns place) tt refl tt
  deed-agree i (enters j) q n =
      rw (deed-cut c area h live.size_is (enters j) tt n).holds.allowed.card-is
      (files-agree n (enters j) d (rw (turned_same n k tree j) (in-root d c.session.folder tree agree.tree_is)))
  deed-agree i (shows place at m) q n = none-agree n (shows place at m) tt refl tt
  deed-agree i (stores place at b) q n = none-agree n (stores place at b) tt refl (doing i c area k (stores place at b) q)
  deed-agree i (appends place r) q n = none-agree n (appends place r) tt refl (doing i c area k (appends place r) q)
  deed-agree i (makes f) q n =
      let law = make-index c area h live.size_is f q.served n in
      let new = tree_by (makes f) l.tree in
      let stores-are : make_stores tree.current k ≡ size f + 13 =
      ap (λ (b : Bool). cond b 4 (size_of (label_given tree.current k) + 13)) q.no-folder
      ∙ ap (λ (z : Label). size_of z + 13) (ap (λ z. label_given z k) (sym agree.tree_is.current-is) ∙ sym q.given) ∙ ap (λ z. z + 13) (sym (label-size f)) in
      by_cases (dec_le (size f + 13) n)
      (λ z. rw (law.1 z) (files-agree n (makes f) (created d f)
      (rw (made-tree n k new tree (omega (arith, stores-are, z))) (in-root (created d f) _ new (deed-tree i c area h k [] tree agree.tree_is c.credentials (makes f) q)))))
      (λ z. rw (law.0 (omega arith)) (files-agree n (makes f) d (rw (unmade-tree n k new tree (omega (arith, stores-are, z))) (in-root d c.session.folder tree agree.tree_is))))
  deed-agree i (founds x) q n =
      let law = found-index c area h live.size_is x q.served n in
      let new = tree_by (founds x) l.tree in
      let stores-are : make_stores tree.current k ≡ 4 = ap (λ (b : Bool). cond b 4 (size_of (label_given tree.current k) + 13)) q.is-folder in
      by_cases (dec_le 4 n)
      (λ z. rw (law.1 z) (files-agree n (founds x) (founded d x)
      (rw (made-tree n k new tree (omega (arith, stores-are, z))) (in-root (founded d x) _ new (deed-tree i c area h k [] tree agree.tree_is c.credentials (founds x) q)))))
      (λ z. rw (law.0 (omega arith)) (files-agree n (founds x) d (rw (unmade-tree n k new tree (omega (arith, stores-are, z))) (in-root d c.session.folder tree agree.tree_is))))

  touch-agree : (t : Touch) → FairTouch (logins c) t → (n : ℕ) → AgreesCut (plan.act nothing (credentials t)) n (left (touch_stores c t) n)
  touch-agree t q n = touched-agree t n _ (touch-cut c area h live.size_is t q n).card-is (plan.act nothing (credentials t)) (λ w. refl) (either_same n k tree)

  -- behind a code: until its stores are made it alone counts, and then the card is as it leaves it
  module _ (w : Which) (value given : List ℕ) (q : Code c (presents w value given)) where
    abbrev code : Touch
    code = presents w value given

    abbrev v : Card
    v = presented_to c w (same value given)

    heard-cut : (n : ℕ) → 2 ≤ n → (e : Directory) → cleared (with_directory (presented_to c w (same value given)) e) ≡ cleared (with_directory (cut_touch c (presents w value given) n) e)
    heard-cut n l e = rw (ne_eqb n 0 (λ z. omega arith), le-leb 2 n l) (go (same value given))
      where
        go : (b : Bool) → cleared (with_directory (presented_to c w b) e)
            ≡ cleared (with_directory (cond b (with_login w c (restored (login w c).tries) true) (with_login w c (lowered (login w c).tries) false)) e)
        go true = refl
        go false = refl

    -- at least one store, and two where it agrees
    code-length : (b : Bool) → (1 ≤ length (present_stores c w b)) × (length (present_stores c w b) ≤ 2)
    code-length true = (omega arith, omega arith)
    code-length false = (omega arith, omega arith)

    coded-agree : (x : Work) → ((u : Which) → kind_of_act (plan.act (presents w value given) x) u ≡ kind_of (presents w value given) u)
        → tree_of_act (plan.act (presents w value given) x) l.tree ≡ l.tree
        → ((m : ℕ) → FilesAgree (presented_to c w (same value given)) (turned_to l.tree 0) (tidied (puts (take m (work_stores c x)) (memory (presented_to c w (same value given)) area)).card))
        → (n : ℕ) → AgreesCut (plan.act (presents w value given) x) n (left (present_stores c w (same value given) ++ work_stores c x) n)
    coded-agree x kinds trees files-left n =
        by_cases (dec_le n (length (present_stores c w (same value given))))
        (λ z. touched-agree code n _
        (ap (λ (s : List Store). tidied (puts s (memory c area)).card) (take-append-le n (present_stores c w (same value given)) (work_stores c x) z)
        ∙ (touch-cut c area h live.size_is code q.fair n).card-is)
        (plan.act code x) kinds same-tree)
        (λ z. subst (AgreesCut (plan.act code x) n) (sym (gone z)) (whole z))
      where
        xs : List Store
        xs = present_stores c w (same value given)

        same-tree : cut_tree n k (tree_of_act (plan.act code x) tree) tree ≡ turned_to tree 0
        same-tree = rw trees (either_same n k tree)

        y : Card
        y = tidied (puts (take (n - length xs) (work_stores c x)) (memory v area)).card

        gone : (n ≤ length xs → ⊥) → left (xs ++ work_stores c x) n ≡ y
        gone z =
            ap (λ (s : List Store). tidied (puts s (memory c area)).card) (take_past n xs (work_stores c x) (omega (arith, z)))
            ∙ ap (λ (m : Memory). tidied m.card)
            (puts-append xs (take (n - length xs) (work_stores c x)) (memory c area) ∙ ap (puts (take (n - length xs) (work_stores c x))) (present-put c area w (same value given)))

        whole : (n ≤ length xs → ⊥) → AgreesCut (plan.act code x) n y
        whole z =
            let f = files-left (n - length xs) in
            let two : 2 ≤ n = omega (arith, z, (code-length (same value given)).0) in
            let e : y ≡ cleared (with_directory (cut_touch c code n) y.directory) = f.rest-is ∙ heard-cut n two y.directory in
            record {
              logins-are = λ u.
                  ap (login u) e ∙ cleared-login (with_directory (cut_touch c code n) y.directory) u ∙ ap (act u ended) (touch-login c (full c area live) code n u)
                  ∙ ap (λ (s : Kind). act u ended (act u (cut_kind n s) (login u c))) (sym (kinds u));
              challenge-is = ap challenge e;
              tree_is = subst (λ (s : ℕ). Matches y.directory s (cut_tree n k (tree_of_act (plan.act code x) tree) tree)) (sym (ap (λ (s : Card). s.session.folder) e)) (rw same-tree f.tree_is);
              mode-is = ap mode e ∙ code-mode code n;
            }

  -- the tree that a deed leaves which makes nothing
  none-tree : (x : Deed) → MakesNone x → (t : Tree) → tree_by x t ≡ t
  none-tree (turns place) z t = refl
  none-tree (enters n) z t = absurd z
  none-tree (shows place at n) z t = refl
  none-tree (stores place at b) z t = refl
  none-tree (appends place r) z t = refl
  none-tree (makes f) z t = absurd z
  none-tree (founds x) z t = absurd z

  -- with whatever code
  deed-cut-agree : (i : Ins) (t : Touch) → Code c t → (x : Deed) → Fair i c area k x → Behind t x → (n : ℕ)
      → AgreesCut (plan.act t (files x)) n (left (touch_stores c t ++ deed_stores c x) n)
  deed-cut-agree i nothing q x f b n = deed-agree i x f n
  deed-cut-agree i (presents w value given) q x f b n =
      coded-agree w value given q (files x) (λ u. refl) (none-tree x b tree)
      (λ m. subst (λ (s : List Store). FilesAgree (presented_to c w (same value given)) (turned_to tree 0) (tidied (puts (take m s) (memory (presented_to c w (same value given)) area)).card))
      (same-stores c (presents w value given) x)
      (none_made (presented_to c w (same value given)) area (heard-sound c area h (presents w value given) q.is_code) live.size_is tree c.session.folder agree.tree_is x b
      (doing i c area k x f) m)) n
  deed-cut-agree i (changes w d) q x f b n = absurd q.is_code
  deed-cut-agree i (reloads w d) q x f b n = absurd q.is_code
  deed-cut-agree i (challenges m) q x f b n = absurd q.is_code

  idle-agree : (t : Touch) → Code c t → (n : ℕ) → AgreesCut (plan.act t idle) n (left (touch_stores c t ++ []) n)
  idle-agree nothing q n = touched-agree nothing n _ (touch-cut c area h live.size_is nothing tt n).card-is (plan.act nothing idle) (λ w. refl) (either_same n k tree)
  idle-agree (presents w value given) q n =
      coded-agree w value given q idle (λ u. refl) refl
      (λ m. same-files (presented_to c w (same value given)) area (heard-sound c area h (presents w value given) q.is_code) live.size_is tree c.session.folder agree.tree_is _ (none-stored m)) n
    where
      none-stored : (m : ℕ) → tidied (puts (take m []) (memory (presented_to c w (same value given)) area)).card ≡ cleared (presented_to c w (same value given))
      none-stored zero = tidied-sound (presented_to c w (same value given)) (sound-good c area h).journal (sound-good c area h).directory
      none-stored (suc m) = tidied-sound (presented_to c w (same value given)) (sound-good c area h).journal (sound-good c area h).directory
  idle-agree (changes w d) q n = absurd q.is_code
  idle-agree (reloads w d) q n = absurd q.is_code
  idle-agree (challenges m) q n = absurd q.is_code

  act-agree : (n : ℕ) → AgreesCut (act_of c area cmd) n (left (stores_for c (act_of c area cmd)) n)
  unfolding act_of
  act-agree n = go (fetches c k)
    where
      i : Ins
      i = listed k

      P : Act → Type 0
      P a = AgreesCut a n (left (stores_for c a) n)

      go : (b : Bool) → P (cond b (plan.act nothing idle) (planned i c (record_found c area k) k))
      go true = idle-agree nothing (no_code c) n
      go false =
          plan-by (λ (e : Effect) (a : Act). P a) i c area h k [] (λ t q x f b. deed-cut-agree i t q x f b n) (λ t q. touch-agree t q n) (λ t q sw. idle-agree t q n)

  told-logins : logins c ≡ tells l
  told-logins = fun_ext agree.logins-are

  -- so does the ledger tell it
  same_kind : (w : Which) → kind_of_act (act_of c area cmd) w ≡ kind_in l cmd w
  same_kind w =
      sym (act-kind c area h cmd w)
      ∙ ap (λ (z : Logins). kind (role (listed k)) z (challenge c) cmd w) told-logins
      ∙ ap (λ (z : List ℕ). kind (role (listed k)) (tells l) z cmd w) agree.challenge-is

  same-trees : tree_of_act (act_of c area cmd) l.tree ≡ grown (role (listed k)) (tells l) l.tree k
  same-trees = sym (act-tree c area h cmd tree agree.tree_is) ∙ ap (λ (z : Logins). grown (role (listed k)) z tree k) told-logins

  pub cut-agrees : (n : ℕ) → Agree (tidied (cut_at c area cmd n).card) (cut_entered l cmd n)
  cut-agrees n =
      let a = act-agree n in
      record {
        logins-are = λ w.
            a.logins-are w
            ∙ ap (λ (x : Kind). act w ended (act w (cut_kind n x) (login w c))) (same_kind w)
            ∙ ap (λ (x : Login). act w ended (act w (cut_kind n (kind_in l cmd w)) x)) (agree.logins-are w)
            ∙ ap (act w ended) (sym (tell-kind w (cut_kind n (kind_in l cmd w)) (page w l)))
            ∙ sym (tell-kind w ended (booked (cut_kind n (kind_in l cmd w)) (page w l)));
        challenge-is = a.challenge-is;
        tree_is = rw (← same-trees) a.tree_is;
        mode-is = a.mode-is ∙ agree.mode-is;
      }
