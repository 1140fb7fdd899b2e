-- The card's files and directories after a command, and its current directory, are those that the ledger enters.
use Prim.Native.Nat.{ℕ, ◌+◌, ◌-◌, ◌<◌}
use mathlib.Core.Bool.{Bool, true, false, cond}
use mathlib.Core.List.{List}
use mathlib.Core.Path.{◌≡◌, refl, ap, subst, ◌∙◌}
use native.Mathlib.Omega.{arith}
use lib.ListN.{length, set}
use lib.Seq.{get_or-set_same, get_or-set_other}
use Rattle.files.specs.declared.Directory.{Directory}
use Rattle.files.specs.State.{emptied, blank_folder}
use Rattle.files.specs.Directory.{folder_at}
use Rattle.files.specs.Record.{appended}
use Rattle.files.specs.Create.{created, founded}
use Rattle.files.proofs.Checks.{split}
use Rattle.files.proofs.Extents.{file-set}
use Rattle.files.proofs.Kept.{filed}
use Rattle.files.proofs.Making as making
use Rattle.rules.specs.declared.Credential.{Credential}
use Rattle.rules.specs.declared.Card.{Card}
use Rattle.rules.specs.declared.Ins.{Ins}
use Rattle.rules.specs.Words.{same}
use Rattle.rules.specs.State.{logins, challenge, with_credentials}
use Rattle.rules.specs.Sound.{sound}
use Rattle.rules.specs.Frame.{Command}
use Rattle.rules.specs.Effect.{Deed, turns, enters, shows, stores, appends, makes, founds, Touch, nothing, presents, changes, reloads, challenges, Effect}
use Rattle.rules.specs.Target.{file_of}
use Rattle.rules.specs.Record.{record_found}
use Rattle.rules.specs.Code.{credentials_after, after_code}
use Rattle.rules.specs.List.{Rule, of_files, of_contents, of_credentials, rule}
use Rattle.demands.specs.Role.{role}
use Rattle.rules.specs.Step.{checks_of, did, touched, checks, effect_of, kept, outcome}
use Rattle.rules.proofs.Good.{sound-good}
use Rattle.demands.specs.Ledger.{Tag, Tree, passes, grown}
use Rattle.demands.specs.Held.{label_of, tag_of}
use Rattle.demands.proofs.Trees.{all-passed, each_same}
use Rattle.demands.proofs.Labels.{Matches, tree_by, each-past, each_again, appended-label}
use Rattle.demands.proofs.Rows.{ruled_by, Fair, Row, row, contents-passed}
use Rattle.demands.proofs.Files.{compare-by}

-- where the checks pass, of which the one side is told, and where not
alike-told : {A B : Type 0} (R : A → B → Type 0) (b : Bool) {e n : A} {x y : B} → (b ≡ true → R e x) → R n y → R (cond b e n) (cond b x y)
alike-told R true p q = p refl
alike-told R false p q = q

-- what a card has of files and directories, and the tree
abbrev pub Same : Card → Tree → Type 0
Same c w = Matches c.directory c.session.folder w

module _ (i : Ins) (c : Card) (area : List ℕ) (h : sound c area ≡ true) (k : Command) (random : List ℕ) (w : Tree) (m : Matches c.directory c.session.folder w) where
  abbrev d : Directory
  d = c.directory

  pub deed-tree : (xs : List Credential) (x : Deed) → Fair i c area k x → Same (did (with_credentials c xs) x).card (tree_by x w)
  unfolding created founded
  deed-tree xs (turns place) q = m
  deed-tree xs (enters n) q =
      record { count-is = m.count-is; each_label = m.each_label; number_is = m.number_is; each-tag = m.each-tag; current-is = refl }
  deed-tree xs (shows place at n) q = m
  deed-tree xs (stores place at bytes) q = m
  deed-tree xs (appends place bytes) q =
      let g = filed d (sound-good c area h).directory in
      let f = appended (file_of c place) (length bytes) in
      let in_list : place - 1 < length d.files = omega (arith, g.places, g.few, q.fair.entitled.some, q.fair.entitled.low) in
      record {
        count-is = m.count-is;
        each_label = each_again d.files w.labels (place - 1) f in_list (appended-label (file_of c place) (length bytes)) m.each_label;
        number_is = m.number_is;
        each-tag = m.each-tag;
        current-is = m.current-is;
      }
  deed-tree xs (makes f) q =
      let g = filed d (sound-good c area h).directory in
      let few : d.count < 16 = (making.makes d f 4096 q.served).few in
      let in_list : d.count < length d.files = omega (arith, g.places, few) in
      record {
        count-is = ap (λ n. n + 1) m.count-is ∙ omega arith;
        each_label = (
          rw (← m.count-is) (ap label_of (file-set d.files d.count (emptied f) in_list)),
          each-past d.files w.labels d.count (emptied f) (omega (arith, m.count-is)) m.each_label,
        );
        number_is = m.number_is;
        each-tag = m.each-tag;
        current-is = m.current-is;
      }
  deed-tree xs (founds x) q =
      let g = filed d (sound-good c area h).directory in
      let few : d.number < 4 = (making.founding d x q.served).few in
      let in_list : d.number < length d.folders = omega (arith, g.folders.places, few) in
      let has : ℕ → Tag = λ i. tag_of (folder_at d.folders i) in
      record {
        count-is = m.count-is;
        each_label = m.each_label;
        number_is = ap (λ n. n + 1) m.number_is ∙ omega arith;
        each-tag = (
          rw (← m.number_is) (ap tag_of (get_or-set_same d.folders d.number x blank_folder in_list)),
          each_same Tag has (λ i. tag_of (folder_at (set d.folders d.number x) i)) w.tags
              (λ i l. ap tag_of (get_or-set_other d.folders d.number i x blank_folder (λ e. omega (arith, m.number_is, l, e)))) m.each-tag,
        );
        current-is = m.current-is;
      }

  touch-tree : (t : Touch) → Same (touched c t random).card w
  touch-tree nothing = m
  touch-tree (presents v value given) =
      compare-by (λ (e : Effect). Same e.card w) v c (same value given) (λ sw x e n. rw (e, n) m)
  touch-tree (changes v bytes) = m
  touch-tree (reloads v bytes) = m
  touch-tree (challenges n) = m

  pub outcome-tree : Same (outcome i c (record_found c area k) k random).card (grown (role i) (logins c) w k)
  unfolding outcome effect_of checks kept
  outcome-tree = go (rule i) (row i)
    where
      go : (r : Rule) → Row i r → Same (ruled_by r c (record_found c area k) k random).card (grown (role i) (logins c) w k)
      go (of_files t x) q =
          rw (q.tree_is c area h w m k)
          (alike-told (λ (e : Effect) (y : Tree). Same e.card y) (passes (t c k) k)
          (λ e. deed-tree c.credentials (x c k) (q.fair c area h k (all-passed (t c k) k e))) m)
      go (of_contents f t x) q =
          rw (q.tree_is (logins c) w k)
          (split (λ (e : Effect). Same e.card w) (passes (checks_of (of_contents f t x) c (record_found c area k) k) k)
          (λ e. subst (λ (y : Tree). Same (did (after_code (f k) c k) (x c (record_found c area k) k)).card y)
          (q.makes_none c (record_found c area k) k w)
          (deed-tree (credentials_after (f k) c k) (x c (record_found c area k) k) (contents-passed i c area h k f t x q e)))
          (λ e. m))
      go (of_credentials t x) q =
          rw (q.tree_is (logins c) w k)
          (split (λ (e : Effect). Same e.card w) (passes (t (logins c) (challenge c) k) k)
          (λ e. touch-tree (x (logins c) (challenge c) k)) (λ e. m))
