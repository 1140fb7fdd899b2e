-- The directories over any list of calls after a served issue, and the files that no command reaches.
use Prim.Native.Nat.{ℕ, ◌-◌, ◌%◌, ◌≤◌, ◌<◌}
use mathlib.Core.List.{List, [], ◌∷◌, ◌++◌, append_assoc, append-nil}
use mathlib.Core.Logic.{inl, inr, ⊎_elim, by_cases}
use mathlib.Core.Path.{◌≡◌, refl, sym, ap, subst, ◌∙◌}
use native.Mathlib.Decide.{ℕ_discrete}
use native.Mathlib.Omega.{arith}
use lib.Dec.{eqb}
use lib.ListN.{length}
use borrow.Author.Tests.{eqb-true, eq-eqb, ne_eqb}
use Rattle.files.specs.declared.Directory.{Directory}
use Rattle.files.specs.Words.{seek}
use Rattle.files.specs.Rights.{good_rights}
use Rattle.files.specs.Create.{good_folder}
use Rattle.files.specs.Directory.{good_sfi, folder_fid, folder_at, folder_here}
use Rattle.files.proofs.Checks.{clash, each}
use Rattle.files.proofs.Sought.{seek-absent}
use Rattle.files.proofs.Folders.{folder-good, folder-alone}
use Rattle.files.proofs.Kept.{Filed, filed}
use Rattle.rules.specs.Frame.{framed}
use Rattle.rules.specs.Calls.{Order}
use Rattle.rules.proofs.Good.{sound-good}
use Rattle.demands.specs.Ledger.{Event, sent, resets, Label, Tree, label_in, tag_in, fid_of_tag, tagged, Ledger, next, tell, ledger}
use Rattle.demands.specs.Run.{World, called, run, Served, after}
use Rattle.demands.specs.Files.{Addresses, Stays, Writes}
use Rattle.demands.specs.Held.{IsFile, Within}
use Rattle.demands.specs.Directories.{directory_fid, DirectoriesFollow, SelectFollows, LeadsThere, Leads, Addressed, AddressedWithin, OutOfReach, OthersOutOfReach, NoneLeads, StillOutOfReach, OnlyBehindSelect}
use Rattle.demands.proofs.Framing.{select-by-bytes}
use Rattle.demands.proofs.Trees.{tagged-low, tagged-named, tagged-high, select-moves, ledger-grown, current-moves}
use Rattle.demands.proofs.Labels.{Matches, right_is}
use Rattle.demands.proofs.Live.{after-live}
use Rattle.demands.proofs.Credentials.{follows}
use Rattle.demands.proofs.History.{files-follow, select_told, altered, shown}

pub directories-follow : DirectoriesFollow
directories-follow o area es h =
    let c = (after o area es).card in
    let g = filed c.directory (sound-good c _ (after-live o area es h).sound-card).directory in
    let m = (follows o area es h).tree_is in
    record {
      number_is = m.number_is;
      tag_is = λ n here. right_is c.directory g.few g.folders.few c.session.folder (ledger o es).tree m n here.first here.last;
      current-is = m.current-is;
    }

pub select-follows : SelectFollows
select-follows o area es h cmd random e = select_told _ _ (after-live o area es h) (ledger o es) (follows o area es h) cmd random (select-by-bytes cmd e)

-- no two directories have one FID, and none has that of the root
module _ (d : Directory) (g : Filed d) (current : ℕ) (t : Tree) (m : Matches d current t) where
  abbrev fid-of : ℕ → ℕ
  fid-of n = folder_fid (folder_at d.folders (n - 1))

  tag-fid : (n : ℕ) → 1 ≤ n → n ≤ d.number → folder_fid (folder_at d.folders (n - 1)) ≡ fid_of_tag (tag_in t.tags n)
  tag-fid n some low = ap fid_of_tag (right_is d g.few g.folders.few current t m n some low)

  not_root : (n : ℕ) → 1 ≤ n → n ≤ d.number → fid_of_tag (tag_in t.tags n) ≡ 0x3F00 → ⊥
  unfolding good_folder
  not_root n some low e =
      let good = (each (good_sfi (fid-of n % 32) ∷ good_rights (folder_at d.folders (n - 1)).right ∷ []) (folder-good d.folders d.number g.folders (n - 1) (omega arith))).0 in
      let r : fid-of n % 32 ≡ 0 = rw (tag-fid n some low ∙ e) in
      clash (good_sfi 0) (rw r at good) refl

  one-alone : (n k : ℕ) → 1 ≤ n → n < k → k ≤ d.number → fid_of_tag (tag_in t.tags k) ≡ fid_of_tag (tag_in t.tags n) → ⊥
  one-alone n k some less low e =
      let alone : seek (folder_here (fid-of k) d.folders) (k - 1) ≡ 0 = eqb-true _ _ (folder-alone d.folders d.number g.folders (k - 1) (omega arith)) in
      let same : fid-of n ≡ fid-of k = tag-fid n some (omega arith) ∙ sym e ∙ sym (tag-fid k (omega arith) low) in
      clash (eqb (fid-of n) (fid-of k)) (eq-eqb (fid-of n) (fid-of k) same) (seek-absent (folder_here (fid-of k) d.folders) (k - 1) alone (n - 1) (omega arith))

  -- so a FID finds its own directory
  pub found-own : (n : ℕ) → n ≤ d.number → tagged (directory_fid t n) t.tags ≡ n
  found-own n low =
      let few : d.number ≡ length t.tags = m.number_is in
      by_cases (ℕ_discrete n 0)
      (λ z. rw z (by_cases (ℕ_discrete (tagged 0x3F00 t.tags) 0) (λ q. q)
      (λ o. absurd (not_root (tagged 0x3F00 t.tags) (omega arith) (omega (arith, tagged-low 0x3F00 t.tags)) (tagged-named 0x3F00 t.tags (omega arith))))))
      (λ o. rw (ne_eqb n 0 o)
      (let f = fid_of_tag (tag_in t.tags n) in
      let high = tagged-high t.tags n (omega arith) (omega arith) in
      let top = tagged-low f t.tags in
      by_cases (ℕ_discrete (tagged f t.tags) n) (λ q. q)
      (λ p. absurd (one-alone n (tagged f t.tags) (omega arith) (omega (arith, high, p)) (omega (arith, top)) (tagged-named f t.tags (omega (arith, high)))))))

pub leads-there : LeadsThere
leads-there o area es h (sent cmd random reply) n low q =
    let c = (after o area es).card in
    let m = (follows o area es h).tree_is in
    let g = filed c.directory (sound-good c _ (after-live o area es h).sound-card).directory in
    select-moves (ledger o es) cmd random reply n q
    ∙ ap (λ f. tagged f (ledger o es).tree.tags) q.named
    ∙ found-own c.directory g c.session.folder (ledger o es).tree m n (omega (arith, low, m.number_is))
leads-there o area es h resets n low q = sym q

-- the file that a command names lies in the current directory (Named), and that is the ledger's
pub addressed-within : AddressedWithin
addressed-within o area es h cmd n a =
    let c = (after o area es).card in
    sym (ap (λ (x : Label). x.within) ((files-follow o area es h).label_is n (named a).there)) ∙ (named a).lies ∙ (follows o area es h).tree_is.current-is
  where
    Names : Type 0
    Names = Within (after o area es).card (after o area es).card.session.folder n

    by : {ins sfi : ℕ} → Addresses (after o area es).card (framed cmd) ins sfi n → Names
    by x = record { there = x.named.there; lies = x.named.lies }

    named : Addressed (after o area es).card cmd n → Names
    named a = ⊎_elim (⊎_elim by by) (⊎_elim by (⊎_elim by by)) a

pub others-out-of-reach : OthersOutOfReach
others-out-of-reach o area es h n here far = record {
  stays = λ e. ⊎_elim (λ s. s) (never e) (altered o area es h e n here);
  hidden = λ cmd random reply other alike.
      ⊎_elim (λ s. s) (λ r. absurd (far (addressed-within o area es h cmd n (inl r.addressed))))
      (shown o area es h cmd random reply other n here alike);
}
  where
    never : (e : Event) → Writes (after o area es).card (ledger o es) e n → Stays (after o area es) (called (after o area es) e) n
    never (sent cmd random reply) r = absurd (far (addressed-within o area es h cmd n (inr r.addressed)))
    never resets r = absurd r

-- ---- one call more
run_more : (w : World) (es : List Event) (e : Event) → run w (es ++ (e ∷ [])) ≡ called (run w es) e
unfolding run
run_more w [] e = refl
run_more w (x ∷ es) e = run_more (called w x) es e

tell-more : (l : Ledger) (es : List Event) (e : Event) → tell l (es ++ (e ∷ [])) ≡ next (tell l es) e
unfolding tell
tell-more l [] e = refl
tell-more l (x ∷ es) e = tell-more (next l x) es e

after_more : (o : Order) (area : List ℕ) (es : List Event) (e : Event) → after o area (es ++ (e ∷ [])) ≡ called (after o area es) e
unfolding after
after_more o area es e = run_more _ es e

ledger-more : (o : Order) (es : List Event) (e : Event) → ledger o (es ++ (e ∷ [])) ≡ next (ledger o es) e
unfolding ledger
ledger-more o es e = tell-more _ es e

stays_twice : (w v x : World) (n : ℕ) → Stays w v n → Stays v x n → Stays w x n
stays_twice w v x n a b = record { there = b.there; file-is = b.file-is ∙ a.file-is; bytes-are = b.bytes-are ∙ a.bytes-are }

-- a call that does not lead to a directory leaves the card outside of it
still-outside : (l : Ledger) (e : Event) (n : ℕ) → (n ≡ l.tree.current → ⊥) → (Leads l e n → ⊥) → n ≡ (next l e).tree.current → ⊥
still-outside l e n far o q =
    ⊎_elim (λ s. far (q ∙ s)) (λ (m : Leads l e (next l e).tree.current). o (subst (Leads l e) (sym q) m)) (current-moves l e)

-- a file's directory is its own for good
same-within : (o : Order) (area : List ℕ) (es more : List Event) → Served o area → (n : ℕ) → IsFile (after o area es).card n
    → (label_in (ledger o (es ++ more)).tree.labels n).within ≡ (label_in (ledger o es).tree.labels n).within
same-within o area es more h n here =
    let now = files-follow o area es h in
    ap (λ (x : Label). x.within) ((ledger-grown o es more).files.same n (omega (arith, here.last, now.count-is)))

-- call after call: the file stays, its directory is not entered, and the next call cannot reach it
module _ (o : Order) (area : List ℕ) (h : Served o area) (n : ℕ) where
  abbrev Far : List Event → Type 0
  Far es = (label_in (ledger o es).tree.labels n).within ≡ (ledger o es).tree.current → ⊥

  untouched : (more es : List Event) → IsFile (after o area es).card n
      → ((label_in (ledger o es).tree.labels n).within ≡ (ledger o es).tree.current → ⊥)
      → NoneLeads (ledger o es) more (label_in (ledger o es).tree.labels n).within → StillOutOfReach o area es more n
  untouched [] es here far none = record {
    stays = rw (append-nil es) (record { there = here; file-is = refl; bytes-are = refl });
    out-of-reach = rw (append-nil es) (others-out-of-reach o area es h n here far);
  }
  untouched (e ∷ more) es here far none =
      let one = es ++ (e ∷ []) in
      let stays : Stays (after o area es) (after o area one) n = rw (after_more o area es e) ((others-out-of-reach o area es h n here far).stays e) in
      let within = same-within o area es (e ∷ []) h n here in
      let outside : Far one = λ q. still-outside (ledger o es) e (label_in (ledger o es).tree.labels n).within far none.0
      (sym within ∙ q ∙ ap (λ (l : Ledger). l.tree.current) (ledger-more o es e)) in
      let rest-none : NoneLeads (ledger o one) more (label_in (ledger o one).tree.labels n).within =
      subst (λ m. NoneLeads (ledger o one) more m) (sym within) (subst (λ (l : Ledger). NoneLeads l more (label_in (ledger o es).tree.labels n).within) (sym (ledger-more o es e)) none.1) in
      let rest = untouched more one stays.there outside rest-none in
      record {
        stays =
            subst (λ z. Stays (after o area es) (after o area z) n) (append_assoc es (e ∷ []) more)
            (stays_twice (after o area es) (after o area one) (after o area (one ++ more)) n stays rest.stays);
        out-of-reach = subst (λ z. OutOfReach o area z n) (append_assoc es (e ∷ []) more) rest.out-of-reach;
      }

pub only-behind-select : OnlyBehindSelect
only-behind-select o area es more h n here far none = untouched o area h n more es here far none
