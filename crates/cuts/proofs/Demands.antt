-- The proofs of `specs/Demands`.
use Prim.Native.Nat.{ℕ, ◌+◌, ◌-◌, ◌*◌, ◌≤◌, ◌<◌}
use mathlib.Core.Bool.{Bool, true, false, cond}
use mathlib.Core.List.{List, [], ◌∷◌, ◌++◌}
use mathlib.Core.Logic.{◌⊎◌, inl, inr, ⊎_elim}
use mathlib.Core.Path.{◌≡◌, refl, sym, ap, subst, ◌∙◌}
use native.Mathlib.Omega.{arith}
use lib.Dec.{leb}
use lib.ListN.{length, take}
use borrow.Author.Tests.{eqb-true}
use Rattle.files.specs.Words.{is_zero}
use Rattle.files.proofs.Checks.{split}
use Rattle.files.proofs.Kept.{filed}
use Rattle.rules.specs.declared.Card.{Card}
use Rattle.rules.specs.State.{Which, admin, user, number_of, Login, login, marked, mode, wait_count, waiting}
use Rattle.rules.specs.Sound.{is_key}
use Rattle.rules.specs.Frame.{framed}
use Rattle.rules.specs.List.{listed}
use Rattle.demands.specs.Role.{role}
use Rattle.rules.specs.Calls.{Order}
use Rattle.rules.proofs.Checks.{one_of}
use Rattle.rules.proofs.Good.{sound-good, responded, waits_back}
use Rattle.demands.specs.Ledger.{sent, resets, Kind, other, right, wrong, changed, reloaded, ended, Page, value_set, wrong_since, is_held, total, is_right, is_reload, Label, Tree, turned_to, grown, Ledger, page, tells, kind_in, booked, opened, servable, next}
use Rattle.demands.specs.Ledger as calls
use Rattle.demands.specs.Run.{World}
use Rattle.demands.specs.Credentials.{limit_of, Asked}
use Rattle.demands.specs.Held.{IsFile, IsFolder, Within}
use Rattle.demands.specs.Files.{Addresses, Stays}
use Rattle.demands.specs.Directories.{Addressed}
use Rattle.demands.proofs.Rows.{kind-by}
use Rattle.demands.proofs.Asked.{by_right}
use Rattle.demands.proofs.Bound.{Kept, book-kept, EachPage, Unloaded, never-reload, unloaded, NoReloads, still-none, KeyKind, fair-kind, SameValue, still-same, agreed}
use Rattle.demands.proofs.Trees.{TreeGrown, role-grown, same-tree, twice-tree, next-grown}
use Rattle.demands.proofs.Labels.{right_is}
use Rattle.demands.proofs.History.{labels-told, call-shows}
use Rattle.demands.proofs.Shown.{call-put}
use Rattle.power.specs.Recovery.{redone, tidied}
use Rattle.cuts.specs.Ledger.{Happening, call, cut, journal_bytes, change_stores, cut_kind, make_stores, cut_tree, cut_entered, entered, tell, ledger}
use Rattle.cuts.specs.Cut.{cut_at}
use Rattle.cuts.specs.Run.{happened, after}
use Rattle.cuts.specs.Demands.{CredentialsFollow, ChallengeFollows, ModeStays, NothingWaits, FewGuesses, OnlyUserReloads, KeysStay, kind_at, NoGuessGained, FilesFollow, DirectoriesFollow, FilesRemain, DirectoriesRemain, Shown, AddressedWithin, WritesIt, OthersStay, WaitingByRight}
use Rattle.cuts.proofs.Used.{reached, cut-is, live-after, agree_after, happened-agrees}
use Rattle.cuts.proofs.Files.{altered}

-- ---- what a cut may be: the kind that the command is whole, a part of it, or nothing
cut_by : (P : Kind → Type 0) (n : ℕ) (x : Kind) → P other → P x → (x ≡ right → P wrong) → ((d : List ℕ) → x ≡ reloaded d → P (changed d)) → P (cut_kind n x)
unfolding cut_kind
cut_by P n other o h w c = h
cut_by P n right o h w c = split P (is_zero n) (λ e. o) (λ e. split P (leb 2 n) (λ q. h) (λ q. w refl))
cut_by P n wrong o h w c = split P (is_zero n) (λ e. o) (λ e. h)
cut_by P n (changed d) o h w c = split P (leb n journal_bytes) (λ e. o) (λ e. h)
cut_by P n (reloaded d) o h w c = split P (leb n journal_bytes) (λ e. o) (λ e. split P (leb n change_stores) (λ q. c d refl) (λ q. h))
cut_by P n ended o h w c = h

-- ---- guesses
module _ (n : ℕ) (l : Ledger) (w : Which) (h : Kept n (page w l)) (m : ℕ) where
  changed-kept : (d : List ℕ) → Kept n (booked (changed d) (page w l))
  unfolding wrong_since total
  changed-kept d = record { limit = h.limit; few = h.few; most = h.most }

  cut-kept : (x : Kind) → Asked l w x → Kept n (booked (cut_kind m x) (page w l))
  cut-kept x a =
      cut_by (λ (y : Kind). Kept n (booked y (page w l))) m x (book-kept n l w h other tt) (book-kept n l w h x a)
      (λ e. book-kept n l w h wrong (subst (Asked l w) e a)) (λ d e. changed-kept d)

ended-kept : (n : ℕ) (p : Page) → Kept n p → Kept n (booked ended p)
unfolding wrong_since total
ended-kept n p h = record { limit = h.limit; few = h.few; most = h.most }

-- what holds of the opened pages and stays by each kind that the ledger can enter, whole or cut, holds after any list
pages-by : (P : Which → Page → Type 0) (o : Order)
    → ((w : Which) → P w (opened (o.given w)))
    → ((l : Ledger) (cmd : List ℕ) (w : Which) → P w (page w l) → P w (booked (kind_in l cmd w) (page w l)))
    → ((l : Ledger) (cmd : List ℕ) (w : Which) (n : ℕ) → P w (page w l) → P w (booked (cut_kind n (kind_in l cmd w)) (page w l)))
    → ((w : Which) (p : Page) → P w p → P w (booked ended p))
    → (xs : List Happening) → EachPage P (ledger o xs)
unfolding ledger tell
pages-by P o start book part end xs = all _ xs start
  where
    one : (l : Ledger) (x : Happening) → EachPage P l → EachPage P (entered l x)
    one l (call (sent cmd random reply)) h = split (EachPage P) (servable random reply) (λ e w. book l cmd w (h w)) (λ e. h)
    one l (call resets) h = λ w. end w (page w l) (h w)
    one l (cut cmd random reply n s r) h =
        split (EachPage P) (servable random reply) (λ e w. end w _ (part l cmd w n (h w))) (λ e w. end w (page w l) (h w))

    all : (l : Ledger) (xs : List Happening) → EachPage P l → EachPage P (tell l xs)
    all l [] h = h
    all l (x ∷ xs) h = all (entered l x) xs (one l x h)

kept : (o : Order) (xs : List Happening) (w : Which) → Kept (limit_of w o) (page w (ledger o xs))
unfolding wrong_since total
kept o xs =
    pages-by (λ w p. Kept (limit_of w o) p) o (λ w. record { limit = refl; few = omega arith; most = omega arith })
    (λ l cmd w h. book-kept (limit_of w o) l w h (kind_in l cmd w) (by_right l cmd w))
    (λ l cmd w n h. cut-kept (limit_of w o) l w h n (kind_in l cmd w) (by_right l cmd w)) (λ w p h. ended-kept (limit_of w o) p h) xs

pub few-guesses : FewGuesses
few-guesses o xs w =
    let h = kept o xs w in
    let p = page w (ledger o xs) in
    let e : limit_of w o * (total is_right p.history + total is_reload p.history + 1)
    ≡ limit_of w o * (total is_right p.history + total is_reload p.history) + limit_of w o = omega arith in
    omega (arith, e, h.few, h.most)

never-loaded : (l : Ledger) (cmd : List ℕ) (w : Which) → Unloaded w (kind_in l cmd w)
never-loaded l cmd w = kind-by (Unloaded w) (listed (framed cmd)) (tells l) l.challenge cmd w (never-reload w other refl) (unloaded (tells l) w)

pub only-user-reloads : OnlyUserReloads
unfolding total
only-user-reloads o xs =
    pages-by NoReloads o (λ w n. refl)
    (λ l cmd w h. still-none w (page w l) (kind_in l cmd w) (never-loaded l cmd w) h)
    (λ l cmd w n h. still-none w (page w l) (cut_kind n (kind_in l cmd w))
    (cut_by (Unloaded w) n (kind_in l cmd w) (never-reload w other refl) (never-loaded l cmd w) (λ e. never-reload w wrong refl) (λ d e. never-reload w (changed d) refl)) h)
    (λ w p h. still-none w p ended (never-reload w ended refl) h) xs

-- ---- keys
key-kind : (l : Ledger) (cmd : List ℕ) (w : Which) → KeyKind w (kind_in l cmd w)
key-kind l cmd w = kind-by (KeyKind w) (listed (framed cmd)) (tells l) l.challenge cmd w tt (fair-kind (tells l) w)

-- only the user PIN is reloaded, and it is no key
user-pin : (w : Which) (x : Kind) → KeyKind w x → (d : List ℕ) → x ≡ reloaded d → is_key (number_of w) ≡ false
user-pin w x q d e = let z : w ≡ user = subst (KeyKind w) e q in ap (λ (v : Which). is_key (number_of v)) z

ended-value : (o : Order) (w : Which) (p : Page) → SameValue o w p → SameValue o w (booked ended p)
unfolding value_set
ended-value o w p h = h

pub keys-stay : KeysStay
unfolding value_set
keys-stay o xs =
    pages-by (SameValue o) o (λ w a u. refl)
    (λ l cmd w h. still-same o w (page w l) (kind_in l cmd w) (key-kind l cmd w) h)
    (λ l cmd w n h. still-same o w (page w l) (cut_kind n (kind_in l cmd w))
    (cut_by (KeyKind w) n (kind_in l cmd w) tt (key-kind l cmd w) (λ e. tt) (user-pin w (kind_in l cmd w) (key-kind l cmd w))) h)
    (λ w p h. ended-value o w p h) xs

-- ---- credentials, challenge, mode
pub credentials-follow : CredentialsFollow
credentials-follow o area xs h w = agreed w _ _ _ ((agree_after o area xs h).logins-are w) (kept o xs w)

pub challenge-follows : ChallengeFollows
challenge-follows o area xs h = (agree_after o area xs h).challenge-is

tell-mode : (l : Ledger) (xs : List Happening) → (tell l xs).mode ≡ l.mode
unfolding tell
tell-mode l [] = refl
tell-mode l (x ∷ xs) = tell-mode (entered l x) xs ∙ one x
  where
    one : (x : Happening) → (entered l x).mode ≡ l.mode
    one (call (sent cmd random reply)) = split (λ (y : Ledger). y.mode ≡ l.mode) (servable random reply) (λ q. refl) (λ q. refl)
    one (call resets) = refl
    one (cut cmd random reply n s r) = split (λ (y : Ledger). y.mode ≡ l.mode) (servable random reply) (λ q. refl) (λ q. refl)

ledger-mode : (o : Order) (xs : List Happening) → (ledger o xs).mode ≡ o.mode
unfolding ledger
ledger-mode o xs = tell-mode _ xs

pub mode-stays : ModeStays
mode-stays o area xs h = (agree_after o area xs h).mode-is ∙ ledger-mode o xs

pub nothing-waits : NothingWaits
nothing-waits o area xs h e =
    let c = (after o area xs).card in
    let r = responded c.response (sound-good c (after o area xs).area (live-after o area xs h).sound-card).response in
    let z : mode c ≡ 0 = mode-stays o area xs h ∙ e in
    let none : wait_count c.response ≡ 0 = one_of (marked (mode c)) (is_zero (wait_count c.response)) r.none (λ t. absurd (omega (arith, eqb-true (mode c) 1 t, z))) (λ t. eqb-true _ _ t) in
    ap (λ n. take n c.response.bytes) none

-- ---- no guess is gained
-- what each kind does to the tries left
module _ (p : Page) where
  abbrev left_in : Page → ℕ
  left_in q = q.limit - wrong_since q.history

  Gained : Kind → Type 0
  Gained x = left_in p < left_in (booked x p) → (x ≡ right) ⊎ ((d : List ℕ) × (x ≡ reloaded d))

  gains : (x : Kind) → Gained x
  unfolding Gained wrong_since
  gains other l = absurd (omega (arith, l))
  gains right l = inl refl
  gains wrong l = absurd (omega (arith, l))
  gains (changed d) l = absurd (omega (arith, l))
  gains (reloaded d) l = inr (d, refl)
  gains ended l = absurd (omega (arith, l))

  ended-left : left_in (booked ended p) ≡ left_in p
  unfolding wrong_since
  ended-left = refl

  other-left : left_in (booked other p) ≡ left_in p
  unfolding wrong_since
  other-left = refl

-- a reload was asked for with the admin right held
abbrev ByAdmin : Ledger → Kind → Type 0
ByAdmin l other = Unit
ByAdmin l right = Unit
ByAdmin l wrong = Unit
ByAdmin l (changed d) = Unit
ByAdmin l (reloaded d) = is_held (page admin l).history ≡ true
ByAdmin l ended = Unit

asked-admin : (l : Ledger) (w : Which) (x : Kind) → Asked l w x → ByAdmin l x
asked-admin l w other a = tt
asked-admin l w right a = tt
asked-admin l w wrong a = tt
asked-admin l w (changed d) a = tt
asked-admin l w (reloaded d) a = a.0
asked-admin l w ended a = tt

admin-at : (l : Ledger) (x : Happening) (w : Which) → ByAdmin l (kind_at l x w)
admin-at l (call (sent cmd random reply)) w = split (ByAdmin l) (servable random reply) (λ e. asked-admin l w (kind_in l cmd w) (by_right l cmd w)) (λ e. tt)
admin-at l (call resets) w = tt
admin-at l (cut cmd random reply n s r) w =
    split (ByAdmin l) (servable random reply) (λ e. cut_by (ByAdmin l) n (kind_in l cmd w) tt (asked-admin l w (kind_in l cmd w) (by_right l cmd w)) (λ q. tt) (λ d q. tt)) (λ e. tt)

-- the page afterwards has the tries that the kind leaves
left_after : (l : Ledger) (x : Happening) (w : Which) → left_in (page w l) (page w (entered l x)) ≡ left_in (page w l) (booked (kind_at l x w) (page w l))
left_after l (call (sent cmd random reply)) w = go (servable random reply)
  where
    go : (b : Bool)
        → left_in (page w l) (page w (cond b (calls.with_command l cmd random) l)) ≡ left_in (page w l) (booked (cond b (kind_in l cmd w) other) (page w l))
    go true = refl
    go false = sym (other-left (page w l))
left_after l (call resets) w = refl
left_after l (cut cmd random reply n s r) w = go (servable random reply)
  where
    go : (b : Bool)
        → left_in (page w l) (page w (cond b (cut_entered l cmd n) (next l resets))) ≡ left_in (page w l) (booked (cond b (cut_kind n (kind_in l cmd w)) other) (page w l))
    go true = ended-left (booked (cut_kind n (kind_in l cmd w)) (page w l))
    go false = ended-left (page w l) ∙ sym (other-left (page w l))

pub no-guess-gained : NoGuessGained
unfolding Gained
no-guess-gained o area xs h x w more =
    let c = after o area xs in
    let l = ledger o xs in
    let before : (login w c.card).tries.left ≡ left_in (page w l) (page w l) = ap (λ (y : Login). y.tries.left) ((agree_after o area xs h).logins-are w) in
    let now = ap (λ (y : Login). y.tries.left) ((happened-agrees c l x (live-after o area xs h) (agree_after o area xs h)).logins-are w) ∙ left_after l x w in
    ⊎_elim inl (λ (y : (d : List ℕ) × (kind_at l x w ≡ reloaded d)). inr (record { value = y.0; is-reload = y.1; admin-held = subst (ByAdmin l) y.1 (admin-at l x w) }))
    (gains (page w l) (kind_at l x w) (omega (arith, before, now, more)))

-- ---- files and directories
pub files-follow : FilesFollow
files-follow o area xs h = labels-told _ _ (live-after o area xs h) (ledger o xs) (agree_after o area xs h)

pub directories-follow : DirectoriesFollow
directories-follow o area xs h =
    let c = (after o area xs).card in
    let g = filed c.directory (sound-good c _ (live-after o area xs h).sound-card).directory in
    let m = (agree_after o area xs h).tree_is in
    record {
      number_is = m.number_is;
      tag_is = λ n here. right_is c.directory g.few g.folders.few c.session.folder (ledger o xs).tree m n here.first here.last;
      current-is = m.current-is;
    }

pub shown : Shown
shown o area xs h cmd random reply y n here alike =
    call-shows _ _ (live-after o area xs h) (ledger o xs) (agree_after o area xs h) cmd random reply y n here alike

-- a tree grows
root-grown : (t u : Tree) → TreeGrown t u → TreeGrown t (turned_to u 0)
root-grown t u g = record { files = g.files; directories = g.directories }

entered-grown : (l : Ledger) (x : Happening) → TreeGrown l.tree (entered l x).tree
unfolding cut_tree
entered-grown l (call e) = next-grown l e
entered-grown l (cut cmd random reply n s r) =
    split (λ (y : Ledger). TreeGrown l.tree y.tree) (servable random reply)
    (λ e. root-grown l.tree _
    (split (TreeGrown l.tree) (leb (make_stores l.tree.current (framed cmd)) n)
    (λ q. role-grown (role (listed (framed cmd))) (tells l) l.tree (framed cmd)) (λ q. same-tree l.tree)))
    (λ e. next-grown l resets)

tell-grown : (l : Ledger) (xs more : List Happening) → TreeGrown (tell l xs).tree (tell l (xs ++ more)).tree
unfolding tell
tell-grown l [] [] = same-tree l.tree
tell-grown l [] (x ∷ more) = twice-tree l.tree (entered l x).tree (tell (entered l x) more).tree (entered-grown l x) (tell-grown (entered l x) [] more)
tell-grown l (x ∷ xs) more = tell-grown (entered l x) xs more

ledger-grown : (o : Order) (xs more : List Happening) → TreeGrown (ledger o xs).tree (ledger o (xs ++ more)).tree
unfolding ledger
ledger-grown o xs more = tell-grown _ xs more

pub files-remain : FilesRemain
files-remain o area xs more h n here =
    let now = files-follow o area xs h in
    let later = files-follow o area (xs ++ more) h in
    let grown = (ledger-grown o xs more).files in
    let low : n ≤ length (ledger o xs).tree.labels = rw (← now.count-is) here.last in
    let there : IsFile (after o area (xs ++ more)).card n = record { first = here.first; last = rw later.count-is (omega (arith, low, grown.longer)) } in
    record { there = there; label_is = later.label_is n there ∙ grown.same n low ∙ sym (now.label_is n here) }

pub directories-remain : DirectoriesRemain
directories-remain o area xs more h n here =
    let now = directories-follow o area xs h in
    let later = directories-follow o area (xs ++ more) h in
    let grown = (ledger-grown o xs more).directories in
    let low : n ≤ length (ledger o xs).tree.tags = rw (← now.number_is) here.last in
    let there : IsFolder (after o area (xs ++ more)).card n = record { first = here.first; last = rw later.number_is (omega (arith, low, grown.longer)) } in
    record { there = there; tag_is = later.tag_is n there ∙ grown.same n low ∙ sym (now.tag_is n here) }

-- ---- other firms' files
pub addressed-within : AddressedWithin
addressed-within o area xs h cmd n a =
    sym (ap (λ (x : Label). x.within) ((files-follow o area xs h).label_is n (named a).there)) ∙ (named a).lies ∙ (agree_after o area xs h).tree_is.current-is
  where
    Names : Type 0
    Names = Within (after o area xs).card (after o area xs).card.session.folder n

    by : {ins sfi : ℕ} → Addresses (after o area xs).card (framed cmd) ins sfi n → Names
    by x = record { there = x.named.there; lies = x.named.lies }

    named : Addressed (after o area xs).card cmd n → Names
    named a = ⊎_elim (⊎_elim by by) (⊎_elim by (⊎_elim by by)) a

pub others-stay : OthersStay
others-stay o area xs h x n here far = ⊎_elim (λ s. s) (never x) (altered o area xs h x n here)
  where
    never : (x : Happening) → WritesIt (after o area xs).card (ledger o xs) x n → Stays (after o area xs) (happened (after o area xs) x) n
    never (call (sent cmd random reply)) r = absurd (far (addressed-within o area xs h cmd n (inr r.addressed)))
    never (call resets) r = absurd r
    never (cut cmd random reply m s e) r = absurd (far (addressed-within o area xs h cmd n (inr r.addressed)))

-- ---- what waits
none-waits : (c : Card) → waiting (tidied c) ≡ []
unfolding tidied
none-waits c = waits_back (mode (redone c)) []

pub waiting-by-right : WaitingByRight
waiting-by-right o area xs h (call e) = call-put _ _ (live-after o area xs h) (ledger o xs) (agree_after o area xs h) e
waiting-by-right o area xs h (cut cmd random reply n s r) =
    let w = after o area xs in
    let live = live-after o area xs h in
    ap (λ (v : World). waiting v.card) (cut-is w.card w.area live cmd random reply n s r)
    ∙ none-waits (cut_at w.card w.area cmd (reached w.card w.area live cmd random reply n)).card
