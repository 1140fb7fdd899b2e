-- The ledger's tree by itself: what was made stays in its place, and where the current directory goes.
use Prim.Native.Nat.{ℕ, suc, ◌-◌, ◌/◌, ◌%◌, ◌≤◌, ◌<◌}
use mathlib.Core.Bool.{Bool, true, false, cond, ◌&&◌, ◌||◌, not}
use mathlib.Core.List.{List, [], ◌∷◌, ◌++◌}
use mathlib.Core.Logic.{◌⊎◌, inl, inr, ⊎_elim, by_cases}
use mathlib.Core.Path.{◌≡◌, refl, sym, ap, subst, ◌∙◌}
use native.Mathlib.Decide.{ℕ_discrete, dec_lt}
use native.Mathlib.Nat.{le_refl}
use native.Mathlib.Omega.{arith}
use lib.ListN.{length}
use lib.Dec.{eqb}
use borrow.Author.Tests.{eq-eqb, ne_eqb, eqb-true}
use Rattle.files.specs.Words.{is_zero}
use Rattle.files.specs.Rights.{all_held, any_held, allowed}
use Rattle.files.proofs.Checks.{clash, split}
use Rattle.rules.specs.declared.Ins.{Ins}
use Rattle.rules.specs.declared.Ins.TheVariants.{Select, ReadBinary, UpdateBinary, ReadRecord, UpdateRecord, AppendRecord, Verify, Authenticate, ChangePin, ReloadPin, CreateFile, GetChallenge, GetResponse, Unlisted}
use Rattle.rules.specs.Words.{first}
use Rattle.rules.specs.State.{device, admin, user, Logins}
use Rattle.rules.specs.Frame.{Command, framed, frame_sw, class_sw}
use Rattle.rules.specs.List.{listed}
use Rattle.demands.specs.Role.{Role, touches_nothing, selects, reads_binary, reads_record, writes_binary, writes_record, appends_record, makes_file, presents_pin, presents_key, changes_pin, reloads_pin, asks_challenge, role}
use Rattle.rules.specs.Calls.{Order}
use Rattle.rules.proofs.Checks.{Passed, passed, holds}
use Rattle.demands.specs.Ledger.{Event, sent, resets, Label, Tag, Tree, passes, no_label, no_tag, nth, tag_in, fid_of, fid_of_tag, has_name, tagged, bit_set, satisfied, asks_folder, label_given, tag_given, make_checks, with_made, turned_to, fid_asked, seek_checks, leads_to, grown, Ledger, tells, select_sw, servable, next, tell, ledger}
use Rattle.demands.specs.Directories.{directory_fid, SelectLeads, CurrentMoves}
use Rattle.demands.specs.Framing.{Sent, NamedBy}
use Rattle.demands.proofs.Framing.{listed-by-bytes, select-by-bytes}

-- every check of the command passed
pub all-passed : (l : List ℕ) (k : Command) → passes l k ≡ true → Passed l
all-passed l k e = passed l (passed (frame_sw k ∷ class_sw k ∷ first l ∷ []) (eqb-true _ _ e)).1.1.0

-- and the frame is a good one
framed-well : (l : List ℕ) (k : Command) → passes l k ≡ true → not (is_zero k.case) ≡ true
framed-well l k e = holds (not (is_zero k.case)) 0x6700 refl (passed (frame_sw k ∷ class_sw k ∷ first l ∷ []) (eqb-true _ _ e)).0

-- ---- things made one after another, the latest first: each place has its own
abbrev pub EachIs : (A : Type 0) → (ℕ → A) → List A → Type 0
EachIs A has [] = Unit
EachIs A has (x ∷ earlier) = (has (length earlier) ≡ x) × EachIs A has earlier

-- where the places up to the last have the same
pub each_same : (A : Type 0) (has now : ℕ → A) (made : List A) → ((i : ℕ) → i < length made → now i ≡ has i) → EachIs A has made → EachIs A now made
each_same A has now [] e h = tt
each_same A has now (x ∷ earlier) e h = (e (length earlier) (omega arith) ∙ h.0, each_same A has now earlier (λ i l. e i (omega arith)) h.1)

module _ (A : Type 0) (none : A) where
  -- what the n-th has
  pub each_at : (has : ℕ → A) (made : List A) (n : ℕ) → 1 ≤ n → n ≤ length made → EachIs A has made → has (n - 1) ≡ nth A none made n
  unfolding nth
  each_at has [] n l m h = absurd (omega arith)
  each_at has (x ∷ earlier) n l m h =
      by_cases (ℕ_discrete n (suc (length earlier)))
      (λ q. let e : n - 1 ≡ length earlier = omega arith in rw (eq-eqb n (suc (length earlier)) q, e) h.0)
      (λ o. rw (ne_eqb n (suc (length earlier)) o) (each_at has earlier n l (omega arith) h.1))

  -- a later list has all of an earlier one, each in its place
  pub record Grown (made later : List A) : Type 0 where
    pub longer : length made ≤ length later
    pub same : (n : ℕ) → n ≤ length made → nth A none later n ≡ nth A none made n

  same-grown : (made : List A) → Grown made made
  same-grown made = record { longer = le_refl _; same = λ n l. refl }

  more-grown : (made : List A) (x : A) → Grown made (x ∷ made)
  unfolding nth
  more-grown made x = record {
    longer = omega arith;
    same = λ n l. rw (ne_eqb n (suc (length made)) (λ e. omega arith));
  }

  twice-grown : (a b c : List A) → Grown a b → Grown b c → Grown a c
  twice-grown a b c g h = record {
    longer = omega arith;
    same = λ n l. h.same n (omega arith) ∙ g.same n l;
  }

-- ---- no file and no directory goes, and none becomes another
pub record TreeGrown (t later : Tree) : Type 0 where
  pub files : Grown Label no_label t.labels later.labels
  pub directories : Grown Tag no_tag t.tags later.tags

-- where the current directory alone is another
turned-grown : (t : Tree) (n : ℕ) → TreeGrown t (turned_to t n)
turned-grown t n = record { files = same-grown Label no_label t.labels; directories = same-grown Tag no_tag t.tags }

pub same-tree : (t : Tree) → TreeGrown t t
same-tree t = record { files = same-grown Label no_label t.labels; directories = same-grown Tag no_tag t.tags }

pub twice-tree : (a b c : Tree) → TreeGrown a b → TreeGrown b c → TreeGrown a c
twice-tree a b c g h = record {
  files = twice-grown Label no_label a.labels b.labels c.labels g.files h.files;
  directories = twice-grown Tag no_tag a.tags b.tags c.tags g.directories h.directories;
}

made-grown : (t : Tree) (k : Command) → TreeGrown t (with_made t k)
made-grown t k =
    split (TreeGrown t) (asks_folder (label_given t.current k))
    (λ e. record { files = same-grown Label no_label t.labels; directories = more-grown Tag no_tag t.tags (tag_given k) })
    (λ e. record { files = more-grown Label no_label t.labels (label_given t.current k); directories = same-grown Tag no_tag t.tags })

pub role-grown : (r : Role) (l : Logins) (t : Tree) (k : Command) → TreeGrown t (grown r l t k)
unfolding grown
role-grown touches_nothing l t k = same-tree t
role-grown selects l t k = split (TreeGrown t) (passes (seek_checks t k) k) (λ e. turned-grown t (leads_to t k)) (λ e. same-tree t)
role-grown reads_binary l t k = same-tree t
role-grown reads_record l t k = same-tree t
role-grown writes_binary l t k = same-tree t
role-grown writes_record l t k = same-tree t
role-grown appends_record l t k = same-tree t
role-grown makes_file l t k = split (TreeGrown t) (passes (make_checks l t k) k) (λ e. made-grown t k) (λ e. same-tree t)
role-grown presents_pin l t k = same-tree t
role-grown presents_key l t k = same-tree t
role-grown changes_pin l t k = same-tree t
role-grown reloads_pin l t k = same-tree t
role-grown asks_challenge l t k = same-tree t

pub next-grown : (l : Ledger) (e : Event) → TreeGrown l.tree (next l e).tree
next-grown l (sent cmd random reply) =
    split (λ (x : Ledger). TreeGrown l.tree x.tree) (servable random reply)
    (λ e. role-grown (role (listed (framed cmd))) (tells l) l.tree (framed cmd)) (λ e. same-tree l.tree)
next-grown l resets = record { files = same-grown Label no_label l.tree.labels; directories = same-grown Tag no_tag l.tree.tags }

tell-grown : (l : Ledger) (es more : List Event) → TreeGrown (tell l es).tree (tell l (es ++ more)).tree
unfolding tell
tell-grown l [] [] = same-tree l.tree
tell-grown l [] (e ∷ more) =
    twice-tree l.tree (next l e).tree (tell (next l e) more).tree (next-grown l e) (tell-grown (next l e) [] more)
tell-grown l (e ∷ es) more = tell-grown (next l e) es more

pub ledger-grown : (o : Order) (es more : List Event) → TreeGrown (ledger o es).tree (ledger o (es ++ more)).tree
unfolding ledger
ledger-grown o es more = tell-grown _ es more

-- ---- the directory that has a FID
pub tagged-low : (n : ℕ) (made : List Tag) → tagged n made ≤ length made
unfolding tagged
tagged-low n [] = omega arith
tagged-low n (x ∷ earlier) =
    split (λ m. m ≤ suc (length earlier)) (eqb (fid_of_tag x) n) (λ e. le_refl _) (λ e. omega (arith, tagged-low n earlier))

pub tagged-named : (n : ℕ) (made : List Tag) → 1 ≤ tagged n made → fid_of_tag (tag_in made (tagged n made)) ≡ n
unfolding tagged nth
tagged-named n [] = λ h. absurd (omega arith)
tagged-named n (x ∷ earlier) =
    split (λ m. 1 ≤ m → fid_of_tag (cond (eqb m (suc (length earlier))) x (tag_in earlier m)) ≡ n) (eqb (fid_of_tag x) n)
    (λ e h. rw (eq-eqb (suc (length earlier)) (suc (length earlier)) refl) (eqb-true (fid_of_tag x) n e))
    (λ e h. rw (ne_eqb (tagged n earlier) (suc (length earlier)) (λ q. omega (arith, tagged-low n earlier))) (tagged-named n earlier h))

-- the latest that has it
pub tagged-high : (made : List Tag) (n : ℕ) → 1 ≤ n → n ≤ length made → n ≤ tagged (fid_of_tag (tag_in made n)) made
unfolding tagged nth
tagged-high [] n l m = absurd (omega arith)
tagged-high (x ∷ earlier) n l m =
    by_cases (ℕ_discrete n (suc (length earlier)))
    (λ q. rw (eq-eqb n (suc (length earlier)) q, eq-eqb (fid_of_tag x) (fid_of_tag x) refl) m)
    (λ o. let here : tag_in earlier n ≡ tag_in (x ∷ earlier) n = rw (ne_eqb n (suc (length earlier)) o) in subst (λ (g : Tag). n ≤ tagged (fid_of_tag g) (x ∷ earlier)) here
    (split (λ z. n ≤ z) (eqb (fid_of_tag x) (fid_of_tag (tag_in earlier n))) (λ e. m) (λ e. tagged-high earlier n l (omega (arith, m, o)))))

-- ---- the current directory
-- a SELECT that ends 9000 leaves the current directory, where a file there has the FID, or leads to the one that has it
module _ (t : Tree) (k : Command) where
  abbrev n : ℕ
  n = fid_asked k

  abbrev here : Bool
  here = has_name fid_of t.current (fid_asked k) t.labels

  led : Passed (seek_checks t k)
      → (leads_to t k ≡ t.current) ⊎ ((has_name fid_of t.current (fid_asked k) t.labels ≡ false) × (fid_asked k ≡ directory_fid t (leads_to t k)))
  unfolding seek_checks leads_to
  led p = go here refl
    where
      some : (here || (not (eqb (tagged n t.tags) 0) || eqb n 0x3F00)) ≡ true
      some = holds (here || (not (eqb (tagged n t.tags) 0) || eqb n 0x3F00)) 0x6A82 refl p.1.1.0

      other : here ≡ false → n ≡ directory_fid t (tagged n t.tags)
      other e =
          let q : (not (eqb (tagged n t.tags) 0) || eqb n 0x3F00) ≡ true = rw e at some in
          by_cases (ℕ_discrete (tagged n t.tags) 0)
          (λ z. rw (eq-eqb (tagged n t.tags) 0 z) (eqb-true n 0x3F00 (rw (eq-eqb (tagged n t.tags) 0 z) at q)))
          (λ z. rw (ne_eqb (tagged n t.tags) 0 z) (sym (tagged-named n t.tags (omega arith))))

      go : (b : Bool) → here ≡ b
          → (cond b t.current (tagged n t.tags) ≡ t.current) ⊎ ((b ≡ false) × (n ≡ directory_fid t (cond b t.current (tagged n t.tags))))
      go true e = inl refl
      go false e = inr (refl, other e)

-- no other command moves it
module _ (l : Ledger) (cmd random reply : List ℕ) (q : servable random reply ≡ true) where
  abbrev k : Command
  k = framed cmd

  by_bytes : listed (framed cmd) ≡ Select → passes (seek_checks l.tree (framed cmd)) (framed cmd) ≡ true → Sent 0x00 0xA4 cmd
  by_bytes e p =
      let b = subst (λ i. NamedBy i (framed cmd).cla (framed cmd).ins) e (listed-by-bytes (framed cmd)) in
      record { good-frame = λ z. clash (not (is_zero k.case)) (framed-well (seek_checks l.tree k) k p) (rw z); class-is = b.0; instruction-is = b.1 }

  moved : (i : Ins) → listed (framed cmd) ≡ i
      → ((grown (role i) (tells l) l.tree (framed cmd)).current ≡ l.tree.current)
      ⊎ SelectLeads l cmd random reply (grown (role i) (tells l) l.tree (framed cmd)).current
  unfolding grown
  moved Select e =
      split (λ (x : Tree). (x.current ≡ l.tree.current) ⊎ SelectLeads l cmd random reply x.current) (passes (seek_checks l.tree k) k)
      (λ p. ⊎_elim inl
      (λ z. inr (record { is-served = q; by-select = by_bytes e p; ends = eqb-true (select_sw l k) 0x9000 p; named = z.1; no-file = z.0 }))
      (led l.tree k (all-passed (seek_checks l.tree k) k p)))
      (λ p. inl refl)
  moved ReadBinary e = inl refl
  moved UpdateBinary e = inl refl
  moved ReadRecord e = inl refl
  moved UpdateRecord e = inl refl
  moved AppendRecord e = inl refl
  moved Verify e = inl refl
  moved Authenticate e = inl refl
  moved ChangePin e = inl refl
  moved ReloadPin e = inl refl
  moved CreateFile e =
      inl (split (λ (x : Tree). x.current ≡ l.tree.current) (passes (make_checks (tells l) l.tree k) k)
      (λ p. split (λ (x : Tree). x.current ≡ l.tree.current) (asks_folder (label_given l.tree.current k)) (λ z. refl) (λ z. refl)) (λ p. refl))
  moved GetChallenge e = inl refl
  moved GetResponse e = inl refl
  moved Unlisted e = inl refl

-- where a SELECT that leads somewhere leads
pub select-moves : (l : Ledger) (cmd random reply : List ℕ) (n : ℕ) → SelectLeads l cmd random reply n
    → (next l (sent cmd random reply)).tree.current ≡ tagged (fid_asked (framed cmd)) l.tree.tags
unfolding grown leads_to
select-moves l cmd random reply n q =
    rw (q.is-served, select-by-bytes cmd q.by-select, eq-eqb (select_sw l (framed cmd)) 0x9000 q.ends, q.no-file)

pub current-moves : CurrentMoves
current-moves l (sent cmd random reply) =
    split (λ (x : Ledger). (x.tree.current ≡ l.tree.current) ⊎ SelectLeads l cmd random reply x.tree.current) (servable random reply)
    (λ q. moved l cmd random reply q (listed (framed cmd)) refl) (λ q. inl refl)
current-moves l resets = inr refl

-- ---- what a rights byte asks
bit-set : (n : ℕ) → bit_set n ≡ not (is_zero (n % 2))
bit-set n =
    by_cases (dec_lt (n % 2) 1) (λ l. let e : n % 2 ≡ 0 = omega arith in rw e) (λ l. let e : n % 2 ≡ 1 = omega arith in rw e)

bit-clear : (n : ℕ) → not (bit_set n) ≡ is_zero (n % 2)
bit-clear n =
    by_cases (dec_lt (n % 2) 1) (λ l. let e : n % 2 ≡ 0 = omega arith in rw e) (λ l. let e : n % 2 ≡ 1 = omega arith in rw e)

flipped : (b : Bool) (x y : Bool) → cond (not b) x y ≡ cond b y x
flipped true x y = refl
flipped false x y = refl

pub satisfied-is : (l : Logins) (b : ℕ) → satisfied l b ≡ allowed (l device).held (l admin).held (l user).held b
unfolding satisfied allowed all_held any_held
satisfied-is l b =
    rw (bit-clear (b / 128), bit-clear (b / 64), bit-clear b, bit-set (b / 128), bit-set (b / 64), bit-set b, bit-set (b / 2))
    (ap (λ x. not (eqb b 0x0F) && x) (flipped (is_zero (b / 2 % 2)) _ _))
