-- Fields joined by tabs are parted again, and a line's fields joined are the line.
-- Assumes nothing.
use Prim.Native.Nat.{ℕ, zero, suc, ◌+◌, ◌≤◌}
use mathlib.Core.Bool.{Bool, true, false}
use mathlib.Core.List.{List, [], ◌∷◌, ◌++◌}
use mathlib.Core.Path.{◌≡◌, refl, sym, ap, ◌∙◌}
use native.Mathlib.Nat.{zero-add}
use native.Mathlib.Numerals.{add-one}
use native.Mathlib.Omega.{arith}
use lib.Dec.{eqb}
use lib.ListN.{length, take, drop, get_or}
use borrow.Author.Tests.{eqb-true, eq-eqb, ne_eqb}
use Rattle.digits.specs.Digits.{tab}
use Rattle.lines.specs.Grammar.{first_at, tab_at, tabs, before, after, field}
use Rattle.lines.specs.Says.{joined, TabFree}

-- a text without a tab
abbrev pub Plain : List ℕ → Type 0
Plain w = tabs w ≡ 0

pub tab-or-not : (b : ℕ) {A : Type 0} → (b ≡ tab → A) → (eqb b tab ≡ false → A) → A
tab-or-not b {A} f g = go (eqb b tab) refl
  where
    go : (t : Bool) → eqb b tab ≡ t → A
    go true e = f (eqb-true b tab e)
    go false e = g e

pub head_plain : (b : ℕ) (w : List ℕ) → Plain (b ∷ w) → (eqb b tab ≡ false) × Plain w
unfolding tabs
head_plain b w h =
    tab-or-not b
    (λ e. absurd (let k : 1 + tabs w ≡ 0 = rw (eq-eqb b tab e) at h in omega arith))
    (λ e. let k : 0 + tabs w ≡ 0 = rw e at h in (e, omega arith))

plain-cons : (b : ℕ) (w : List ℕ) → eqb b tab ≡ false → Plain w → Plain (b ∷ w)
unfolding tabs
plain-cons b w e k = rw (e, k)

pub plain-from : (w : List ℕ) → TabFree w → Plain w
unfolding tabs
plain-from [] h = refl
plain-from (b ∷ w) h =
    let k : Plain w = plain-from w (λ i l. h (suc i) (omega (arith, l))) in
    plain-cons b w (ne_eqb b tab (h 0 (omega arith))) k

pub plain-free : (w : List ℕ) → Plain w → TabFree w
plain-free [] h i l e = omega (arith, l)
plain-free (b ∷ w) h zero l e = let k = (head_plain b w h).0 in let z : eqb b tab ≡ true = eq-eqb b tab e in absurd (let y : ◌≡◌ {A = ℕ} 0 1 = cc in omega arith)
plain-free (b ∷ w) h (suc i) l e = plain-free w (head_plain b w h).1 i (omega (arith, l)) e

pub plain-append : (v w : List ℕ) → Plain v → tabs (v ++ w) ≡ tabs w
unfolding tabs
plain-append [] w h = refl
plain-append (b ∷ v) w h = let k = head_plain b v h in rw k.0 (zero-add (tabs (v ++ w)) ∙ plain-append v w k.1)

pub high-plain : (b : ℕ) (w : List ℕ) → 48 ≤ b → Plain w → Plain (b ∷ w)
high-plain b w h k = plain-cons b w (ne_eqb b tab (λ z. omega (arith, z))) k

-- the first field and the rest
module _ (r : List ℕ) where
  at_first : (f : List ℕ) → Plain f → tab_at (f ++ (tab ∷ r)) ≡ length f
  unfolding first_at
  at_first [] h = refl
  at_first (b ∷ f) h = let k = head_plain b f h in rw k.0 (ap suc (at_first f k.1))

  take-first : (f : List ℕ) → take (length f) (f ++ (tab ∷ r)) ≡ f
  take-first [] = refl
  take-first (b ∷ f) = ap (λ (l : List ℕ). b ∷ l) (take-first f)

  drop-first : (f : List ℕ) → drop (suc (length f)) (f ++ (tab ∷ r)) ≡ r
  drop-first [] = refl
  drop-first (b ∷ f) = drop-first f

  module _ (f : List ℕ) (h : Plain f) where
    pub before-tab : before (f ++ (tab ∷ r)) ≡ f
    unfolding before
    before-tab = rw (at_first f h) (take-first f)

    pub after-tab : after (f ++ (tab ∷ r)) ≡ r
    unfolding after
    after-tab = rw (at_first f h, add-one (length f)) (drop-first f)

    tabs-tab : tabs (f ++ (tab ∷ r)) ≡ suc (tabs r)
    unfolding tabs
    tabs-tab = plain-append f (tab ∷ r) h ∙ (let e : 1 + tabs r ≡ suc (tabs r) = omega arith in e)

-- a line of one field
pub before-all : (f : List ℕ) → Plain f → before f ≡ f
unfolding before first_at
before-all [] h = refl
before-all (b ∷ f) h = let k = head_plain b f h in rw k.0 (ap (λ (l : List ℕ). b ∷ l) (before-all f k.1))

-- each field of a line without tabs
abbrev pub AllPlain : List (List ℕ) → Type 0
AllPlain [] = Unit
AllPlain (f ∷ fs) = Plain f × AllPlain fs

pub tabs-joined : (f : List ℕ) (fs : List (List ℕ)) → AllPlain (f ∷ fs) → tabs (joined (f ∷ fs)) ≡ length fs
unfolding joined
tabs-joined f [] h = h.0
tabs-joined f (g ∷ more) h = tabs-tab (joined (g ∷ more)) f h.0 ∙ ap suc (tabs-joined g more h.1)

pub first-joined : (f : List ℕ) (fs : List (List ℕ)) → AllPlain (f ∷ fs) → before (joined (f ∷ fs)) ≡ f
unfolding joined
first-joined f [] h = before-all f h.0
first-joined f (g ∷ more) h = before-tab (joined (g ∷ more)) f h.0

pub field-joined : (n : ℕ) (f : List ℕ) (fs : List (List ℕ)) → AllPlain (f ∷ fs) → n ≤ length fs → field n (joined (f ∷ fs)) ≡ get_or (f ∷ fs) n []
unfolding joined
field-joined zero f fs h l = first-joined f fs h
field-joined (suc n) f [] h l = absurd (omega arith)
field-joined (suc n) f (g ∷ more) h l = ap (field n) (after-tab (joined (g ∷ more)) f h.0) ∙ field-joined n g more h.1 (omega arith)

-- a line's fields
abbrev pub fields_of : ℕ → List ℕ → List (List ℕ)
fields_of zero s = before s ∷ []
fields_of (suc n) s = before s ∷ fields_of n (after s)

module _ (b : ℕ) (s : List ℕ) (e : eqb b tab ≡ false) where
  before_on : before (b ∷ s) ≡ b ∷ before s
  unfolding before first_at
  before_on = rw e

  after_on : after (b ∷ s) ≡ after s
  unfolding after first_at
  after_on = rw (e, add-one (tab_at s), add-one (suc (tab_at s)))

before-none : (b : ℕ) (s : List ℕ) → b ≡ tab → before (b ∷ s) ≡ []
unfolding before first_at
before-none b s e = rw (eq-eqb b tab e)

after_none : (b : ℕ) (s : List ℕ) → b ≡ tab → after (b ∷ s) ≡ s
unfolding after first_at
after_none b s e = rw (eq-eqb b tab e)

pub before-plain : (s : List ℕ) → Plain (before s)
unfolding before first_at tabs
before-plain [] = refl
before-plain (b ∷ s) =
    tab-or-not b
    (λ e. ap tabs (before-none b s e))
    (λ e. ap tabs (before_on b s e) ∙ plain-cons b (before s) e (before-plain s))

pub field_plain : (n : ℕ) (s : List ℕ) → Plain (field n s)
field_plain zero s = before-plain s
field_plain (suc n) s = field_plain n (after s)

-- behind the first tab there is one less
pub parted : (s : List ℕ) (n : ℕ) → tabs s ≡ suc n → (before s ++ (tab ∷ after s) ≡ s) × (tabs (after s) ≡ n)
unfolding tabs
parted [] n h = absurd (omega arith)
parted (b ∷ s) n h =
    tab-or-not b
    (λ e. let k : 1 + tabs s ≡ suc n = rw (eq-eqb b tab e) at h in
    rw (before-none b s e, after_none b s e) (ap (λ (x : ℕ). x ∷ s) (sym e), omega arith))
    (λ e. let k : 0 + tabs s ≡ suc n = rw e at h in
    let p = parted s n (omega arith) in
    rw (before_on b s e, after_on b s e) (ap (λ (l : List ℕ). b ∷ l) p.0, p.1))

joined-behind : (f : List ℕ) (n : ℕ) (s : List ℕ) → joined (f ∷ fields_of n s) ≡ f ++ (tab ∷ joined (fields_of n s))
unfolding joined
joined-behind f zero s = refl
joined-behind f (suc n) s = refl

pub joined-again : (n : ℕ) (s : List ℕ) → tabs s ≡ n → joined (fields_of n s) ≡ s
unfolding joined
joined-again zero s h = before-all s h
joined-again (suc n) s h =
    let p = parted s n h in
    joined-behind (before s) n (after s) ∙ rw (joined-again n (after s) p.1) p.0
