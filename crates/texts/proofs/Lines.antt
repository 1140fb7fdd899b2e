-- Fields of a line read back.
-- Assumes nothing.
use Prim.Native.Nat.{ℕ, ◌≤◌, ◌<◌}
use mathlib.Core.Bool.{true, false}
use mathlib.Core.List.{List, [], ◌∷◌, ◌++◌, append_assoc}
use mathlib.Core.Path.{◌≡◌, refl}
use native.Mathlib.Omega.{arith}
use lib.ListN.{length, length-append}
use Rattle.digits.specs.Digits.{tab, newline, decimal, or_dash}
use Rattle.files.specs.declared.Directory.{Directory}
use Rattle.texts.specs.Text.{Form, line, home_fid, home, tail}
use Rattle.texts.specs.Reading.{ends, skip, hex_in, number, small, past_home}
use Rattle.texts.specs.Laws.{Bytes}
use Rattle.texts.proofs.Digits.{Inside, skip-over, inside-hex, inside-decimal, hex-back, number-back, small-back}

-- the first field of a line, and the byte that ends it
first : (P : List ℕ → Type 0) (f : List ℕ) (fs : List (List ℕ)) (r : List ℕ) → ((b : ℕ) (t : List ℕ) → ends b ≡ true → P (f ++ (b ∷ t))) → P (line (f ∷ fs) ++ r)
unfolding line
first P f [] r h = rw (append_assoc f (newline ∷ []) r) (h newline r refl)
first P f (g ∷ more) r h = rw (append_assoc f (tab ∷ line (g ∷ more)) r) (h tab (line (g ∷ more) ++ r) refl)

pub hex-first : (n : ℕ) (bs : List ℕ) (fs : List (List ℕ)) (r : List ℕ) → length bs ≤ n → Bytes bs → hex_in n (line (or_dash bs ∷ fs) ++ r) ≡ bs
hex-first n bs fs r h k = first (λ s. hex_in n s ≡ bs) (or_dash bs) fs r (λ b t e. hex-back n bs b t h k e)

pub small-first : (n : ℕ) (fs : List (List ℕ)) (r : List ℕ) → n < 256 → small (line (decimal n ∷ fs) ++ r) ≡ n
small-first n fs r h = first (λ s. small s ≡ n) (decimal n) fs r (λ b t e. small-back n b t h e)

pub number-first : (n : ℕ) (fs : List (List ℕ)) (r : List ℕ) → n < 65536 → number (line (decimal n ∷ fs) ++ r) ≡ n
number-first n fs r h = first (λ s. number s ≡ n) (decimal n) fs r (λ b t e. number-back n b t h e)

-- on to the next field
skip-field : (f g : List ℕ) (more : List (List ℕ)) (r : List ℕ) → Inside f → skip (line (f ∷ g ∷ more) ++ r) ≡ line (g ∷ more) ++ r
unfolding line
skip-field f g more r h = rw (append_assoc f (tab ∷ line (g ∷ more)) r) (skip-over f tab (line (g ∷ more) ++ r) h refl)

skip-end : (f r : List ℕ) → Inside f → skip (line (f ∷ []) ++ r) ≡ r
unfolding line
skip-end f r h = rw (append_assoc f (newline ∷ []) r) (skip-over f newline r h refl)

pub skip-hex : (bs g : List ℕ) (more : List (List ℕ)) (r : List ℕ) → skip (line (or_dash bs ∷ g ∷ more) ++ r) ≡ line (g ∷ more) ++ r
skip-hex bs g more r = skip-field (or_dash bs) g more r (inside-hex bs)

pub skip-number : (n : ℕ) (g : List ℕ) (more : List (List ℕ)) (r : List ℕ) → skip (line (decimal n ∷ g ∷ more) ++ r) ≡ line (g ∷ more) ++ r
skip-number n g more r = skip-field (decimal n) g more r (inside-decimal n)

pub skip-last-hex : (bs r : List ℕ) → skip (line (or_dash bs ∷ []) ++ r) ≡ r
skip-last-hex bs r = skip-end (or_dash bs) r (inside-hex bs)

pub skip-last-number : (n : ℕ) (r : List ℕ) → skip (line (decimal n ∷ []) ++ r) ≡ r
skip-last-number n r = skip-end (decimal n) r (inside-decimal n)

-- and to the directory's FID behind the last
skip-home : (f : List ℕ) (form : Form) (d : Directory) (n : ℕ) (r : List ℕ) → Inside f → skip (line (f ∷ home form d n) ++ r) ≡ tail form d n ++ r
skip-home f true d n r h = skip-field f (or_dash (home_fid d n)) [] r h
skip-home f false d n r h = skip-end f r h

pub skip-home-hex : (bs : List ℕ) (form : Form) (d : Directory) (n : ℕ) (r : List ℕ) → skip (line (or_dash bs ∷ home form d n) ++ r) ≡ tail form d n ++ r
skip-home-hex bs form d n r = skip-home (or_dash bs) form d n r (inside-hex bs)

pub skip-home-number : (m : ℕ) (form : Form) (d : Directory) (n : ℕ) (r : List ℕ) → skip (line (decimal m ∷ home form d n) ++ r) ≡ tail form d n ++ r
skip-home-number m form d n r = skip-home (decimal m) form d n r (inside-decimal m)

pub past-home : (form : Form) (d : Directory) (n : ℕ) (r : List ℕ) → past_home form (tail form d n ++ r) ≡ r
past-home true d n r = skip-last-hex (home_fid d n) r
past-home false d n r = refl

-- a line is not empty
some : (l : List (List ℕ)) → 1 ≤ length (line l)
unfolding line
some [] = omega arith
some (f ∷ []) = omega (arith, length-append f (newline ∷ []))
some (f ∷ g ∷ more) = omega (arith, length-append f (tab ∷ line (g ∷ more)))

pub line-some : (fs : List (List ℕ)) (r : List ℕ) → 1 ≤ length (line fs ++ r)
line-some fs r = omega (arith, length-append (line fs) r, some fs)
