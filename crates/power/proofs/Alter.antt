-- Laws of an element altered in its place: none of them asks whether there is one.
use Prim.Native.Nat.{ℕ, zero, suc}
use mathlib.Core.List.{List, [], ◌∷◌}
use mathlib.Core.Path.{◌≡◌, refl, sym, ap, ◌∙◌}
use lib.ListN.{length, get_or, set}
use Rattle.power.specs.Store.{alter}

module _ {A : Type 0} where
  -- twice is once
  pub alter-twice : (f g h : A → A) → ((x : A) → f (g x) ≡ h x) → (xs : List A) (n : ℕ) → alter f (alter g xs n) n ≡ alter h xs n
  alter-twice f g h e [] n = refl
  alter-twice f g h e (x ∷ xs) zero = ap (λ y. y ∷ xs) (e x)
  alter-twice f g h e (x ∷ xs) (suc n) = ap (λ (ys : List A). x ∷ ys) (alter-twice f g h e xs n)

  pub alter-same : (f : A → A) → ((x : A) → f x ≡ x) → (xs : List A) (n : ℕ) → alter f xs n ≡ xs
  alter-same f e [] n = refl
  alter-same f e (x ∷ xs) zero = ap (λ y. y ∷ xs) (e x)
  alter-same f e (x ∷ xs) (suc n) = ap (λ (ys : List A). x ∷ ys) (alter-same f e xs n)

  -- it is the new element stored
  pub alter-set : (f : A → A) (xs : List A) (n : ℕ) (d : A) → alter f xs n ≡ set xs n (f (get_or xs n d))
  alter-set f [] n d = refl
  alter-set f (x ∷ xs) zero d = refl
  alter-set f (x ∷ xs) (suc n) d = ap (λ (ys : List A). x ∷ ys) (alter-set f xs n d)

  -- only what becomes of the element there matters
  pub alter-as : (f g : A → A) (xs : List A) (n : ℕ) (d : A) → f (get_or xs n d) ≡ g (get_or xs n d) → alter f xs n ≡ alter g xs n
  alter-as f g xs n d e = alter-set f xs n d ∙ ap (set xs n) e ∙ sym (alter-set g xs n d)

  -- what holds of each element, and is kept, holds of each afterwards
  pub alter-each : (P : A → Type 0) (f : A → A) → ((x : A) → P x → P (f x)) → (xs : List A) (n m : ℕ) (d : A) → P (get_or xs m d) → P (get_or (alter f xs n) m d)
  alter-each P f h [] n m d p = p
  alter-each P f h (x ∷ xs) zero zero d p = h x p
  alter-each P f h (x ∷ xs) zero (suc m) d p = p
  alter-each P f h (x ∷ xs) (suc n) zero d p = p
  alter-each P f h (x ∷ xs) (suc n) (suc m) d p = alter-each P f h xs n m d p

  pub alter-length : (f : A → A) (xs : List A) (n : ℕ) → length (alter f xs n) ≡ length xs
  alter-length f [] n = refl
  alter-length f (x ∷ xs) zero = refl
  alter-length f (x ∷ xs) (suc n) = ap suc (alter-length f xs n)
