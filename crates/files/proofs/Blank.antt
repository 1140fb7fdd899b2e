-- Unused places: every byte of them is 00.
use Prim.Native.Nat.{ℕ}
use mathlib.Core.Bool.{true}
use mathlib.Core.List.{List, [], ◌∷◌, map}
use mathlib.Core.Path.{◌≡◌, refl, ap, ap₂}
use lib.ListN.{length}
use borrow.Author.Tests.{eqb-true}
use Rattle.files.specs.declared.File.{File}
use Rattle.files.specs.declared.Folder.{Folder}
use Rattle.files.specs.Words.{every, is_zero}
use Rattle.files.specs.State.{blank_file, blank_folder, file_bytes, file_of_bytes, folder_bytes, folder_of_bytes}
use Rattle.files.specs.Part.{zeros}
use Rattle.files.specs.Sound.{unused_place, unused_folder}
use Rattle.files.proofs.Checks.{each}

all-zeros : (b : List ℕ) → every (map is_zero b) ≡ true → b ≡ zeros (length b)
all-zeros [] h = refl
all-zeros (x ∷ []) h = ap (λ (n : ℕ). n ∷ []) (eqb-true x 0 h)
all-zeros (x ∷ (y ∷ b)) h =
    let e = each (is_zero x ∷ every (map is_zero (y ∷ b)) ∷ []) h in
    ap₂ (λ (n : ℕ) (l : List ℕ). n ∷ l) (eqb-true x 0 e.0) (all-zeros (y ∷ b) e.1)

pub unused-blank : (f : File) → unused_place f ≡ true → f ≡ blank_file
unfolding unused_place
unused-blank f h = ap file_of_bytes (all-zeros (file_bytes f) h)

pub unused-folder : (x : Folder) → unused_folder x ≡ true → x ≡ blank_folder
unfolding unused_folder
unused-folder x h = ap folder_of_bytes (all-zeros (folder_bytes x) h)
