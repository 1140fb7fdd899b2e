-- A file's size, place and bytes in the statements' own words are those of the files' layer.
use Prim.Native.Nat.{ℕ, zero, suc, ◌-◌}
use mathlib.Core.List.{List}
use mathlib.Core.Path.{◌≡◌, refl, sym}
use lib.ListN.{take, drop, get_or}
use Rattle.files.specs.declared.File.{File}
use Rattle.files.specs.declared.Directory.{Directory}
use Rattle.files.specs.Part.{part}
use Rattle.files.specs.State.{blank_file}
use Rattle.files.specs.Types.{size}
use Rattle.files.specs.Directory.{file_at, start_at, extent}
use Rattle.rules.specs.declared.Card.{Card}
use Rattle.demands.specs.Ledger.{size_of}
use Rattle.demands.specs.Held.{label_of, size_of_first, bytes_no}
use Rattle.demands.proofs.Labels.{label-size}

pub size_is : (f : File) → size_of (label_of f) ≡ size f
size_is f = sym (label-size f)

pub start_is : (files : List File) (n : ℕ) → size_of_first files n ≡ start_at files n
unfolding size_of_first start_at
start_is files zero = refl
start_is files (suc n) = rw (start_is files n, size_is (get_or files n blank_file))

-- the bytes of file n, of any directory
pub bytes-in : (d : Directory) (area : List ℕ) (n : ℕ)
    → take (size_of (label_of (file_at d.files (n - 1)))) (drop (size_of_first d.files (n - 1)) area) ≡ extent d n area
unfolding extent part
bytes-in d area n = rw (size_is (file_at d.files (n - 1)), start_is d.files (n - 1))

pub bytes-are : (c : Card) (area : List ℕ) (n : ℕ) → bytes_no c area n ≡ extent c.directory n area
bytes-are c area n = bytes-in c.directory area n
