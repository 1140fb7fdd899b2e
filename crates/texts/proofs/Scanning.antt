-- Loops that read a text.
-- Assumes nothing.
use Prim.Native.Nat.{ℕ, zero, suc, ◌+◌, ◌-◌, ◌*◌, ◌%◌, ◌≤◌, ◌<◌, min}
use mathlib.Core.Bool.{Bool, true, false, cond}
use mathlib.Core.List.{List, [], ◌∷◌, ◌++◌}
use mathlib.Core.Path.{◌≡◌, refl, sym, ap, ap₂, ◌∙◌}
use native.Mathlib.Nat.{add-zero}
use native.Mathlib.Numerals.{add-one}
use native.Mathlib.Omega.{arith}
use lib.Dec.{leb, ltb}
use lib.ListN.{length, take, drop, set, get_or, replicate, length-set, length-drop, length-replicate, drop_of_length-le}
use lib.Seq.{drop-cons, drop-drop, get_or-drop, take_all}
use borrow.Author.Tests.{leb-true, lt-ltb, le-ltb, ltb-true, ltb-false}
use Rattle.std.specs.List.{position_or_len}
use Rattle.std.proofs.Common.{Option, Some, None, not}
use Rattle.digits.specs.Digits.{value, hex_pair}
use Rattle.files.specs.declared.File.{File}
use Rattle.files.specs.declared.Folder.{Folder}
use Rattle.files.specs.declared.Directory.{Directory}
use Rattle.files.specs.Words.{every, Bounded}
use Rattle.files.specs.Part.{over, zeros}
use Rattle.files.specs.State.{blank_file, blank_folder, no_files, added, in_folder, one_more_folder, added_folder}
use Rattle.files.specs.Types.{count, record_length, size}
use Rattle.files.specs.Directory.{most_files, most_folders}
use Rattle.files.proofs.Checks.{each}
use Rattle.rules.specs.Words.{byte, filled_to}
use Rattle.texts.specs.Text.{Form, lines_for}
use Rattle.texts.specs.Reading.{ends, skip, skips, pair, hex_in, number_from, number, pairs, past_row, rows_in, behind, contents_in, file_in, home_in, contents_part, contents_of, after_file, length_for, goes_on, housed_in, files_in, bytes_in, folder_next, folder_in, folders_in, laid, foldered, with_files, Fills, LoadsAll}
use Rattle.texts.proofs.Contents.{pairs-length, contents-length, laid-front, laid-length, laid-append, drop-replicate}
use Rattle.texts.proofs.Exact.{number-low, hex-few}

-- hex
pub record HexInv (s out₀ out rest : List ℕ) (i : ℕ) : Type 0 where
  pub low : i ≤ length out₀
  pub size : length out ≡ length out₀
  pub count : i + length (hex_in (length out₀ - i) rest) ≡ length (hex_in (length out₀) s)
  pub bytes : laid out i (hex_in (length out₀ - i) rest) ≡ laid out₀ 0 (hex_in (length out₀) s)

hex-nil : (n : ℕ) (s : List ℕ) (v : ℕ) → v ≡ value (byte s 0) → 16 ≤ v → hex_in n s ≡ []
unfolding hex_in
hex-nil zero s v e h = refl
hex-nil (suc n) s v e h = rw (← e, le-ltb v 16 h)

hex-more-list : (n i : ℕ) (s next : List ℕ) (v x : ℕ) → i < n → v ≡ value (byte s 0) → v < 16 → x ≡ pair s → next ≡ drop 2 s → hex_in (n - i) s ≡ x ∷ hex_in (n - (i + 1)) next
unfolding hex_in
hex-more-list n i s next v x h e l f g =
    let k : n - i ≡ suc (n - (i + 1)) = omega arith in
    rw (k, ← e, lt-ltb v 16 l, f, g)

module _ (s out₀ out rest : List ℕ) (i : ℕ) (inv : HexInv s out₀ out rest i) where
  pub hex-stops : (v : ℕ) → v ≡ value (byte rest 0) → 16 ≤ v → Fills (hex_in (length out₀) s) out₀ i out
  unfolding laid
  hex-stops v e h =
      let z : hex_in (length out₀ - i) rest ≡ [] = hex-nil (length out₀ - i) rest v e h in
      let k : i + 0 ≡ length (hex_in (length out₀) s) = rw z at inv.count in
      record { count-is = omega arith; few = inv.low; left_is = rw z at inv.bytes }

  pub hex-ends : length out ≤ i → Fills (hex_in (length out₀) s) out₀ (length out) out
  unfolding laid hex_in
  hex-ends h =
      let n : length out₀ - i ≡ 0 = omega (arith, inv.size) in
      let k : i + 0 ≡ length (hex_in (length out₀) s) = rw n at inv.count in
      record { count-is = omega (arith, inv.low, inv.size); few = omega (arith, inv.size); left_is = rw n at inv.bytes }

  pub hex-goes : (v x : ℕ) (next : List ℕ) → i < length out → v ≡ value (byte rest 0) → v < 16 → x ≡ pair rest → next ≡ drop 2 rest → HexInv s out₀ (set out i x) next (i + 1)
  unfolding laid
  hex-goes v x next l e h f g =
      let m : hex_in (length out₀ - i) rest ≡ x ∷ hex_in (length out₀ - (i + 1)) next = hex-more-list (length out₀) i rest next v x (omega (arith, inv.size)) e h f g in
      let k : i + suc (length (hex_in (length out₀ - (i + 1)) next)) ≡ length (hex_in (length out₀) s) = rw m at inv.count in
      record {
        low = omega (arith, inv.size);
        size = length-set out i x ∙ inv.size;
        count = omega arith;
        bytes = ap (λ (j : ℕ). laid (set out i x) j (hex_in (length out₀ - (i + 1)) next)) (add-one i) ∙ (rw m at inv.bytes);
      }

-- decimal
module _ (s : List ℕ) (n i : ℕ) where
  number-next : i < length s → number_from n (drop i s) ≡ cond (ltb (value (get_or s i 0)) 10) (number_from ((n * 10 + value (get_or s i 0)) % 65536) (drop (suc i) s)) n
  unfolding number_from
  number-next h = rw (drop-cons s i 0 h)

  pub number-goes : (v m : ℕ) → number_from n (drop i s) ≡ number s → i < length s → v ≡ value (get_or s i 0) → v < 10 → m ≡ (n * 10 + v) % 65536 → number_from m (drop (i + 1) s) ≡ number s
  number-goes v m h l e k f = rw (add-one i, f, e) (sym (number-next l ∙ rw (lt-ltb (value (get_or s i 0)) 10 (omega arith))) ∙ h)

  pub number-stops : (v : ℕ) → number_from n (drop i s) ≡ number s → i < length s → v ≡ value (get_or s i 0) → 10 ≤ v → Bounded 65535 (number s) n
  number-stops v h l e k = is_number (sym (number-next l ∙ rw (le-ltb (value (get_or s i 0)) 10 (omega arith))) ∙ h)
    where
      is_number : n ≡ number s → Bounded 65535 (number s) n
      is_number z = record { is = z; low = omega (arith, number-low s) }

  pub number-ends : number_from n (drop i s) ≡ number s → length s ≤ i → Bounded 65535 (number s) n
  unfolding number_from
  number-ends h l =
      let z : n ≡ number s = sym (rw (drop_of_length-le s l)) ∙ h in
      record { is = z; low = omega (arith, number-low s) }

pub number-start : (s : List ℕ) → number_from 0 s ≡ number s
unfolding number
number-start s = refl

-- fields
skip-at : (s : List ℕ) → skip s ≡ drop (position_or_len ends s + 1) s
unfolding skip
skip-at [] = refl
skip-at (b ∷ bs) = of (ends b) (skip-at bs)
  where
    of : (t : Bool) → skip bs ≡ drop (position_or_len ends bs + 1) bs → cond t bs (skip bs) ≡ drop (cond (not t) (1 + position_or_len ends bs) 0 + 1) (b ∷ bs)
    of true e = refl
    of false e = let m : 1 + position_or_len ends bs + 1 ≡ suc (position_or_len ends bs + 1) = omega arith in e ∙ ap (λ (k : ℕ). drop k (b ∷ bs)) (sym m)

-- the byte that ends the field, where there is one
abbrev end_at : List ℕ → Option ℕ
end_at s = cond (ltb (position_or_len ends s) (length s)) (Some (position_or_len ends s)) None

pub skip-found : (s : List ℕ) (i : ℕ) → Some i ≡ end_at s → (i < length s) × (drop (i + 1) s ≡ skip s)
skip-found s i e = of (ltb (position_or_len ends s) (length s)) refl e
  where
    of : (t : Bool) → ltb (position_or_len ends s) (length s) ≡ t → Some i ≡ cond t (Some (position_or_len ends s)) None → (i < length s) × (drop (i + 1) s ≡ skip s)
    of true l k =
        let p : i ≡ position_or_len ends s = cc in
        let m : position_or_len ends s < length s = ltb-true _ _ l in
        (omega arith, rw p (sym (skip-at s)))
    of false l k = absurd cc

pub skip-none : (s : List ℕ) → None ≡ end_at s → [] ≡ skip s
skip-none s e = of (ltb (position_or_len ends s) (length s)) refl e
  where
    of : (t : Bool) → ltb (position_or_len ends s) (length s) ≡ t → None ≡ cond t (Some (position_or_len ends s)) None → [] ≡ skip s
    of true l k = absurd cc
    of false l k =
        let m : length s ≤ position_or_len ends s + 1 = omega (arith, ltb-false _ _ l) in
        sym (skip-at s ∙ drop_of_length-le s m)

-- the same, byte by byte
module _ (s : List ℕ) (i : ℕ) where
  skip-next : i < length s → skip (drop i s) ≡ cond (ends (get_or s i 0)) (drop (suc i) s) (skip (drop (suc i) s))
  unfolding skip
  skip-next h = rw (drop-cons s i 0 h)

  pub skip-stops : (rest : List ℕ) (t : Bool) → i < length s → t ≡ ends (get_or s i 0) → t ≡ true → skip (drop i s) ≡ rest → drop (i + 1) s ≡ rest
  skip-stops rest t h e f k = rw (add-one i) (sym (skip-next h ∙ rw (sym e ∙ f)) ∙ k)

  pub skip-goes : (rest : List ℕ) (t : Bool) → i < length s → t ≡ ends (get_or s i 0) → t ≡ false → skip (drop i s) ≡ rest → skip (drop (i + 1) s) ≡ rest
  skip-goes rest t h e f k = rw (add-one i) (sym (skip-next h ∙ rw (sym e ∙ f)) ∙ k)

  pub skip-ends : (rest : List ℕ) → length s ≤ i → skip (drop i s) ≡ rest → [] ≡ rest
  unfolding skip
  skip-ends rest h k = sym (rw (drop_of_length-le s h)) ∙ k

pub skips-goes : (s rest next : List ℕ) (k j : ℕ) → j < k → next ≡ skip rest → skips (k - j) rest ≡ s → skips (k - (j + 1)) next ≡ s
skips-goes s rest next k j h r e = let m : k - j ≡ suc (k - (j + 1)) = omega arith in rw r (rw m at e)

pub from_is : (s : List ℕ) (at : ℕ) → take (length s - at) (drop at s) ≡ drop at s
from_is s at = let e : length (drop at s) ≡ length s - at = length-drop at s in take_all (length s - at) (drop at s) (omega arith)

-- bytes over the front of a buffer of 00
pub laid_filled : (n : ℕ) (s : List ℕ) → laid (zeros n) 0 (hex_in n s) ≡ filled_to n (hex_in n s)
unfolding over
laid_filled n s = laid-front (zeros n) (hex_in n s) (omega (arith, hex-few n s, length-replicate {A = ℕ} n 0))

zero-byte : (m k : ℕ) → byte (zeros m) k ≡ 0
zero-byte zero k = refl
zero-byte (suc m) zero = refl
zero-byte (suc m) (suc k) = zero-byte m k

pub laid-byte : (n : ℕ) (bs : List ℕ) (i : ℕ) → length bs ≤ n → byte (laid (zeros n) 0 bs) i ≡ byte bs i
laid-byte n bs i h =
    rw (laid-front (zeros n) bs (omega (arith, length-replicate {A = ℕ} n 0)), drop-replicate {A = ℕ} (length bs) n 0) (padded bs (n - length bs) i)
  where
    padded : (xs : List ℕ) (m k : ℕ) → byte (xs ++ zeros m) k ≡ byte xs k
    padded [] m k = zero-byte m k
    padded (x ∷ xs) m zero = refl
    padded (x ∷ xs) m (suc k) = padded xs m k

-- bytes of two digits each
abbrev pub PairsInv : ℕ → List ℕ → List ℕ → List ℕ → ℕ → ℕ → Type 0
PairsInv n s out₀ out to i =
    (i ≤ n) × (length out ≡ length out₀) × (laid out (to + i) (pairs (n - i) (drop (i + i) s)) ≡ laid out₀ to (pairs n s))

-- the pair at a place
pair-there : (s : List ℕ) (q : ℕ) → pair (drop q s) ≡ hex_pair (get_or s q 0) (get_or s (q + 1) 0)
unfolding pair
pair-there s q = rw (get_or-drop q s 0 0, get_or-drop q s 1 0, add-zero q)

module _ (n : ℕ) (s out₀ out : List ℕ) (to i : ℕ) (inv : PairsInv n s out₀ out to i) where
  pub pairs-goes : (x : ℕ) → i < n → x ≡ hex_pair (get_or s (i + i) 0) (get_or s (i + i + 1) 0) → PairsInv n s out₀ (set out (to + i) x) to (i + 1)
  unfolding pairs laid
  pairs-goes x h e =
      let k : n - i ≡ suc (n - (i + 1)) = omega arith in
      let m : i + 1 + (i + 1) ≡ i + i + 2 = omega arith in
      let d : drop (i + 1 + (i + 1)) s ≡ drop 2 (drop (i + i) s) = ap (λ (y : ℕ). drop y s) m ∙ sym (drop-drop 2 (i + i) s) in
      let j : to + (i + 1) ≡ suc (to + i) = omega arith in
      let p : x ≡ pair (drop (i + i) s) = e ∙ sym (pair-there s (i + i)) in
      (omega arith, length-set out (to + i) x ∙ inv.1, rw (j, d, p) (rw k at inv.2))

  pub pairs-ends : n ≤ i → out ≡ laid out₀ to (pairs n s)
  unfolding pairs laid
  pairs-ends h = let k : n - i ≡ 0 = omega arith in rw k at inv.2

-- contents
pub record ContentsInv (n : ℕ) (s image₀ image : List ℕ) (to : ℕ) (rest : List ℕ) (i : ℕ) : Type 0 where
  pub low : i ≤ n
  pub inside : length_for (n - i) ≤ length rest
  pub size : length image ≡ length image₀
  pub bytes : laid image (to + i) (contents_in (n - i) rest) ≡ laid image₀ to (contents_in n s)
  pub ends_so : behind (lines_for (n - i)) (n - i) rest ≡ behind (lines_for n) n s

pub contents-start : (n : ℕ) (s image : List ℕ) (to : ℕ) → length_for n ≤ length s → ContentsInv n s image image to s 0
contents-start n s image to h =
    let e : n - 0 ≡ n = omega arith in let f : to + 0 ≡ to = omega arith in
    record { low = omega arith; inside = rw e h; size = refl; bytes = rw (e, f); ends_so = rw e }

-- the first line of contents
module _ (n m : ℕ) (s : List ℕ) (h : 1 ≤ n) (e : m ≡ min 32 n) where
  lines_more : lines_for n ≡ suc (lines_for (n - 32))
  lines_more = omega arith

  contents-more : contents_in n s ≡ pairs m s ++ contents_in (n - 32) (drop (m + m + 1) s)
  unfolding rows_in past_row
  contents-more = rw (lines_more, e)

  behind_more : behind (lines_for n) n s ≡ behind (lines_for (n - 32)) (n - 32) (drop (m + m + 1) s)
  unfolding behind past_row
  behind_more = rw (lines_more, e)

module _ (n : ℕ) (s image₀ image : List ℕ) (to : ℕ) (rest : List ℕ) (i : ℕ) (inv : ContentsInv n s image₀ image to rest i) where
  -- the next line lies in the text
  pub row_inside : (m : ℕ) → i < n → m ≡ min 32 (n - i) → m + m + 1 + length_for (n - (i + m)) ≤ length rest
  row_inside m h e =
      let some : 1 ≤ n - i = omega arith in
      let r : n - (i + m) ≡ n - i - 32 = omega arith in
      let k : lines_for (n - i) ≡ suc (lines_for (n - i - 32)) = lines_more (n - i) m rest some e in
      let l = inv.inside in
      rw r (omega arith)

  pub contents-goes : (m : ℕ) (left next : List ℕ) → i < n → m ≡ min 32 (n - i) → left ≡ laid image (to + i) (pairs m rest) → next ≡ drop (m + m + 1) rest → ContentsInv n s image₀ left to next (i + m)
  contents-goes m left next h e f g =
      let some : 1 ≤ n - i = omega arith in
      let r : n - (i + m) ≡ n - i - 32 = omega arith in
      let j : to + (i + m) ≡ to + i + length (pairs m rest) = rw (pairs-length m rest) (omega arith) in
      let l : length next ≡ length rest - (m + m + 1) = ap length g ∙ length-drop (m + m + 1) rest in
      record {
        low = omega arith;
        inside = omega (arith, row_inside m h e);
        size = ap length f ∙ laid-length image (to + i) (pairs m rest) ∙ inv.size;
        bytes =
            rw (r, g, j, f)
            (laid-append image (pairs m rest) (contents_in (n - i - 32) (drop (m + m + 1) rest)) (to + i)
            ∙ ap (laid image (to + i)) (sym (contents-more (n - i) m rest some e)) ∙ inv.bytes);
        ends_so = rw (r, g) (sym (behind_more (n - i) m rest some e) ∙ inv.ends_so);
      }

  pub contents-rest : n ≤ i → rest ≡ behind (lines_for n) n s
  unfolding behind
  contents-rest h = let k : n - i ≡ 0 = omega arith in rw k at inv.ends_so

  pub contents-image : n ≤ i → image ≡ laid image₀ to (contents_in n s)
  unfolding rows_in laid
  contents-image h = let k : n - i ≡ 0 = omega arith in rw k at inv.bytes

-- a file's directory says nothing of its size
home-size : (n : ℕ) (f : File) → size (in_folder n f) ≡ size f
unfolding size count record_length
home-size n f = refl

-- directories
pub record FoldersInv (s : List ℕ) (most : ℕ) (d : Directory) (rest : List ℕ) (i : ℕ) : Type 0 where
  pub low : i ≤ most
  pub files : d.files ≡ replicate most_files blank_file
  pub count : d.count ≡ 0
  pub number : d.number ≡ i
  pub all : i + length (folders_in (most - i) rest) ≡ length (folders_in most s)
  pub folders : laid d.folders i (folders_in (most - i) rest) ≡ laid (replicate most_folders blank_folder) 0 (folders_in most s)

pub folders-begin : (s : List ℕ) (most : ℕ) (d : Directory) → d ≡ no_files → FoldersInv s most d s 0
folders-begin s most d e =
    let z : most - 0 ≡ most = omega arith in
    record { low = omega arith; files = rw e; count = rw e; number = rw e; all = rw z (omega arith); folders = rw (e, z) }

module _ (s : List ℕ) (most : ℕ) (d : Directory) (rest : List ℕ) (i : ℕ) (inv : FoldersInv s most d rest i) where
  folders-finished : folders_in (most - i) rest ≡ [] → d ≡ foldered (folders_in most s)
  unfolding laid foldered
  folders-finished h =
      let k : i + 0 ≡ length (folders_in most s) = rw h at inv.all in
      let m : d.number ≡ length (folders_in most s) = inv.number ∙ omega arith in
      let q : d.folders ≡ laid (replicate most_folders blank_folder) 0 (folders_in most s) = rw h at inv.folders in
      rw (← q, ← m, ← inv.files, ← inv.count)

  pub folders-full : most ≤ i → d ≡ foldered (folders_in most s)
  unfolding folders_in
  folders-full h = let k : most - i ≡ 0 = omega arith in folders-finished (rw k)

  module _ (t : Bool) (h : i < most) (w : t ≡ folder_next rest) where
    one_left : most - i ≡ suc (most - (i + 1))
    one_left = omega arith

    pub folders-over : t ≡ false → d ≡ foldered (folders_in most s)
    unfolding folders_in
    folders-over z = let q : folder_next rest ≡ false = sym w ∙ z in folders-finished (rw (one_left, q))

    pub folders-goes : (x : Folder) (d' : Directory) (next : List ℕ) → most ≤ 4 → t ≡ true → x ≡ folder_in rest → d' ≡ added_folder d x → next ≡ skips 2 rest → FoldersInv s most d' next (i + 1)
    unfolding laid folders_in
    folders-goes x d' next few z f g r =
        let m : d' ≡ one_more_folder d x = g ∙ rw (lt-ltb d.number 4 (omega (arith, inv.number))) in
        let q : folder_next rest ≡ true = sym w ∙ z in
        let n : i + suc (length (folders_in (most - (i + 1)) (skips 2 rest))) ≡ length (folders_in most s) = rw (one_left, q) at inv.all in
        let fs : laid (set d.folders i (folder_in rest)) (suc i) (folders_in (most - (i + 1)) (skips 2 rest)) ≡ laid (replicate most_folders blank_folder) 0 (folders_in most s) =
        rw (one_left, q) at inv.folders in
        record {
          low = omega arith;
          files = ap (λ (y : Directory). y.files) m ∙ inv.files;
          count = ap (λ (y : Directory). y.count) m ∙ inv.count;
          number = ap (λ (y : Directory). y.number) m ∙ ap (λ (y : ℕ). y + 1) inv.number;
          all = rw r (omega arith);
          folders =
              ap₂ (λ (l : List Folder) (j : ℕ). laid l j (folders_in (most - (i + 1)) next)) (ap (λ (y : Directory). y.folders) m ∙ ap₂ (set d.folders) inv.number f) (add-one i)
              ∙ ap (λ (l : List ℕ). laid (set d.folders i (folder_in rest)) (suc i) (folders_in (most - (i + 1)) l)) r
              ∙ fs;
        }

-- files
pub record FilesInv (form : Form) (e : Directory) (s image₀ image : List ℕ) (d : Directory) (rest : List ℕ) (to i : ℕ) : Type 0 where
  pub low : i ≤ 16
  pub room : to ≤ length image₀
  pub near : to ≤ i * 65535
  pub size : length image ≡ length image₀
  pub counted : d.count ≡ i
  pub folders : d.folders ≡ e.folders
  pub number : d.number ≡ e.number
  pub count : i + length (files_in form e (16 - i) (length image₀ - to) rest) ≡ length (files_in form e most_files (length image₀) s)
  pub files : laid d.files i (files_in form e (16 - i) (length image₀ - to) rest) ≡ laid (replicate most_files blank_file) 0 (files_in form e most_files (length image₀) s)
  pub bytes : laid image to (bytes_in form (16 - i) (length image₀ - to) rest) ≡ laid image₀ 0 (bytes_in form most_files (length image₀) s)

pub files-begin : (form : Form) (e : Directory) (s image : List ℕ) → e.files ≡ replicate 16 blank_file → e.count ≡ 0 → FilesInv form e s image image e s 0 0
files-begin form e s image b c =
    let z : length image - 0 ≡ length image = omega arith in
    record {
      low = omega arith;
      room = omega arith;
      near = omega arith;
      size = refl;
      counted = c;
      folders = refl;
      number = refl;
      count = rw z (omega arith);
      files = rw (b, z);
      bytes = rw z;
    }

module _ (form : Form) (e : Directory) (s image₀ image : List ℕ) (d : Directory) (rest : List ℕ) (to i : ℕ) (inv : FilesInv form e s image₀ image d rest to i) where
  abbrev left : ℕ
  left = length image₀ - to

  finished : files_in form e (16 - i) left rest ≡ [] → bytes_in form (16 - i) left rest ≡ [] → LoadsAll form e s image₀ d image
  unfolding laid with_files
  finished h f =
      let k : i + 0 ≡ length (files_in form e most_files (length image₀) s) = rw h at inv.count in
      let m : d.count ≡ length (files_in form e most_files (length image₀) s) = inv.counted ∙ omega arith in
      let q : d.files ≡ laid (replicate most_files blank_file) 0 (files_in form e most_files (length image₀) s) = rw h at inv.files in
      record { directory-is = rw (← q, ← m, ← inv.folders, ← inv.number); left_is = rw f at inv.bytes }

  pub files-full : 16 ≤ i → LoadsAll form e s image₀ d image
  unfolding files_in bytes_in
  files-full h = let k : 16 - i ≡ 0 = omega arith in finished (rw k) (rw k)

  -- the next file, as the code has read it
  module _ (f : File) (n : ℕ) (start : List ℕ) (h : i < 16) (g : f ≡ housed_in e rest) (b : Bounded 65535 (size f) n) (r : start ≡ contents_part form rest)
      (t : Bool) (w : t ≡ every (leb 1 (length rest) ∷ leb n (length image - to) ∷ leb (length_for n) (length start) ∷ [])) where
    size_is : n ≡ size (file_in rest)
    size_is = b.is ∙ ap size g ∙ home-size (home_in e (skips 4 rest)) (file_in rest)

    tested : t ≡ goes_on form left rest
    tested = w ∙ rw (inv.size, r, size_is)

    more : 16 - i ≡ suc (16 - (i + 1))
    more = omega arith

    pub files-over : t ≡ false → LoadsAll form e s image₀ d image
    unfolding files_in bytes_in
    files-over z =
        let q : goes_on form left rest ≡ false = sym tested ∙ z in
        finished (rw (more, q)) (rw (more, q))

    pub file-inside : t ≡ true → (length_for n ≤ length start) × (to + n ≤ length image)
    file-inside z =
        let q = each (leb 1 (length rest) ∷ leb n (length image - to) ∷ leb (length_for n) (length start) ∷ []) (sym w ∙ z) in
        (leb-true (length_for n) (length start) q.1.1, omega (arith, leb-true n (length image - to) q.1.0, inv.room, inv.size))

    pub files-goes : (next : List ℕ) (d' : Directory) (l : List ℕ) → t ≡ true → d' ≡ added d f → next ≡ behind (lines_for n) n start → l ≡ laid image to (contents_in n start) → FilesInv form e s image₀ l d' next (to + n) (i + 1)
    unfolding laid files_in bytes_in
    files-goes next d' l z m a₀ c =
        let q : goes_on form left rest ≡ true = sym tested ∙ z in
        let a : next ≡ after_file form rest = a₀ ∙ ap₂ (λ (x : ℕ) (y : List ℕ). behind (lines_for x) x y) size_is r in
        let p' : d' ≡ record { files = set d.files i f; count = i + 1; folders = d.folders; number = d.number } = m ∙ rw (inv.counted, lt-ltb i 16 h) in
        let ct : contents_in n start ≡ contents_of form rest = ap₂ contents_in size_is r in
        let room' : length image₀ - (to + n) ≡ left - size (file_in rest) = rw (← size_is) (omega arith) in
        let rest-files = files_in form e (16 - (i + 1)) (left - size (file_in rest)) (after_file form rest) in
        let cnt : i + suc (length (files_in form e (16 - (i + 1)) (left - size (file_in rest)) (after_file form rest))) ≡ length (files_in form e most_files (length image₀) s) = rw (more, q) at inv.count in
        let fs : laid (set d.files i (housed_in e rest)) (suc i) (files_in form e (16 - (i + 1)) (left - size (file_in rest)) (after_file form rest)) ≡ laid (replicate most_files blank_file) 0 (files_in form e most_files (length image₀) s) =
        rw (more, q) at inv.files in
        let bs : laid image to (contents_of form rest ++ bytes_in form (16 - (i + 1)) (left - size (file_in rest)) (after_file form rest)) ≡ laid image₀ 0 (bytes_in form most_files (length image₀) s) = rw (more, q) at inv.bytes in
        let len : to + n ≡ to + length (contents_of form rest) = ap (λ (x : ℕ). to + x) (size_is ∙ sym (contents-length (size (file_in rest)) (contents_part form rest))) in
        record {
          low = omega arith;
          room = omega (arith, (file-inside z).1, inv.size);
          near = omega (arith, inv.near, b.low);
          size = ap length c ∙ laid-length image to (contents_in n start) ∙ inv.size;
          counted = ap (λ (x : Directory). x.count) p';
          folders = ap (λ (x : Directory). x.folders) p' ∙ inv.folders;
          number = ap (λ (x : Directory). x.number) p' ∙ inv.number;
          count = rw (room', a) (omega arith);
          files =
              ap₂ (λ (x : List File) (j : ℕ). laid x j (files_in form e (16 - (i + 1)) (length image₀ - (to + n)) next)) (ap (λ (y : Directory). y.files) p' ∙ ap (set d.files i) g) (add-one i)
              ∙ ap₂ (λ (m : ℕ) (x : List ℕ). laid (set d.files i (housed_in e rest)) (suc i) (files_in form e (16 - (i + 1)) m x)) room' a
              ∙ fs;
          bytes =
              rw (room', c, ct, a, len)
              (laid-append image (contents_of form rest) (bytes_in form (16 - (i + 1)) (left - size (file_in rest)) (after_file form rest)) to ∙ bs);
        }
