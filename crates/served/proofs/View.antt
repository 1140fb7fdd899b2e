-- The statements' own view of files and of records is that of the files' layer.
use Prim.Native.Nat.{ℕ, zero, suc, ◌+◌, ◌-◌, ◌*◌, ◌%◌, ◌≤◌, ◌<◌}
use mathlib.Core.Bool.{Bool, true, false, cond, ◌||◌}
use mathlib.Core.List.{List, [], ◌∷◌}
use mathlib.Core.Logic.{by_cases}
use mathlib.Core.Path.{◌≡◌, refl, sym, ap, ◌∙◌}
use native.Mathlib.Decide.{dec_le}
use native.Mathlib.Nat.{mod-eq_of_lt, add-mod_right}
use native.Mathlib.Omega.{arith}
use lib.Dec.{eqb}
use lib.ListN.{length, take, drop, take-append-drop}
use lib.Seq.{drop-cons, drop-drop, drop-length, get_or-take, length-take-le}
use borrow.Author.Tests.{eqb-true}
use Rattle.files.specs.declared.File.{File}
use Rattle.files.specs.Part.{part}
use Rattle.files.specs.Types.{fixed, cyclic, is_variable, has_records, count, record_length, size}
use Rattle.files.specs.Directory.{start, extent, in_area}
use Rattle.files.specs.Walk.{length_at, walk, standing}
use Rattle.files.specs.Record.{bytes_used, back, sound_held, sound_used, parted_file, records_held, start_of, length_of}
use Rattle.files.specs.Listed.{tab, records_at, records}
use Rattle.files.proofs.Tab.{tab-ext}
use Rattle.files.proofs.Parts.{part-front, part_length}
use Rattle.files.proofs.Extents.{lies, length-records}
use Rattle.files.proofs.Cycle.{back-near, back-far}
use Rattle.files.proofs.Walks.{stood, walk_none, walk-on, Parts, parts}
use Rattle.files.proofs.Lists.{Knows, knows, count-cyclic, used-fits, parted-used, held-variable, start-variable, length-variable, records-fixed}
use Rattle.files.proofs.Appends.{records-cyclic}
use Rattle.files.proofs.Kept.{lies-in-area, place-parted}
use Rattle.rules.specs.declared.Card.{Card}
use Rattle.rules.specs.Sound.{sound}
use Rattle.rules.proofs.Good.{sound-good, sound-parted}
use Rattle.rules.proofs.Targets.{place-named, place-held, place-used}
use Rattle.demands.specs.Held.{file_no, IsFile, records_no, fixed_records, cyclic_records, notes, variable_records, records_of}
use Rattle.demands.proofs.View.{bytes-are}

-- ---- records in places
back_is : (count newest k : ℕ) → newest < count → k < count → (newest + count - k) % count ≡ back count newest k
back_is count newest k h l =
    by_cases (dec_le k newest)
    (λ a. let e : newest + count - k ≡ newest - k + count = omega arith in
    let m : newest - k < count = omega arith in
    rw (e, add-mod_right (newest - k) count, mod-eq_of_lt m) (sym (back-near count newest k a)))
    (λ a. let m : newest + count - k < count = omega arith in
    rw (mod-eq_of_lt m) (sym (back-far count newest k (omega arith))))

cyclic-is : (f : File) (x : List ℕ) → eqb f.kind cyclic ≡ true → Knows f → cyclic_records f x ≡ records f x
unfolding records_at part
cyclic-is f x k w =
    let e : f.kind ≡ cyclic = eqb-true _ _ k in
    let n : count f ≡ f.size1 = count-cyclic f k in
    let m : record_length f ≡ f.size2 = length-records f (rw e) in
    tab-ext f.held (λ i. take f.size2 (drop ((f.newest + f.size1 - i) % f.size1 * f.size2) x))
    (λ i. part (back (count f) f.newest i * record_length f) (record_length f) x)
    (λ i l. rw (n, m, back_is f.size1 f.newest i (omega (arith, w.newest, n)) (omega (arith, l, w.held, n))))
    ∙ sym (records-cyclic f x k)

fixed-is : (f : File) (x : List ℕ) → f.kind ≡ fixed → fixed_records f x ≡ records f x
unfolding records_at part count record_length
fixed-is f x e = sym (records-fixed f x e ∙ rw e)

-- ---- records behind their length bytes
module _ (used : ℕ) (x : List ℕ) (long : used ≤ length x) (m : ℕ) (w : Parts used x m) where
  -- the record that j others come before, in the used bytes
  noted : ℕ → List ℕ
  noted j = part (walk used x j + 1) (length_at x (walk used x j)) x

  -- there are no more records than used bytes
  grows : (j : ℕ) → j ≤ m → j ≤ walk used x j
  grows zero l = omega arith
  grows (suc j) l = let r = grows j (omega arith) in omega (arith, r, walk-on used x j (w.stand j (omega arith)))

  few : m ≤ used
  few = let r = grows m (omega arith) in omega (arith, r, w.ends)

  -- the used bytes from one length byte on
  cut : (j : ℕ) → j < m → drop (walk used x j) (take used x) ≡ length_at x (walk used x j) ∷ drop (walk used x j + 1) (take used x)
  cut j l =
      let s = stood used x (walk used x j) (w.stand j l) in
      let e : walk used x j + 1 ≡ suc (walk used x j) = omega arith in
      rw e
      (drop-cons (take used x) (walk used x j) 0 (rw (length-take-le used x long) (omega (arith, s.ends)))
      ∙ ap (λ b. b ∷ drop (suc (walk used x j)) (take used x)) (get_or-take used x (walk used x j) 0 (omega (arith, s.ends))))

  notes-from : (r j n : ℕ) → r + j ≡ m → r ≤ n → notes n (drop (walk used x j) (take used x)) ≡ tab r (λ i. noted (i + j))
  unfolding notes noted part
  notes-from zero j n e l =
      let q : j ≡ m = omega arith in
      let d : drop (walk used x j) (take used x) ≡ [] = rw (q, w.ends) (ap (λ i. drop i (take used x)) (sym (length-take-le used x long)) ∙ drop-length (take used x)) in
      rw d (none n)
    where
      none : (n : ℕ) → notes n [] ≡ []
      none zero = refl
      none (suc n) = refl
  notes-from (suc r) j zero e l = absurd (omega arith)
  notes-from (suc r) j (suc n) e l =
      let i : j < m = omega arith in
      let s = stood used x (walk used x j) (w.stand j i) in
      let b : ℕ = length_at x (walk used x j) in
      let zero-on : 0 + j ≡ j = omega arith in
      let head : take (length_at x (walk used x j)) (drop (walk used x j + 1) (take used x)) ≡ noted (0 + j) =
      rw zero-on
      (sym (part-front (walk used x j + 1) (length_at x (walk used x j)) (take used x) (drop used x) (rw (length-take-le used x long) (omega (arith, s.ends))))
      ∙ ap (part (walk used x j + 1) (length_at x (walk used x j))) (take-append-drop used x)) in
      let rest : drop (length_at x (walk used x j)) (drop (walk used x j + 1) (take used x)) ≡ drop (walk used x (suc j)) (take used x) =
      drop-drop (length_at x (walk used x j)) (walk used x j + 1) (take used x) ∙ ap (λ i. drop i (take used x)) (sym (walk-on used x j (w.stand j i))) in
      let tail : notes n (drop (length_at x (walk used x j)) (drop (walk used x j + 1) (take used x))) ≡ tab r (λ i. noted (suc i + j)) =
      ap (notes n) rest ∙ notes-from r (suc j) n (omega (arith, e)) (omega (arith, l))
      ∙ tab-ext r (λ i. noted (i + suc j)) (λ i. noted (suc i + j)) (λ i z. let q : i + suc j ≡ suc i + j = omega arith in rw q) in
      ap (notes (suc n)) (cut j i)
      ∙ ap (λ (h : List ℕ). h ∷ notes n (drop (length_at x (walk used x j)) (drop (walk used x j + 1) (take used x)))) head
      ∙ ap (λ (t : List (List ℕ)). noted (0 + j) ∷ t) tail

variable-is : (f : File) (x : List ℕ) → is_variable f ≡ true → sound_used f ≡ true → parted_file f x ≡ true → size f ≤ length x → variable_records f x ≡ records f x
unfolding records records_at noted bytes_used
variable-is f x v u p l =
    let n : ℕ = bytes_used f in
    let fits = used-fits f v u in
    let long : bytes_used f ≤ length x = omega (arith, fits, l) in
    let m : ℕ = standing (bytes_used f) x (bytes_used f) in
    let w = parts (bytes_used f) x (parted-used f x v p) in
    let from_first : drop (walk (bytes_used f) x 0) (take (bytes_used f) x) ≡ take (bytes_used f) x = ap (λ i. drop i (take (bytes_used f) x)) (walk_none (bytes_used f) x) in
    let same : tab (standing (bytes_used f) x (bytes_used f)) (λ i. noted (bytes_used f) x long m w (i + 0)) ≡ tab (records_held f x) (λ i. part (start_of f x i) (length_of f x i) x) =
    rw (held-variable f x v)
    (tab-ext m (λ i. noted (bytes_used f) x long m w (i + 0)) (λ i. part (start_of f x i) (length_of f x i) x)
    (λ i z. let q : i + 0 ≡ i = omega arith in rw (q, start-variable f x v i, length-variable f x v i))) in
    ap (notes (bytes_used f)) (sym from_first) ∙ notes-from (bytes_used f) x long m w m 0 (bytes_used f) (omega arith) (few (bytes_used f) x long m w) ∙ same

-- ---- records of a sound file
pub records-are : (f : File) (x : List ℕ) → sound_held f ≡ true → sound_used f ≡ true → parted_file f x ≡ true → size f ≤ length x → has_records f ≡ true
    → records_of f x ≡ records f x
unfolding records_of
records-are f x s u p l h = go (is_variable f) (eqb f.kind cyclic) refl refl
  where
    go : (a b : Bool) → is_variable f ≡ a → eqb f.kind cyclic ≡ b → cond a (variable_records f x) (cond b (cyclic_records f x) (fixed_records f x)) ≡ records f x
    go true b v k = variable-is f x v u p l
    go false true v k = cyclic-is f x k (knows f k s)
    go false false v k = fixed-is f x (eqb-true f.kind fixed (only (eqb f.kind fixed) (rw (k, v) at h)))
      where
        only : (t : Bool) → (t || (false || false)) ≡ true → t ≡ true
        only true z = refl
        only false z = z

-- ---- a file of a sound card
module _ (c : Card) (area : List ℕ) (h : sound c area ≡ true) (n : ℕ) (t : IsFile c n) where
  pub in-area : in_area c.directory n (length area) ≡ true
  in-area = lies-in-area c.directory area (sound-parted c area h) n (place-named c.directory (sound-good c area h).directory n t.first t.last)

  pub extent-length : length (extent c.directory n area) ≡ size (file_no c n)
  unfolding extent
  extent-length = part_length (start c.directory n) (size (file_no c n)) area (lies c.directory n (length area) in-area).fits

  pub held-sound : sound_held (file_no c n) ≡ true
  held-sound = place-held c.directory (sound-good c area h).directory n t.first t.last

  pub used_sound : sound_used (file_no c n) ≡ true
  used_sound = place-used c.directory (sound-good c area h).directory n t.first t.last

  pub parted-sound : parted_file (file_no c n) (extent c.directory n area) ≡ true
  parted-sound = place-parted c.directory area (sound-parted c area h) n (place-named c.directory (sound-good c area h).directory n t.first t.last)

  pub listed-are : has_records (file_no c n) ≡ true → records_no c area n ≡ records (file_no c n) (extent c.directory n area)
  listed-are r =
      rw (bytes-are c area n)
      (records-are (file_no c n) (extent c.directory n area) held-sound used_sound parted-sound (omega (arith, extent-length)) r)
