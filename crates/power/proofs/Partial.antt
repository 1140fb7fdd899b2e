-- Bytes of which only the first are stored: an update, and an append before the file knows of it.
use Prim.Native.Nat.{ℕ, ◌+◌, ◌-◌, ◌*◌, ◌≤◌, ◌<◌}
use mathlib.Core.Bool.{Bool, true, false}
use mathlib.Core.List.{List, [], ◌∷◌, ◌++◌, append_assoc}
use mathlib.Core.Logic.{inl, inr, ⊎_elim}
use mathlib.Core.Path.{◌≡◌, refl, sym, ap, ◌∙◌}
use native.Mathlib.Omega.{arith}
use lib.Dec.{eqb, leb}
use lib.ListN.{length, take, drop, length-append, length-take, length-drop, take-append-drop}
use lib.Seq.{length-take-le, drop-append-le, drop-drop, take_all}
use borrow.Author.Tests.{eqb-true, leb-true, le-leb, lt-ltb, ne_eqb}
use Rattle.files.specs.declared.File.{File}
use Rattle.files.specs.Part.{part, splice}
use Rattle.files.specs.State.{with_newest}
use Rattle.files.specs.Types.{cyclic, is_variable, sized_in_bytes, has_records, good_length, count, record_length, size, good_shape}
use Rattle.files.specs.Directory.{sfi, good_sfi}
use Rattle.files.specs.Walk.{walk}
use Rattle.files.specs.Record.{back, next, bytes_used, records_held, start_of, length_of, next_place, next_start, entry, sound_held, sound_used, parted_file, appends_record, is_record}
use Rattle.files.specs.Listed.{records_at, records, SameLengths}
use Rattle.files.specs.Create.{good_contents}
use Rattle.files.specs.Sound.{sound_file}
use Rattle.files.proofs.Checks.{each, all}
use Rattle.files.proofs.Parts.{Apart, part_apart, part-splice-before, byte-apart}
use Rattle.files.proofs.Parting.{plain-parted}
use Rattle.files.proofs.Tab.{tab-ext, tab-take}
use Rattle.files.proofs.Cycle.{place_end, places-apart, back-other, next-below}
use Rattle.files.proofs.Walks.{stood, parts}
use Rattle.files.proofs.Lists.{Knows, knows, parted-used, held-variable, start-variable, length-variable, steady, records-steady, still-parted, records-length, held-places, held-cyclic}
use Rattle.files.proofs.Appends.{cycle, records-cyclic, takes, grows-cyclic, next-places, entry-places, next_fits, next-variable}
use Rattle.rules.proofs.Targets.{file-shape}

-- n of the bytes stored are all of them, the others as they were
pub splice-mixed : (xs : List ℕ) (a : ℕ) (ys : List ℕ) (n : ℕ) → n ≤ length ys → a + length ys ≤ length xs
    → splice xs a (take n ys) ≡ splice xs a (take n ys ++ drop n (part a (length ys) xs))
unfolding splice part
splice-mixed xs a ys n l h =
    ap (λ (r : List ℕ). take a xs ++ r)
    (ap (λ k. take n ys ++ drop (a + k) xs) (length-take-le n ys l)
    ∙ ap (λ (r : List ℕ). take n ys ++ r) (sym (drop-drop n a xs) ∙ sym rest)
    ∙ sym (append_assoc (take n ys) (drop n (take m d)) (drop m d))
    ∙ ap (λ (r : List ℕ). (take n ys ++ drop n (take m d)) ++ r) (drop-drop m a xs)
    ∙ ap (λ k. (take n ys ++ drop n (take m d)) ++ drop (a + k) xs) (sym long))
  where
    m : ℕ
    m = length ys

    d : List ℕ
    d = drop a xs

    rest : drop n (take m d) ++ drop m d ≡ drop n d
    rest =
        let q : n ≤ length (take (length ys) (drop a xs)) = simp (length-take, length-drop) (omega arith) in
        sym (drop-append-le n (take m d) (drop m d) q) ∙ ap (drop n) (take-append-drop m d)

    long : length (take n ys ++ drop n (take m d)) ≡ m
    long = simp (length-append, length-take, length-drop) (omega arith)

pub mixed-length : (xs : List ℕ) (a : ℕ) (ys : List ℕ) (n : ℕ) → n ≤ length ys → a + length ys ≤ length xs
    → length (take n ys ++ drop n (part a (length ys) xs)) ≡ length ys
unfolding part
mixed-length xs a ys n l h = simp (length-append, length-take, length-drop) (omega arith)

narrower : (a m b n k : ℕ) → k ≤ n → Apart a m b n → Apart a m b k
narrower a m b n k l d = ⊎_elim (λ h. inl h) (λ h. inr (omega arith)) d

-- a cyclic file of which m records are told, while bytes are stored in the place after the newest
pub cycle-kept : (count len held newest m : ℕ) (bytes ys : List ℕ) → newest < count → m ≤ held → m < count → count * len ≤ length bytes → length ys ≤ len
    → cycle count len m newest (splice bytes (next count held newest * len) ys) ≡ take m (cycle count len held newest bytes)
unfolding records_at
cycle-kept count len held newest m bytes ys hn hm hc hl hy =
    let p : ℕ = next count held newest in
    let fits : next count held newest * len + length ys ≤ length bytes = omega (arith, place_end len (next-below count held newest (omega arith))) in
    tab-ext m (λ k. part (back count newest k * len) len (splice bytes (next count held newest * len) ys)) (λ k. part (back count newest k * len) len bytes)
    (λ k l. part_apart bytes (next count held newest * len) ys (back count newest k * len) len fits
    (narrower (back count newest k * len) len (next count held newest * len) len (length ys) hy
    (places-apart len (back count newest k) (next count held newest) (back-other count held newest k hn (omega arith) (omega arith)))))
    ∙ sym (tab-take m held (λ k. part (back count newest k * len) len bytes) hm)

-- of a file
module _ (f : File) (x r : List ℕ) (h : appends_record f (length r) ≡ true) (l : size f ≤ length x) where
  module _ (v : is_variable f ≡ false) where
    kind : eqb f.kind cyclic ≡ true
    kind = grows-cyclic f (takes f (length r) h).kind v

    abbrev known : Knows f
    known = knows f kind (takes f (length r) h).sound

    short : (n : ℕ) → length (take n (entry f r)) ≤ record_length f
    unfolding is_record
    short n =
        let e : length r ≡ record_length f = eqb-true _ _ (rw v at (takes f (length r) h).given) in
        rw (entry-places f v r) (omega (arith, length-take n r, e))

    -- as many records as m are told, of those that there were
    told : (n m : ℕ) → m ≤ f.held → m < count f
        → cycle (count f) (record_length f) m f.newest (splice x (next_start f) (take n (entry f r))) ≡ take m (records f x)
    unfolding next_place size
    told n m a b =
        rw (next-places f v, records-cyclic f x kind)
        (cycle-kept (count f) (record_length f) f.held f.newest m x (take n (entry f r)) known.newest a b l (short n))

    pub cyclic-kept : (n : ℕ) → f.held < count f → records f (splice x (next_start f) (take n (entry f r))) ≡ records f x
    cyclic-kept n b =
        records-cyclic f (splice x (next_start f) (take n (entry f r))) kind ∙ told n f.held (omega arith) b
        ∙ take_all f.held (records f x) (omega (arith, records-length f x, held-places f x v, held-cyclic f kind))

    newest-count : (k : ℕ) → count (with_newest f k f.newest) ≡ count f
    unfolding count
    newest-count k = refl

    newest-length : (k : ℕ) → record_length (with_newest f k f.newest) ≡ record_length f
    unfolding record_length
    newest-length k = refl

    -- one less, in a full file: all but the oldest
    pub oldest-gone : (n : ℕ) → f.held ≡ count f
        → records (with_newest f (f.held - 1) f.newest) (splice x (next_start f) (take n (entry f r))) ≡ take (f.held - 1) (records f x)
    oldest-gone n e =
        records-cyclic (with_newest f (f.held - 1) f.newest) (splice x (next_start f) (take n (entry f r))) kind
        ∙ rw (newest-count (f.held - 1), newest-length (f.held - 1)) (told n (f.held - 1) (omega arith) (omega (arith, known.newest, e)))

  module _ (v : is_variable f ≡ true) (p : parted_file f x ≡ true) where
    fits : (n : ℕ) → next_start f + length (take n (entry f r)) ≤ length x
    fits n = omega (arith, next_fits f r h, length-take n (entry f r))

    used-fit : (n : ℕ) → bytes_used f + length (take n (entry f r)) ≤ length x
    used-fit n = rw (next-variable f v) at (fits n)

    inside : (k : ℕ) → k < records_held f x → start_of f x k + length_of f x k ≤ bytes_used f
    inside k z =
        let s = stood (bytes_used f) x (walk (bytes_used f) x k) ((parts (bytes_used f) x (parted-used f x v p)).stand k (rw (held-variable f x v) at z)) in
        rw (start-variable f x v k, length-variable f x v k) (omega (arith, s.ends))

    pub variable-lengths : (n : ℕ) → SameLengths f x (splice x (next_start f) (take n (entry f r)))
    variable-lengths n w k z =
        let s = stood (bytes_used f) x (walk (bytes_used f) x k) ((parts (bytes_used f) x (parted-used f x v p)).stand k (rw (held-variable f x v) at z)) in
        rw (next-variable f v) (byte-apart x (bytes_used f) (take n (entry f r)) (walk (bytes_used f) x k) (used-fit n) (inl (omega (arith, s.ends))))

    pub variable-kept : (n : ℕ) → records f (splice x (next_start f) (take n (entry f r))) ≡ records f x
    unfolding records records_at
    variable-kept n =
        records-steady f x (splice x (next_start f) (take n (entry f r))) (steady f x (splice x (next_start f) (take n (entry f r))) p (variable-lengths n))
        ∙ tab-ext (records_held f x) (λ k. part (start_of f x k) (length_of f x k) (splice x (next_start f) (take n (entry f r))))
        (λ k. part (start_of f x k) (length_of f x k) x)
        (λ k z. part-splice-before x (next_start f) (take n (entry f r)) (fits n) (start_of f x k) (length_of f x k) (rw (next-variable f v) (inside k z)))

  -- and it is parted as before
  pub append-still-parted : (n : ℕ) → parted_file f x ≡ true → parted_file f (splice x (next_start f) (take n (entry f r))) ≡ true
  append-still-parted n p = go (is_variable f) refl
    where
      go : (b : Bool) → is_variable f ≡ b → parted_file f (splice x (next_start f) (take n (entry f r))) ≡ true
      go true v = still-parted f x (splice x (next_start f) (take n (entry f r))) p (variable-lengths v p n)
      go false v = plain-parted f (splice x (next_start f) (take n (entry f r))) v

-- a full file without its oldest record is sound: it has at least one more
shape_two : (f : File) → eqb f.kind cyclic ≡ true → good_shape f ≡ true → 2 ≤ count f
unfolding good_shape
shape_two f k h =
    let e : f.kind ≡ cyclic = eqb-true _ _ k in
    let z : sized_in_bytes f ≡ false = rw e in
    leb-true 2 (count f) (each (has_records f ∷ leb 2 (count f) ∷ leb (count f) 254 ∷ good_length (record_length f) ∷ []) (rw z at h)).1.0

pub one_less : (f : File) → eqb f.kind cyclic ≡ true → sound_file f ≡ true → f.held ≡ count f → sound_file (with_newest f (f.held - 1) f.newest) ≡ true
unfolding sound_file good_contents good_shape count record_length size sound_held sound_used bytes_used
one_less f k h full =
    let e = each (good_sfi (sfi f) ∷ good_contents f ∷ sound_held f ∷ sound_used f ∷ []) h in
    let w : Knows f = knows f k e.1.1.0 in
    let two : 2 ≤ count f = shape_two f k (file-shape f h) in
    let p : f.held - 1 ≤ count f = omega (arith, full) in
    let z : f.held - 1 ≡ 0 → ⊥ = λ q. omega (arith, full, two) in
    let g = with_newest f (f.held - 1) f.newest in
    all (good_sfi (sfi f) ∷ good_contents f ∷ sound_held g ∷ sound_used f ∷ [])
    (e.0, (e.1.0, (rw (k, le-leb _ _ p, lt-ltb _ _ w.newest, ne_eqb _ _ z), e.1.1.1)))
