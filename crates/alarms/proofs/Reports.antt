-- What the code tells of a text is the report on it.
-- Assumes nothing.
use Prim.Native.Nat.{ℕ, suc, ◌+◌, ◌-◌, ◌≤◌, ◌<◌, min}
use mathlib.Core.Bool.{Bool, true, false, cond, ◌&&◌}
use mathlib.Core.List.{List, [], ◌∷◌, ◌++◌, append_assoc, append-nil}
use mathlib.Core.Path.{◌≡◌, refl, sym, ap, ap₂, ◌∙◌, subst}
use mathlib.Core.Logic.{by_cases}
use native.Mathlib.Decide.{dec_lt}
use native.Mathlib.Omega.{arith}
use lib.Dec.{eqb, leb}
use lib.ListN.{length, set, replicate, length-append, get_or-append}
use lib.Seq.{set_at, get_or_at}
use borrow.Author.Tests.{lt-ltb, le-ltb, eq-eqb, ne_eqb, leb-true}
use Rattle.files.specs.Words.{every}
use Rattle.digits.specs.Digits.{newline, value}
use Rattle.sums.specs.declared.Alarm.{Alarm}
use Rattle.sums.specs.declared.Totals.{Totals}
use Rattle.alarms.specs.declared.Scan.{Scan}
use Rattle.alarms.specs.declared.Feed.{Feed}
use Rattle.sums.specs.Alarm.{good, alarm_of}
use Rattle.sums.specs.Totals.{Cell}
use Rattle.sums.specs.Kept.{sum_of, no_totals, no_alarm, no_batch}
use Rattle.sums.specs.Says.{TwoBytes}
use Rattle.alarms.specs.Line.{name_of, digits_of, all_hex, hex_from, alarm_in, good_line, on_first, lines_of}
use Rattle.alarms.specs.Report.{header, table, refused, told, report}
use Rattle.alarms.specs.Feed.{table_of, begun, place_after, word_after, refusal_of, done_or_bad, scanned, feed_of, put, fed_one, fed_all, start, is_open, closed, last_of, told_of}
use Rattle.sums.proofs.Adding.{summed-onto}
use Rattle.sums.proofs.Cells.{no_overflow, sum-unused}
use Rattle.alarms.specs.Says.{fed_in, joined, ReportTold}
use Rattle.alarms.proofs.Rows.{rows_same}
use Rattle.alarms.proofs.Scanned.{end_at, end_word, end_at-more, end_word-more, end-some, after-some, begun-same, begun-zero, begun-done, by-eq, line-out}

-- the alarms held, and the totals of those before them, are these alarms
record Keeps (held : ℕ) (batch : List Alarm) (totals : Totals) (xs : List Alarm) : Type 0 where
  before : List Alarm
  ys : List Alarm
  all_are : xs ≡ before ++ ys
  totals-are : totals ≡ sum_of no_totals before
  batch-is : batch ≡ ys ++ replicate (1000 - held) no_alarm
  held-is : length ys ≡ held
  room : held ≤ 1000
  small : TwoBytes xs

keeps-none : Keeps 0 no_batch no_totals []
unfolding sum_of
keeps-none = record { before = []; ys = []; all_are = refl; totals-are = refl; batch-is = refl; held-is = refl; room = omega arith; small = λ j l. absurd (omega arith) }

-- all that is kept, summed
module _ (h : ℕ) (batch : List Alarm) (t : Totals) (xs : List Alarm) (k : Keeps h batch t xs) where
  keeps-sum : sum_of t batch ≡ sum_of no_totals xs
  keeps-sum =
      ap₂ sum_of k.totals-are k.batch-is
      ∙ sym (summed-onto (sum_of no_totals k.before) k.ys (replicate (1000 - h) no_alarm))
      ∙ sum-unused (sum_of (sum_of no_totals k.before) k.ys) (1000 - h)
      ∙ summed-onto no_totals k.before k.ys
      ∙ sym (ap (sum_of no_totals) k.all_are)

  keeps-table : length xs ≤ 65535 → table_of (sum_of t batch) ≡ table xs
  unfolding table_of table
  keeps-table l = rw keeps-sum (ap (λ (r : List ℕ). header ++ r) (rows_same _ _ _ _ 192 (λ i h. let e = no_overflow xs l k.small i h in (ap (λ (c : Cell). c.count) e, ap (λ (c : Cell). c.minutes) e))))

  small-more : (a : Alarm) → a.minutes ≤ 65535 → TwoBytes (xs ++ (a ∷ []))
  small-more a m j l =
      by_cases (dec_lt j (length xs))
      (λ h. subst (λ (z : Alarm). z.minutes ≤ 65535) (sym (get_or-append xs (a ∷ []) no_alarm j h)) (k.small j h))
      (λ h. let e : length xs ≡ j = omega (arith, length-append xs (a ∷ [])) in
      subst (λ (z : Alarm). z.minutes ≤ 65535) (sym (get_or_at xs a [] no_alarm j e)) m)

  -- one alarm more, where there is room and where there is none
  keeps-room : (a : Alarm) → a.minutes ≤ 65535 → h < 1000 → Keeps (h + 1) (set batch h a) t (xs ++ (a ∷ []))
  keeps-room a m l =
      let n : 1000 - h ≡ suc (1000 - (h + 1)) = omega arith in
      let e : batch ≡ k.ys ++ (no_alarm ∷ replicate (1000 - (h + 1)) no_alarm) = k.batch-is ∙ ap (λ (j : ℕ). k.ys ++ replicate j no_alarm) n in
      record {
        before = k.before;
        ys = k.ys ++ (a ∷ []);
        all_are = ap (λ (l : List Alarm). l ++ (a ∷ [])) k.all_are ∙ append_assoc k.before k.ys (a ∷ []);
        totals-are = k.totals-are;
        batch-is =
            ap (λ (l : List Alarm). set l h a) e
            ∙ set_at k.ys no_alarm (replicate (1000 - (h + 1)) no_alarm) a h k.held-is
            ∙ sym (append_assoc k.ys (a ∷ []) (replicate (1000 - (h + 1)) no_alarm));
        held-is = omega (arith, length-append k.ys (a ∷ []), k.held-is);
        room = omega arith;
        small = small-more a m;
      }

  keeps-full : (a : Alarm) → a.minutes ≤ 65535 → Keeps 1 (set no_batch 0 a) (sum_of t batch) (xs ++ (a ∷ []))
  keeps-full a m =
      record { before = xs; ys = a ∷ []; all_are = refl; totals-are = keeps-sum; batch-is = refl; held-is = refl; room = omega arith; small = small-more a m }

-- a feed that stands so, with these alarms kept
record Stands (s : Scan) (f : Feed) (xs : List Alarm) : Type 0 where
  held : ℕ
  batch : List Alarm
  totals : Totals
  is : f ≡ feed_of s held batch totals
  keeps : Keeps held batch totals xs

minutes-fit : (w : ℕ) → (alarm_of w).minutes ≤ 65535
unfolding alarm_of
minutes-fit w = omega arith

stands-put : (r s : Scan) (h : ℕ) (batch : List Alarm) (t : Totals) (xs : List Alarm) → Keeps h batch t xs → s.at ≡ 51 → Stands s (fed_one (feed_of r h batch t) s) (xs ++ (alarm_of s.word ∷ []))
unfolding fed_one put
stands-put r s h batch t xs k e =
    by_cases (dec_lt h 1000)
    (λ l. record { held = h + 1; batch = set batch h (alarm_of s.word); totals = t; is = rw (eq-eqb s.at 51 e, lt-ltb h 1000 l); keeps = keeps-room h batch t xs k (alarm_of s.word) (minutes-fit s.word) l })
    (λ l. let l' : 1000 ≤ h = omega arith in
    record { held = 1; batch = set no_batch 0 (alarm_of s.word); totals = sum_of t batch; is = rw (eq-eqb s.at 51 e, le-ltb h 1000 l'); keeps = keeps-full h batch t xs k (alarm_of s.word) (minutes-fit s.word) })

-- behind a refusal nothing is read
abbrev refused_at : ℕ → ℕ → ℕ → Scan
refused_at w n r = record { at = 50; word = w; lines = n; refusal = r }

module _ (w n r h : ℕ) (batch : List Alarm) (t : Totals) (k : r ≡ 0 → ⊥) where
  refused-stays : (bs : List ℕ) → fed_all (feed_of (refused_at w n r) h batch t) bs ≡ feed_of (refused_at w n r) h batch t
  unfolding fed_all fed_one scanned
  refused-stays [] = refl
  refused-stays (b ∷ bs) = rw (ne_eqb r 0 k) (refused-stays bs)

  refused-closed : closed (feed_of (refused_at w n r) h batch t) ≡ feed_of (refused_at w n r) h batch t
  unfolding closed is_open begun
  refused-closed = refused-stays (newline ∷ [])

  refused-told : (bs : List ℕ) → told_of (fed_all (feed_of (refused_at w n r) h batch t) bs) ≡ refused r n
  unfolding told_of last_of
  refused-told bs = rw (refused-stays bs, refused-closed, ne_eqb r 0 k)

-- tests joined
last_apart : {A : Type 0} (a b c d e : Bool) (y x : A) → cond (a && (b && (c && d))) (cond e y x) x ≡ cond (a && (b && (c && (d && e)))) y x
last_apart false b c d e y x = refl
last_apart true false c d e y x = refl
last_apart true true false d e y x = refl
last_apart true true true false e y x = refl
last_apart true true true true e y x = refl

-- a line ends
abbrev line_at : ℕ → ℕ → ℕ → Scan
line_at at w n = record { at = at; word = w; lines = n; refusal = 0 }

module _ (xs : List Alarm) (n : ℕ) (lines : List (List ℕ)) where
  abbrev bad14 : List ℕ
  bad14 = refused 14 (suc n)

  -- what is told where the line's form is good
  abbrev form_told : Alarm → List ℕ
  form_told a = cond (good a) (cond (leb (suc n) 65535) (told (suc (suc n)) (xs ++ (a ∷ [])) lines) (refused 15 (suc n))) bad14

  told_line : (l : List ℕ) → cond (every (leb 1 (0 + length (name_of l)) ∷ leb (0 + length (name_of l)) 32 ∷ eqb (length (digits_of l)) 16 ∷ all_hex (digits_of l) ∷ [])) (form_told (alarm_of (hex_from 0 (digits_of l)))) bad14 ≡ told (suc n) xs (l ∷ lines)
  unfolding told good_line alarm_in
  told_line l =
      let z : 0 + length (name_of l) ≡ length (name_of l) = omega arith in
      rw z (last_apart (leb 1 (length (name_of l))) (leb (length (name_of l)) 32) (eqb (length (digits_of l)) 16) (all_hex (digits_of l)) (good (alarm_of (hex_from 0 (digits_of l)))) _ _)

module _ (bs : List ℕ) (n : ℕ) (few : n ≤ 65535) (more : (w h : ℕ) (batch : List Alarm) (t : Totals) (xs : List Alarm) → Keeps h batch t xs → length xs ≡ suc n → suc n ≤ 65535 → told_of (fed_all (feed_of (line_at 51 w (suc n)) h batch t) bs) ≡ told (suc (suc n)) xs (lines_of bs)) where
  module _ (at w h : ℕ) (batch : List Alarm) (t : Totals) (xs : List Alarm) (k : Keeps h batch t xs) (l : length xs ≡ n) where
    abbrev Judged : Type 0
    Judged = told_of (fed_all (fed_one (feed_of (line_at at w n) h batch t) (scanned (line_at at w n) newline)) bs) ≡ cond (eqb at 49) (form_told xs n (lines_of bs) (alarm_of w)) (bad14 xs n (lines_of bs))

    next-is : min (n + 1) 65536 ≡ suc n
    next-is = omega arith

    judged-bad : eqb at 49 ≡ false → Judged
    unfolding scanned refusal_of done_or_bad fed_one
    judged-bad e = rw (e, next-is) (refused-told w (suc n) 14 h batch t (λ z. omega arith) bs)

    judged-none : eqb at 49 ≡ true → good (alarm_of w) ≡ false → Judged
    unfolding scanned refusal_of done_or_bad fed_one
    judged-none e g = rw (e, g, next-is) (refused-told w (suc n) 14 h batch t (λ z. omega arith) bs)

    judged-many : eqb at 49 ≡ true → good (alarm_of w) ≡ true → leb (suc n) 65535 ≡ false → Judged
    unfolding scanned refusal_of done_or_bad fed_one
    judged-many e g m = rw (e, g, next-is, m) (refused-told w (suc n) 15 h batch t (λ z. omega arith) bs)

    judged-good : eqb at 49 ≡ true → good (alarm_of w) ≡ true → leb (suc n) 65535 ≡ true → Judged
    unfolding scanned refusal_of done_or_bad
    judged-good e g m =
        let st = stands-put (line_at at w n) (line_at 51 w (suc n)) h batch t xs k refl in
        let o : length (xs ++ (alarm_of w ∷ [])) ≡ suc n = omega (arith, length-append xs (alarm_of w ∷ [])) in
        rw (e, g, next-is, m, st.is) (more w st.held st.batch st.totals (xs ++ (alarm_of w ∷ [])) st.keeps o (leb-true (suc n) 65535 m))

    judged : (a g m : Bool) → eqb at 49 ≡ a → good (alarm_of w) ≡ g → leb (suc n) 65535 ≡ m → Judged
    judged false g m e f d = judged-bad e
    judged true false m e f d = judged-none e f
    judged true true false e f d = judged-many e f d
    judged true true true e f d = judged-good e f d

  -- a line that is read from its beginning
  line-told : (a w : ℕ) (p : List ℕ) (h : ℕ) (batch : List Alarm) (t : Totals) (xs : List Alarm) → begun a ≡ 0 → Keeps h batch t xs → length xs ≡ n
      → told_of (fed_all (fed_one (feed_of (line_at (end_at a p) (end_word a w p) n) h batch t) (scanned (line_at (end_at a p) (end_word a w p) n) newline)) bs) ≡ told (suc n) xs (p ∷ lines_of bs)
  line-told a w p h batch t xs e k l =
      judged (end_at a p) (end_word a w p) h batch t xs k l _ _ _ refl refl refl ∙ line-out (form_told xs n (lines_of bs)) (bad14 xs n (lines_of bs)) a w p e ∙ told_line xs n (lines_of bs) p

-- the rest of a line in front of the lines behind it
abbrev behind : List ℕ → List (List ℕ) → List (List ℕ)
behind [] lines = lines
behind (b ∷ p) [] = (b ∷ p) ∷ []
behind (b ∷ p) (line ∷ lines) = ((b ∷ p) ++ line) ∷ lines

behind_more : (p : List ℕ) (b : ℕ) (lines : List (List ℕ)) → behind (p ++ (b ∷ [])) lines ≡ behind p (on_first b lines)
unfolding on_first
behind_more [] b [] = refl
behind_more [] b (line ∷ lines) = refl
behind_more (x ∷ p) b [] = refl
behind_more (x ∷ p) b (line ∷ lines) = ap (λ (l : List ℕ). (x ∷ l) ∷ lines) (append_assoc p (b ∷ []) line)

behind-end : (p : List ℕ) (lines : List (List ℕ)) → behind p ([] ∷ lines) ≡ p ∷ lines
behind-end [] lines = refl
behind-end (x ∷ p) lines = ap (λ (l : List ℕ). (x ∷ l) ∷ lines) (append-nil p)

-- a line that is not begun is none
open_none : (a w n h : ℕ) (batch : List Alarm) (t : Totals) → begun a ≡ 0 → closed (feed_of (line_at a w n) h batch t) ≡ feed_of (line_at a w n) h batch t
unfolding closed is_open
open_none a w n h batch t e = rw e

-- one that is begun is closed by a newline
open-some : (a w n h : ℕ) (batch : List Alarm) (t : Totals) → (1 ≤ a) × (a ≤ 50) → closed (feed_of (line_at a w n) h batch t) ≡ fed_one (feed_of (line_at a w n) h batch t) (scanned (line_at a w n) newline)
unfolding closed is_open fed_all
open-some a w n h batch t b = let z : a ≡ 0 → ⊥ = λ z. omega arith in rw (begun-same a b.1, ne_eqb a 0 z)

-- behind a line's end nothing is open
module _ (at w n h : ℕ) (batch : List Alarm) (t : Totals) (xs : List Alarm) (k : Keeps h batch t xs) where
  abbrev Shut : Type 0
  Shut = closed (fed_one (feed_of (line_at at w n) h batch t) (scanned (line_at at w n) newline)) ≡ fed_one (feed_of (line_at at w n) h batch t) (scanned (line_at at w n) newline)

  shut-bad : (eqb at 49 && good (alarm_of w)) ≡ false → Shut
  unfolding scanned refusal_of done_or_bad fed_one
  shut-bad e = rw e (refused-closed w (min (n + 1) 65536) 14 h batch t (λ z. omega arith))

  shut-many : (eqb at 49 && good (alarm_of w)) ≡ true → leb (min (n + 1) 65536) 65535 ≡ false → Shut
  unfolding scanned refusal_of done_or_bad fed_one
  shut-many e m = rw (e, m) (refused-closed w (min (n + 1) 65536) 15 h batch t (λ z. omega arith))

  shut-good : (eqb at 49 && good (alarm_of w)) ≡ true → leb (min (n + 1) 65536) 65535 ≡ true → Shut
  unfolding scanned refusal_of done_or_bad
  shut-good e m =
      let st = stands-put (line_at at w n) (line_at 51 w (min (n + 1) 65536)) h batch t xs k refl in
      rw (e, m, st.is) (open_none 51 w (min (n + 1) 65536) st.held st.batch st.totals begun-done)

  shut : (g m : Bool) → (eqb at 49 && good (alarm_of w)) ≡ g → leb (min (n + 1) 65536) 65535 ≡ m → Shut
  shut false m e d = shut-bad e
  shut true false e d = shut-many e d
  shut true true e d = shut-good e d

-- a text at its end
plain-told : (a w n h : ℕ) (batch : List Alarm) (t : Totals) (xs : List Alarm) → begun a ≡ 0 → Keeps h batch t xs → length xs ≡ n → n ≤ 65535 → told_of (feed_of (line_at a w n) h batch t) ≡ told (suc n) xs []
unfolding told_of last_of told
plain-told a w n h batch t xs e k l f = rw (open_none a w n h batch t e) (keeps-table h batch t xs k (omega arith))

last-told : (p : List ℕ) (a w n h : ℕ) (batch : List Alarm) (t : Totals) (xs : List Alarm) → begun a ≡ 0 → Keeps h batch t xs → length xs ≡ n → n ≤ 65535
    → last_of (closed (fed_one (feed_of (line_at (end_at a p) (end_word a w p) n) h batch t) (scanned (line_at (end_at a p) (end_word a w p) n) newline))) ≡ told (suc n) xs (p ∷ [])
unfolding told_of fed_all lines_of
last-told p a w n h batch t xs e k l f = line-told [] n f (λ w h batch t xs k l f. plain-told 51 w (suc n) h batch t xs begun-done k l f) a w p h batch t xs e k l

end-told : (p : List ℕ) (a w n h : ℕ) (batch : List Alarm) (t : Totals) (xs : List Alarm) → begun a ≡ 0 → Keeps h batch t xs → length xs ≡ n → n ≤ 65535
    → told_of (feed_of (line_at (end_at a p) (end_word a w p) n) h batch t) ≡ told (suc n) xs (behind p [])
unfolding end_at end_word told_of
end-told [] a w n h batch t xs e k l f = plain-told a w n h batch t xs e k l f
end-told (x ∷ p) a w n h batch t xs e k l f =
    ap last_of (open-some (end_at a (x ∷ p)) (end_word a w (x ∷ p)) n h batch t (end-some a x p) ∙ sym (shut (end_at a (x ∷ p)) (end_word a w (x ∷ p)) n h batch t xs k _ _ refl refl))
    ∙ last-told (x ∷ p) a w n h batch t xs e k l f

-- one byte further in a line
in-line : (at w n h : ℕ) (batch : List Alarm) (t : Totals) (b : ℕ) → (b ≡ newline → ⊥)
    → fed_one (feed_of (line_at at w n) h batch t) (scanned (line_at at w n) b) ≡ feed_of (line_at (place_after (begun at) b (value b)) (word_after (begun at) w (value b)) n) h batch t
unfolding scanned fed_one
in-line at w n h batch t b z =
    let s = after-some (begun at) b (value b) in
    let d : place_after (begun at) b (value b) ≡ 51 → ⊥ = λ e. omega (arith, s.1) in
    rw (ne_eqb b 10 z, ne_eqb (place_after (begun at) b (value b)) 51 d)

-- the lines of a text, byte by byte
lines_end : (b : ℕ) (bs : List ℕ) → b ≡ newline → lines_of (b ∷ bs) ≡ [] ∷ lines_of bs
unfolding lines_of
lines_end b bs e = rw (eq-eqb b 10 e)

lines_more : (b : ℕ) (bs : List ℕ) → (b ≡ newline → ⊥) → lines_of (b ∷ bs) ≡ on_first b (lines_of bs)
unfolding lines_of
lines_more b bs e = rw (ne_eqb b 10 e)

-- a text from anywhere in a line on
told-from : (bs p : List ℕ) (a w n h : ℕ) (batch : List Alarm) (t : Totals) (xs : List Alarm) → begun a ≡ 0 → Keeps h batch t xs → length xs ≡ n → n ≤ 65535
    → told_of (fed_all (feed_of (line_at (end_at a p) (end_word a w p) n) h batch t) bs) ≡ told (suc n) xs (behind p (lines_of bs))
unfolding fed_all lines_of end_at end_word
told-from [] p a w n h batch t xs e k l f = end-told p a w n h batch t xs e k l f
told-from (b ∷ bs) p a w n h batch t xs e k l f =
    by-eq b newline
    (λ z. rw (lines_end b bs z, z, behind-end p (lines_of bs))
    (line-told bs n f (λ w h batch t xs k l f. told-from bs [] 51 w (suc n) h batch t xs begun-done k l f) a w p h batch t xs e k l))
    (λ z. rw (lines_more b bs z, in-line (end_at a p) (end_word a w p) n h batch t b z, sym (end_at-more a p b), sym (end_word-more a w p b), sym (behind_more p b (lines_of bs)))
    (told-from bs (p ++ (b ∷ [])) a w n h batch t xs e k l f))

pub fed-joined : (f : Feed) (v w : List ℕ) → fed_all f (v ++ w) ≡ fed_all (fed_all f v) w
unfolding fed_all
fed-joined f [] w = refl
fed-joined f (b ∷ v) w = fed-joined (fed_one f (scanned f.scan b)) v w

fed-none : (f : Feed) → f ≡ fed_all f []
unfolding fed_all
fed-none f = refl

fed-pieces : (f : Feed) (pieces : List (List ℕ)) → fed_in f pieces ≡ fed_all f (joined pieces)
fed-pieces f [] = fed-none f
fed-pieces f (piece ∷ pieces) = fed-pieces (fed_all f piece) pieces ∙ sym (fed-joined f piece (joined pieces))

pub report-told : ReportTold
unfolding report end_at end_word
report-told pieces = ap told_of (fed-pieces start pieces) ∙ told-from (joined pieces) [] 0 0 0 0 no_batch no_totals [] begun-zero keeps-none refl (omega arith)
