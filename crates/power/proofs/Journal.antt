-- The journal's law, once for every target: until the byte stands that says what it is about, recovery gives what was; from then on what is to be.
use Prim.Native.Nat.{ℕ, ◌≤◌, ◌<◌}
use mathlib.Core.Bool.{true}
use mathlib.Core.List.{List, [], ◌∷◌}
use mathlib.Core.Path.{◌≡◌, refl, ap, ap₂, ◌∙◌}
use lib.ListN.{length, take, get_or, set}
use lib.Seq.{sets}
use Rattle.files.specs.declared.File.{File}
use Rattle.files.specs.Part.{zeros}
use Rattle.files.specs.State.{with_files}
use Rattle.rules.specs.declared.Journal.{Journal}
use Rattle.rules.specs.declared.Card.{Card}
use Rattle.rules.specs.State.{with_credentials, with_directory, with_journal, journal_size, journal_of, no_journal, with_bytes, with_length}
use Rattle.rules.specs.Calls.{cleared}
use Rattle.power.specs.Store.{Memory, memory, value_byte, value_length, entry_byte, journal_what, journal_byte, with_byte, put, puts, row}
use Rattle.power.specs.Journal.{Target, none, credential, entry, code, decode, with_value_of, with_known, redo, left_by_cut, possible, target_stores, after_commit, journaled}
use Rattle.power.specs.Recovery.{trimmed, tidied}
use Rattle.power.proofs.Alter.{alter-twice}
use Rattle.power.proofs.Cuts.{puts-append, EachCut, cut-first, cut-then, cut-whole, cut-row, Keep, cut-kept, keep_row, keep-then, cut_at}
use Rattle.power.proofs.Rows.{row-journal}

-- what a target is made from does not ask what it was
module _ (t : Target) (j : List ℕ) (J : Journal) (c : Card) (area : List ℕ) where
  -- nothing else has changed
  pub record Same (m : Memory) : Type 0 where
    pub journal-is : m.card.journal ≡ J
    pub count-is : m.card.directory.count ≡ c.directory.count
    pub redo-is : redo t j m.card ≡ redo t j c
    pub area-is : m.area ≡ area

value-absorbed : (n : ℕ) (j : List ℕ) (J : Journal) (c : Card) (area : List ℕ) (i b : ℕ) (m : Memory)
    → Same (credential n) j J c area m → Same (credential n) j J c area (put (value_byte n i b) m)
value-absorbed n j J c area i b m h = record {
  journal-is = h.journal-is;
  count-is = h.count-is;
  redo-is =
      ap (with_credentials m.card) (alter-twice (with_value_of j) (λ x. with_bytes (set x.value i b) x) (with_value_of j) (λ x. refl) m.card.credentials n)
      ∙ h.redo-is;
  area-is = h.area-is;
}

length-absorbed : (n : ℕ) (j : List ℕ) (J : Journal) (c : Card) (area : List ℕ) (b : ℕ) (m : Memory)
    → Same (credential n) j J c area m → Same (credential n) j J c area (put (value_length n b) m)
length-absorbed n j J c area b m h = record {
  journal-is = h.journal-is;
  count-is = h.count-is;
  redo-is =
      ap (with_credentials m.card) (alter-twice (with_value_of j) (with_length b) (with_value_of j) (λ x. refl) m.card.credentials n) ∙ h.redo-is;
  area-is = h.area-is;
}

known-absorbed : (place : ℕ) (j : List ℕ) (J : Journal) (c : Card) (area : List ℕ) (i b : ℕ)
    → ((f : File) → with_known j (with_byte i b f) ≡ with_known j f) → (m : Memory)
    → Same (entry place) j J c area m → Same (entry place) j J c area (put (entry_byte place i b) m)
known-absorbed place j J c area i b e m h = record {
  journal-is = h.journal-is;
  count-is = h.count-is;
  redo-is =
      ap (λ (l : List File). with_directory m.card (with_files m.card.directory l))
      (alter-twice (with_known j) (with_byte i b) (with_known j) e m.card.directory.files place)
      ∙ h.redo-is;
  area-is = h.area-is;
}

pub target-kept : (t : Target) (b j : List ℕ) (J : Journal) (c : Card) (area : List ℕ) → Keep (Same t j J c area) (target_stores t b)
target-kept none b j J c area = tt
target-kept (credential n) b j J c area =
    keep-then (Same (credential n) j J c area) (row (value_byte n) 0 (take 16 b)) (value_length n (get_or b 16 0) ∷ [])
    (keep_row (Same (credential n) j J c area) (value_byte n) (value-absorbed n j J c area) 0 (take 16 b))
    (length-absorbed n j J c area (get_or b 16 0), tt)
target-kept (entry place) b j J c area = (
  known-absorbed place j J c area 7 (get_or b 0 0) (λ f. refl),
  (
    known-absorbed place j J c area 8 (get_or b 1 0) (λ f. refl),
    (known-absorbed place j J c area 9 (get_or b 2 0) (λ f. refl), (known-absorbed place j J c area 10 (get_or b 3 0) (λ f. refl), tt)),
  ),
)

-- with nothing in the journal recovery makes nothing from it
pub empty-tidied : (c : Card) (b : List ℕ) → tidied (with_journal c (journal_of 0 b)) ≡ tidied (with_journal c no_journal)
unfolding tidied
empty-tidied c b = refl

redo-tidied : (t : Target) (b : List ℕ) (c : Card) (J : Journal)
    → cleared (with_journal (trimmed (redo t b (with_journal c J))) no_journal) ≡ tidied (with_journal (redo t b c) no_journal)
unfolding tidied
redo-tidied none b c J = refl
redo-tidied (credential n) b c J = refl
redo-tidied (entry place) b c J = refl

same-tidied : (t : Target) → decode (code t) ≡ t → (j : List ℕ) (c : Card) (area : List ℕ) (m : Memory)
    → Same t j (journal_of (code t) j) c area m → tidied m.card ≡ cleared (with_journal (trimmed (redo t j c)) no_journal)
unfolding tidied
same-tidied t e j c area m h =
    ap (λ (x : Journal). cleared (with_journal (trimmed (redo (decode x.what) x.bytes m.card)) no_journal)) h.journal-is
    ∙ ap (λ (x : Target). cleared (with_journal (trimmed (redo x j m.card)) no_journal)) e
    ∙ ap (λ (x : Card). cleared (with_journal (trimmed x) no_journal)) h.redo-is

-- a target is not the journal
pub redo-journal : (t : Target) (b : List ℕ) (c : Card) (J : Journal) → redo t b (with_journal c J) ≡ with_journal (redo t b c) J
redo-journal none b c J = refl
redo-journal (credential n) b c J = refl
redo-journal (entry place) b c J = refl

-- a journal that is about nothing is one that a cut leaves
pub empty_left : (b : List ℕ) (count : ℕ) → left_by_cut (journal_of 0 b) count ≡ true
unfolding left_by_cut
empty_left b count = refl

pub none-possible : (c : Card) → c.journal ≡ no_journal → possible c ≡ true
none-possible c e = ap (λ (j : Journal). left_by_cut j c.directory.count) e ∙ empty_left _ _

-- of the card c with an empty journal, and a target and its bytes: the stores make what recovery makes, from the bytes as the journal has them too, and the
-- bytes are emptied again
module _ (c : Card) (area : List ℕ) (t : Target) (b : List ℕ) where
  pub record Fit : Type 0 where
    pub coded : decode (code t) ≡ t
    pub may : left_by_cut (journal_of (code t) (sets (zeros journal_size) 0 b)) c.directory.count ≡ true
    pub made : (J : Journal) → puts (target_stores t b) (memory (with_journal c J) area) ≡ memory (redo t b (with_journal c J)) area
    pub kept_in : (x : Card) → redo t (sets (zeros journal_size) 0 b) x ≡ redo t b x
    pub emptied-again : sets (sets (zeros journal_size) 0 b) 0 (zeros (length b)) ≡ zeros journal_size

  -- what recovery gives: what was, or what is to be
  pub record Old (m : Memory) : Type 0 where
    pub card-is : tidied m.card ≡ tidied (with_journal c no_journal)
    pub area-is : m.area ≡ area
    pub may : possible m.card ≡ true

  pub record New (m : Memory) : Type 0 where
    pub card-is : tidied m.card ≡ tidied (with_journal (redo t b c) no_journal)
    pub area-is : m.area ≡ area
    pub may : possible m.card ≡ true

  abbrev pub start : Memory
  start = memory (with_journal c no_journal) area

  abbrev kept : List ℕ
  kept = sets (zeros journal_size) 0 b

  abbrev full : Journal
  full = journal_of (code t) (sets (zeros journal_size) 0 b)

  -- until it is said what the bytes are
  pub journal-before : EachCut Old (row journal_byte 0 b) (memory (with_journal c no_journal) area)
  journal-before =
      cut-row Old journal_byte 0 b start
      (λ n. rw (row-journal 0 (take n b) start) (record { card-is = empty-tidied c (sets (zeros journal_size) 0 (take n b)); area-is = refl; may = empty_left _ _ }))

  committed : put (journal_what (code t)) (puts (row journal_byte 0 b) (memory (with_journal c no_journal) area)) ≡ memory (with_journal c full) area
  committed = ap (put (journal_what (code t))) (row-journal 0 b start)

  module _ (fit : Fit) where
    redoing : EachCut New (target_stores t b) (memory (with_journal c full) area)
    redoing n =
        let h = cut-kept (Same t kept full (with_journal c full) area) (target_stores t b) (memory (with_journal c full) area)
        (target-kept t b kept full (with_journal c full) area) (record { journal-is = refl; count-is = refl; redo-is = refl; area-is = refl }) n in
        record {
          card-is =
              same-tidied t fit.coded kept (with_journal c full) area _ h
              ∙ ap (λ (x : Card). cleared (with_journal (trimmed x) no_journal)) (fit.kept_in (with_journal c full))
              ∙ redo-tidied t b c full;
          area-is = h.area-is;
          may = ap₂ left_by_cut h.journal-is h.count-is ∙ fit.may;
        }

    made-now : puts (target_stores t b) (memory (with_journal c full) area) ≡ memory (with_journal (redo t b c) full) area
    made-now = fit.made full ∙ ap (λ (x : Card). memory x area) (redo-journal t b c full)

    emptying : EachCut New (journal_what 0 ∷ row journal_byte 0 (zeros (length b))) (memory (with_journal (redo t b c) full) area)
    emptying =
        cut-first New (journal_what 0) (row journal_byte 0 (zeros (length b))) (memory (with_journal (redo t b c) full) area)
        (rw made-now at (cut-whole New (target_stores t b) (memory (with_journal c full) area) redoing))
        (cut-row New journal_byte 0 (zeros (length b)) _
        (λ n. rw (row-journal 0 (take n (zeros (length b))) (memory (with_journal (redo t b c) (journal_of 0 kept)) area))
        (record { card-is = empty-tidied (redo t b c) (sets kept 0 (take n (zeros (length b)))); area-is = refl; may = empty_left _ _ })))

    -- from then on
    pub journal-after : EachCut New (after_commit t b) (put (journal_what (code t)) (puts (row journal_byte 0 b) (memory (with_journal c no_journal) area)))
    journal-after =
        rw committed (cut-then New (target_stores t b) (journal_what 0 ∷ row journal_byte 0 (zeros (length b))) (memory (with_journal c full) area) redoing
        (rw made-now emptying))

    -- and at the end
    pub journal-whole : puts (journaled t b) (memory (with_journal c no_journal) area) ≡ memory (with_journal (redo t b c) no_journal) area
    journal-whole =
        puts-append (row journal_byte 0 b) (journal_what (code t) ∷ after_commit t b) start
        ∙ ap (puts (after_commit t b)) committed
        ∙ puts-append (target_stores t b) (journal_what 0 ∷ row journal_byte 0 (zeros (length b))) (memory (with_journal c full) area)
        ∙ ap (puts (journal_what 0 ∷ row journal_byte 0 (zeros (length b)))) made-now
        ∙ row-journal 0 (zeros (length b)) (memory (with_journal (redo t b c) (journal_of 0 kept)) area)
        ∙ ap (λ (l : List ℕ). memory (with_journal (redo t b c) (journal_of 0 l)) area) fit.emptied-again

    -- the law: one store decides
    pub journal-law : (n : ℕ)
        → (n ≤ length (row journal_byte 0 b) → Old (puts (take n (journaled t b)) (memory (with_journal c no_journal) area)))
        × (length (row journal_byte 0 b) < n → New (puts (take n (journaled t b)) (memory (with_journal c no_journal) area)))
    journal-law = cut_at Old New (row journal_byte 0 b) (journal_what (code t)) (after_commit t b) start journal-before journal-after
